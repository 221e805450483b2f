use Rattle.std.proofs.Common.{ap, is_some, ◌∙◌}
use Rattle.be_paged_reading.specs.Page.{contents}
use Rattle.be_paged_reading.proofs.Asking.Counting.{count_there}
use Rattle.be_paged_reading.proofs.CatalogPairs.FactValues.{facts_since}
use Rattle.be_paged_reading.proofs.facts.PageFactsFacts.has_node.Goals as goal

pub returns-clause-answer : goal.returns-clause-answer
returns-clause-answer g c = λ volume of. c.is_some.ensures ∙ ap is_some (c.count_of.ensures.count volume of.reported of.counted_is) ∙ count_there volume.nodes c.args.node

pub returns-clause-answers : goal.returns-clause-answers
returns-clause-answers g c = λ volume of.
    let self = c.args.self.now in
    let look = c.count_of.new.look in
    let same = c.count_of.ensures.unchanged in
    facts_since (g.L.Look.page_state self.look.now) (g.L.Look.page_state look) (g.L.Look.words self.look.now) (g.L.Look.words look) (contents self.version.now) self.counted c.count_of.new.counted self.asked.now volume
    same.page_state same.words of (c.count_of.ensures.counted volume of.reported of.counted_is)
