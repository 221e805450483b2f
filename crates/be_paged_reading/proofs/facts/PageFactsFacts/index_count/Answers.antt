use Rattle.std.proofs.Common.{◌∙◌}
use Rattle.be_paged_reading.proofs.CatalogPairs.FactValues.{index_count}
use Rattle.be_paged_reading.proofs.facts.PageFactsFacts.index_count.Goals as goal

pub returns-clause-answer : goal.returns-clause-answer
returns-clause-answer g c = λ volume answers.
    c.len.ensures.value ∙ index_count (g.L.Look.words c.args.self.now.look.now) c.args.self.now.version.now.entries.items volume.indices answers.reported.encodes.indices
