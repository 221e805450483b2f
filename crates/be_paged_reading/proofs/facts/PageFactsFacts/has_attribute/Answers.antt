use Rattle.std.proofs.Common.{◌∙◌, sym, subst}
use Rattle.std.specs.declared.option.Option.{Option}
use Rattle.be_paged_reading.specs.Facts.{FactsOf}
use Rattle.be_paged_reading.specs.Page.{contents}
use Rattle.be_paged_reading.specs.declared.asked.Asked.{Asked}
use Rattle.be_paged_reading.proofs.CatalogPairs.FactValues.{facts_asked, no_attribute}
use Rattle.be_paged_reading.proofs.facts.PageFactsFacts.has_attribute.Goals as goal

pub returns-then-is_bare-clause-answer : goal.returns-then-is_bare-clause-answer
returns-then-is_bare-clause-answer g c = λ volume of.
    sym (no_attribute volume.nodes c.args.node c.args.name.now (c.is_bare.ensures c.if-is_bare.true volume of.reported.sound of.reported.encodes.next of.counted_is))

pub returns-clause-answer : goal.returns-clause-answer
returns-clause-answer g c = λ volume of. c.is_some.ensures ∙ c.attribute_place-place.ensures.there volume.nodes of.reported.encodes.catalog

pub returns-clause-answers : goal.returns-clause-answers
returns-clause-answers g c = λ volume of.
    let self = c.args.self.now in
    let look = c.attribute_place-place.new.look in
    let same = c.attribute_place-place.ensures.unchanged in
    let last : Asked = record { node = c.args.node; name = c.args.name.now; place = c.attribute_place-place.result } in
    subst (λ (asked : Option Asked). FactsOf (g.L.Look.page_state look) (g.L.Look.words look) (contents self.version.now) self.counted asked volume) (sym c.remember.ensures)
    (facts_asked (g.L.Look.page_state self.look.now) (g.L.Look.page_state look) (g.L.Look.words self.look.now) (g.L.Look.words look) (contents self.version.now) self.counted self.asked.now last volume
    same.page_state same.words of c.attribute_place-place.ensures.found)
