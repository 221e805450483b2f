use Rattle.std.proofs.Common.{◌∙◌, subst, List}
use Rattle.std.specs.Result.{IfOk, IfErr}
use Rattle.be_paged_reading.specs.Entry.{Entry}
use Rattle.be_paged_reading.specs.Page.{IsNamedAt, IsGapAt}
use Rattle.be_paged_reading.proofs.CatalogPairs.FactValues.{index_there}
use Rattle.be_paged_reading.proofs.facts.PageFactsFacts.has_index.Goals as goal

pub returns-clause-answer : goal.returns-clause-answer
returns-clause-answer g c = λ volume answers.
    let name = c.args.name.now in
    c.is_ok.ensures.value ∙ index_there (g.L.Look.words c.args.self.now.look.now) c.args.self.now.version.now.entries.items volume.indices name c.search.result answers.reported.encodes.indices
    (subst (λ (es : List Entry). IfOk c.search.result (IsNamedAt es name)) c.deref.ensures.0 c.search.ensures.found)
    (subst (λ (es : List Entry). IfErr c.search.result (IsGapAt es name)) c.deref.ensures.0 c.search.ensures.absent)
