use Rattle.std.proofs.Common.{ℕ, sym, subst}
use Rattle.be_tree_reading.specs.Tree.{pairs}
use Rattle.be_paged_reading.specs.Catalog.{IsCatalog}
use Rattle.be_paged_reading.proofs.CatalogPairs.Validity.{values_valid}
use Rattle.be_paged_reading.proofs.reading.get.Goals as goal

pub returns-clause-value : goal.returns-clause-value
returns-clause-value g c = λ volume version.
    let words = g.L.Look.words c.args.look.now in
    let root = subst (λ (r : ℕ). IsCatalog (pairs words r) volume.nodes) (sym c.word-catalog.ensures.value) version.encodes.catalog in
    c.value_in.ensures.value volume.nodes
    (subst (λ (w : ℕ → ℕ → ℕ). IsCatalog (pairs w c.word-catalog.result) volume.nodes) (sym c.word-catalog.ensures.words) root)
    (values_valid volume version.sound)
