use Rattle.std.proofs.Common.{ℕ, sym, subst}
use Rattle.std.specs.declared.option.Option.{Option}
use Rattle.be_tree_reading.specs.Tree.{pairs}
use Rattle.be_value.specs.declared.values.Value.{Value}
use Rattle.be_paged_reading.specs.Catalog.{IsCatalog}
use Rattle.be_paged_reading.specs.Cells.{IsReadInto}
use Rattle.be_paged_reading.proofs.CatalogPairs.Validity.{values_valid}
use Rattle.be_paged_reading.proofs.rows.get_into.Goals as goal

pub returns-clause-value : goal.returns-clause-value
returns-clause-value g c = λ volume version.
    let words = g.L.Look.words c.args.look.now in
    let root = subst (λ (r : ℕ). IsCatalog (pairs words r) volume.nodes) (sym c.word-catalog.ensures.value) version.encodes.catalog in
    let catalog = subst (λ (w : ℕ → ℕ → ℕ). IsCatalog (pairs w c.word-catalog.result) volume.nodes) (sym c.word-catalog.ensures.words) root in
    let has = c.in_ok-page.ensures.some volume.nodes catalog (values_valid volume version.sound) in
    subst (λ (a : Option Value). IsReadInto a c.read_into.result c.args.bytes.now c.read_into.new.bytes) (sym has.there)
    (has.is_value, c.read_into.ensures.cell has.value has.is_value has.is, c.read_into.ensures.bytes has.value has.is_value has.is)
