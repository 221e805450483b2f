use Rattle.std.proofs.Common.{◌≡◌, ◌+◌, ◌*◌, ◌++◌, ℕ, take, List, map, length, sym, subst, ap, arith, ◌∙◌}
use Rattle.be_tree_reading.specs.Tree.{IsTree, pairs}
use Rattle.be_tree_reading.proofs.Frame.{unchanged_trans}
use Rattle.be_paged_reading.specs.Catalog.{IsCatalog}
use Rattle.be_paged_reading.specs.Cells.{AreReported, found_at, found_in, name_in}
use Rattle.be_paged_reading.proofs.CatalogPairs.Validity.{values_valid}
use Rattle.be_paged_reading.proofs.Reported.{Found, table_more, tree_since}
use Rattle.be_paged_reading.proofs.rows.columns.Goals as goal

more_by : (i m : ℕ) → (i + 1) * m ≡ i * m + m
more_by i m = grind arith

pub report_row-requires-clause-row : goal.report_row-requires-clause-row
report_row-requires-clause-row g c =
    let s = g.L.Look.page_state c.args.look.now in
    let v = g.L.Look.words c.args.look.now in
    c.new-row.ensures.row (g.L.Look.page_state c.loop-node.look) (g.L.Look.words c.loop-node.look)
    (tree_since s (g.L.Look.page_state c.loop-node.look) v (g.L.Look.words c.loop-node.look) c.word-catalog.result c.loop-node.invariant.unchanged.page_state c.loop-node.invariant.unchanged.words
    (subst (λ (r : ℕ). IsTree s v r) (sym c.word-catalog.ensures.value) (c.requires.version.1.in_hand.trees.each 0 0 (omega arith))))

pub loop-node-preserved : goal.loop-node-preserved
loop-node-preserved g c = record {
  reported = λ volume version.
      let root = subst (λ (r : ℕ). IsCatalog (pairs (g.L.Look.words c.args.look.now) r) volume.nodes) (sym c.word-catalog.ensures.value) version.encodes.catalog in
      let catalog = subst (λ (w : ℕ → ℕ → ℕ). IsCatalog (pairs w c.word-catalog.result) volume.nodes) (sym c.loop-node.invariant.unchanged.words) root in
      subst (λ (l : List Found). AreReported l c.args.cells.now c.report_row.new.cells c.args.bytes.now c.report_row.new.bytes c.report_row.new.filled)
      (table_more volume.nodes c.args.nodes.now c.loop-node.node-index _ (map name_in c.args.names.now) c.loop-node-test.true)
      (subst (λ (n : ℕ). AreReported (found_in volume.nodes (take c.loop-node.node-index c.args.nodes.now) (map name_in c.args.names.now) ++ map (found_at volume.nodes n) (map name_in c.args.names.now)) c.args.cells.now c.report_row.new.cells c.args.bytes.now c.report_row.new.bytes c.report_row.new.filled)
      c.new-row.ensures.node
      (c.report_row.ensures.reported volume.nodes (subst (λ (r : ℕ). IsCatalog (pairs (g.L.Look.words c.loop-node.look) r) volume.nodes) (sym c.new-row.ensures.catalog) catalog)
      (values_valid volume version.sound) _ c.args.cells.now c.args.bytes.now (c.loop-node.invariant.reported volume version)));
  count = c.report_row.ensures.count ∙ ap (λ (n : ℕ). n + length c.args.names.now) c.loop-node.invariant.count ∙ sym (more_by c.loop-node.node-index (length c.args.names.now));
  few = c.report_row.ensures.few;
  unchanged = unchanged_trans g.L.Look.kept g.L.Look.page_state g.L.Look.words c.args.look.now c.loop-node.look c.report_row.new.look c.loop-node.invariant.unchanged c.report_row.ensures.unchanged;
}
