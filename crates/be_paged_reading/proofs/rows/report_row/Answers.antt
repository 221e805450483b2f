use Rattle.std.proofs.Common.{◌++◌, ◌∙◌, ℕ, List, map, refl, sym, subst, arith}
use Rattle.std.proofs.lemmas.List.{append-nil, take_all}
use Rattle.be_tree_reading.specs.Tree.{pairs}
use Rattle.be_tree_reading.proofs.Frame.{unchanged_trans}
use Rattle.be_paged_reading.specs.Catalog.{IsCatalog}
use Rattle.be_paged_reading.specs.Cells.{AreReported, found_at, name_in}
use Rattle.be_paged_reading.specs.declared.cells.HeldName.{HeldName}
use Rattle.be_paged_reading.proofs.Reported.{Found, row_more, reported_of}
use Rattle.be_paged_reading.proofs.rows.report_row.Goals as goal

pub loop-name-init : goal.loop-name-init
loop-name-init g c = record {
  row = record { in_row = c.requires.row; same_catalog = refl; same_node = refl };
  reported = λ nodes catalog valid found cell_places byte_places reported.
      subst (λ (l : List Found). AreReported l cell_places c.args.cells.now byte_places c.args.bytes.now c.args.filled.now) (sym (append-nil found)) reported;
  count = omega arith;
  few = c.requires.few;
  unchanged = record { kept = refl; page_state = refl; words = refl };
}

pub loop-name-preserved : goal.loop-name-preserved
loop-name-preserved g c = record {
  row = record {
    in_row = c.report_attribute.ensures.row.in_row;
    same_catalog = c.report_attribute.ensures.row.same_catalog ∙ c.loop-name.invariant.row.same_catalog;
    same_node = c.report_attribute.ensures.row.same_node ∙ c.loop-name.invariant.row.same_node;
  };
  reported = λ nodes catalog valid found cell_places byte_places reported.
      let row = c.args.row.now in
      let before = c.loop-name.invariant.reported nodes catalog valid found cell_places byte_places reported in
      let since = subst (λ (w : ℕ → ℕ → ℕ). IsCatalog (pairs w row.catalog) nodes) (sym c.loop-name.invariant.unchanged.words) catalog in
      let here = subst (λ (r : ℕ). IsCatalog (pairs (g.L.Look.words c.loop-name.look) r) nodes) (sym c.loop-name.invariant.row.same_catalog) since in
      let more = c.report_attribute.ensures.reported nodes here valid _ cell_places byte_places before in
      subst (λ (l : List Found). AreReported l cell_places c.report_attribute.new.cells byte_places c.report_attribute.new.bytes c.report_attribute.new.filled)
      (row_more (found_at nodes row.node) c.args.names.now c.loop-name.name-index _ found c.loop-name-test.true)
      (reported_of nodes _ row.node _ _ cell_places c.report_attribute.new.cells byte_places c.report_attribute.new.bytes c.report_attribute.new.filled c.loop-name.invariant.row.same_node more);
  count = omega (arith, c.report_attribute.ensures.one, c.loop-name.invariant.count);
  few = c.report_attribute.ensures.few;
  unchanged = unchanged_trans g.L.Look.kept g.L.Look.page_state g.L.Look.words c.args.look.now c.loop-name.look c.report_attribute.new.look c.loop-name.invariant.unchanged c.report_attribute.ensures.unchanged;
}

pub returns-clause-reported : goal.returns-clause-reported
returns-clause-reported g c = λ nodes catalog valid found cell_places byte_places reported.
    subst (λ (ns : List HeldName). AreReported (found ++ map (found_at nodes c.args.row.now.node) (map name_in ns)) cell_places c.loop-name.cells byte_places c.loop-name.bytes c.loop-name.filled)
    (take_all c.loop-name.name-index c.args.names.now (omega (arith, c.loop-name-test.false)))
    (c.loop-name.invariant.reported nodes catalog valid found cell_places byte_places reported)
