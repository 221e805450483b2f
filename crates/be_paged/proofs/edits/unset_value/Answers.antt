use Rattle.std.proofs.Common.{sym, ◌∙◌, subst, None, rules, arith}
use Rattle.std.specs.FinMap as fin
use Rattle.be_tree_reading.specs.Tree.{pairs}
use Rattle.be_volume.specs.Maps.{attributes_of}
use Rattle.be_volume.specs.declared.ops.Op.TheVariants.{Unset}
use Rattle.be_volume.proofs.StepLemmas.{made, accepted}
use Rattle.be_paged_reading.specs.Page.{Contents, contents}
use Rattle.be_paged_reading.specs.Catalog.{IsCatalog}
use Rattle.be_paged.specs.Changes.{with_indices}
use Rattle.be_paged.proofs.Applying.Composing.{changes_trans, start_after}
use Rattle.be_paged.proofs.Applying.Hand.{catalog_changes, catalog_encodes}
use Rattle.be_paged_reading.proofs.CatalogPairs.Items.{catalog_unset}
use Rattle.be_paged.proofs.Applying.Stepping.{stepped_is}
use Rattle.be_paged.proofs.Sizes.Stopping.{catalog_stops, stops_after, tree_stops, catalog_gains, gains_trans, without_pairs}
use Rattle.be_tree.proofs.Shape.Parts.{on_err}
use Rattle.be_paged.proofs.edits.unset_value.Goals as goal

pub remove-requires-clause-tree : goal.remove-requires-clause-tree
remove-requires-clause-tree g c = c.in_ok-change_entry.ensures.changes.0.in_hand.trees.each 0 0 (omega arith)

pub returns-clause-changes : goal.returns-clause-changes
returns-clause-changes g c =
    let w = g.R.Look.words in
    let before = contents c.args.version.now in
    let mid = contents c.change_entry.new.version in
    let after : Contents = record { next = mid.next; catalog = c.in_ok-version.field-0; entries = mid.entries } in
    let first = c.in_ok-change_entry.ensures.changes.0 in
    let ok = c.in_ok-version.ensures.ok in
    let last = catalog_gains g.R.Look.kept g.R.Look.page_state g.R.Look.words c.change_entry.new.room c.remove.new.room mid first.in_hand c.in_ok-version.field-0 0 mid.next ok.tree ok.swaps
    (without_pairs c.deref.result.now (pairs (w c.change_entry.new.room) mid.catalog) (pairs (w c.remove.new.room) c.in_ok-version.field-0) ok.has_pairs) in (
      changes_trans g.R.Look.kept g.R.Look.page_state g.R.Look.words before mid after c.args.room.now c.change_entry.new.room c.remove.new.room first
          (catalog_changes g.R.Look.kept g.R.Look.page_state g.R.Look.words c.change_entry.new.room c.remove.new.room mid first.in_hand c.in_ok-version.field-0
          ok.tree ok.swaps mid.next first.in_hand.fits),
      gains_trans 0 0 0 (w c.args.room.now) (w c.change_entry.new.room) (w c.remove.new.room) before mid after c.in_ok-change_entry.ensures.changes.1 last (omega arith),
    )

pub returns-clause-steps : goal.returns-clause-steps
returns-clause-steps g c = λ volume encodes sound ok.
    let node = c.args.node in
    let name = c.args.name.now in
    let op = Unset node name in
    let mid = contents c.change_entry.new.version in
    let nodes = fin.insert volume.nodes node (fin.remove (attributes_of volume.nodes node) name) in
    let between = c.in_ok-change_entry.ensures.encodes volume encodes sound in
    let found = (accepted volume op ok).found in
    let catalog = catalog_unset (pairs (g.R.Look.words c.change_entry.new.room) mid.catalog) volume.nodes node name c.deref.result.now c.ranges.node.fits found.0 c.catalog_key-key.ensures.valid
    (c.deref.ensures.0 ∙ c.catalog_key-key.ensures.key) between.catalog in
    record {
      made = made volume op;
      stepped = stepped_is volume op ok;
      encodes = catalog_encodes g.R.Look.kept g.R.Look.page_state g.R.Look.words c.change_entry.new.room c.remove.new.room mid c.in_ok-change_entry.ensures.changes.0.in_hand c.in_ok-version.field-0
          c.in_ok-version.ensures.ok.tree c.in_ok-version.ensures.ok.swaps (with_indices volume name node None) mid.next volume.next nodes between.next between
          (subst (λ xs. IsCatalog xs nodes) (sym c.in_ok-version.ensures.ok.has_pairs) catalog);
    }

pub returns-in_err-version-clause-refused : goal.returns-in_err-version-clause-refused
returns-in_err-version-clause-refused g c =
    let new = c.remove.new.room in
    let back = start_after g.R.Look.kept g.R.Look.page_state g.R.Look.words (contents c.args.version.now) (contents c.change_entry.new.version) c.args.room.now c.change_entry.new.room new c.in_ok-change_entry.ensures.changes.0 c.in_err-version.ensures.err in
    let before = contents c.args.version.now in
    let mid = contents c.change_entry.new.version in
    let first = c.in_ok-change_entry.ensures.changes.0 in
    let tree = tree_stops g.R.Look.kept g.R.Look.page_state g.R.Look.words mid.catalog c.change_entry.new.room c.remove.new.room (first.in_hand.trees.each 0 0 (omega arith)) c.in_err-version.ensures.takes.1 in
    let k = stops_after g.R.Look.kept g.R.Look.page_state g.R.Look.words 0 0 0 before mid c.args.room.now c.change_entry.new.room c.remove.new.room first c.in_ok-change_entry.ensures.changes.1 (omega arith)
    (catalog_stops g.R.Look.kept g.R.Look.page_state g.R.Look.words c.change_entry.new.room c.remove.new.room mid first.in_hand tree) in
    (on_err _ back, search rules, on_err _ k)
