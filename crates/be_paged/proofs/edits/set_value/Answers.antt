use Rattle.std.proofs.Common.{sym, ◌∙◌, subst, Some, refl, rules, arith}
use Rattle.be_tree_reading.specs.Pair.{Pair}
use Rattle.be_tree_reading.specs.Tree.{pairs}
use Rattle.be_volume.specs.Maps.{with_attribute}
use Rattle.be_volume.specs.declared.ops.Op.TheVariants.{Set}
use Rattle.be_volume.proofs.StepLemmas.{made, accepted}
use Rattle.be_paged_reading.specs.Page.{Contents, contents}
use Rattle.be_paged_reading.specs.Catalog.{IsCatalog}
use Rattle.be_paged.specs.Changes.{with_indices}
use Rattle.be_paged.proofs.Applying.Composing.{changes_trans, start_after}
use Rattle.be_paged.proofs.Applying.Hand.{catalog_changes, catalog_encodes}
use Rattle.be_paged_reading.proofs.CatalogPairs.Items.{catalog_set}
use Rattle.be_paged.proofs.IndexEntries.Settled.{settled}
use Rattle.be_paged.proofs.Applying.Stepping.{stepped_is}
use Rattle.be_paged.proofs.Sizes.Stopping.{stops_more, catalog_stops, stops_after, tree_stops}
use Rattle.be_tree.proofs.Shape.Parts.{on_err}
use Rattle.be_paged.proofs.edits.set_value.Goals as goal

pub insert-requires-clause-tree : goal.insert-requires-clause-tree
insert-requires-clause-tree g c = c.in_ok-change_entry.ensures.changes.0.in_hand.trees.each 0 0 (omega arith)

pub returns-clause-changes : goal.returns-clause-changes
returns-clause-changes g c =
    let K = g.R.Look.kept in
    let before = contents c.args.version.now in
    let mid = contents c.change_entry.new.version in
    let after : Contents = record { next = mid.next; catalog = c.in_ok-version.field-0; entries = mid.entries } in
    let first = c.in_ok-change_entry.ensures.changes.0 in
    changes_trans g.R.Look.kept g.R.Look.page_state g.R.Look.words before mid after c.args.room.now c.change_entry.new.room c.insert.new.room first
    (catalog_changes g.R.Look.kept g.R.Look.page_state g.R.Look.words c.change_entry.new.room c.insert.new.room mid first.in_hand c.in_ok-version.field-0
    c.in_ok-version.ensures.ok.tree c.in_ok-version.ensures.ok.swaps mid.next first.in_hand.fits)

pub returns-clause-steps : goal.returns-clause-steps
returns-clause-steps g c = λ volume encodes sound ok.
    let node = c.args.node in
    let name = c.args.name.now in
    let value = c.args.value.now in
    let op = Set node name value in
    let mid = contents c.change_entry.new.version in
    let between = c.in_ok-change_entry.ensures.encodes volume encodes sound in
    let pair : Pair = record { key = c.deref.result.now; payload = c.deref-2.result.now } in
    let found = (accepted volume op ok).found in
    let catalog = catalog_set (pairs (g.R.Look.words c.change_entry.new.room) mid.catalog) volume.nodes node name value pair c.ranges.node.fits found.0 c.catalog_key-key.ensures.valid
    (c.deref.ensures.0 ∙ c.catalog_key-key.ensures.key) (c.deref-2.ensures.0 ∙ c.payload_of.ensures.payload) between.catalog in
    record {
      made = made volume op;
      stepped = stepped_is volume op ok;
      encodes = catalog_encodes g.R.Look.kept g.R.Look.page_state g.R.Look.words c.change_entry.new.room c.insert.new.room mid c.in_ok-change_entry.ensures.changes.0.in_hand c.in_ok-version.field-0
          c.in_ok-version.ensures.ok.tree c.in_ok-version.ensures.ok.swaps (with_indices volume name node (Some value)) mid.next volume.next (with_attribute volume.nodes node name value) between.next between
          (subst (λ xs. IsCatalog xs (with_attribute volume.nodes node name value)) (sym c.in_ok-version.ensures.ok.has_pairs) catalog);
    }

pub returns-clause-stays : goal.returns-clause-stays
returns-clause-stays g c = λ volume encodes sound lies.
    let s = settled volume c.args.node c.args.name.now c.args.value.now lies in
    c.in_ok-change_entry.ensures.stays volume encodes sound c.args.value.now s.has refl s.indices

pub returns-in_err-change_entry-clause-refused : goal.returns-in_err-change_entry-clause-refused
returns-in_err-change_entry-clause-refused g c = (
  on_err _ (c.in_err-change_entry.ensures.refused.0),
  search rules,
  on_err _ (stops_more g.R.Look.kept g.R.Look.page_state g.R.Look.words 0 1 (contents c.args.version.now) c.args.room.now c.change_entry.new.room (omega arith) c.in_err-change_entry.ensures.refused.2),
)

pub returns-in_err-version-clause-refused : goal.returns-in_err-version-clause-refused
returns-in_err-version-clause-refused g c =
    let new = c.insert.new.room in
    let back = start_after g.R.Look.kept g.R.Look.page_state g.R.Look.words (contents c.args.version.now) (contents c.change_entry.new.version) c.args.room.now c.change_entry.new.room new c.in_ok-change_entry.ensures.changes.0 c.in_err-version.ensures.err in
    let before = contents c.args.version.now in
    let mid = contents c.change_entry.new.version in
    let first = c.in_ok-change_entry.ensures.changes.0 in
    let tree = tree_stops g.R.Look.kept g.R.Look.page_state g.R.Look.words mid.catalog c.change_entry.new.room c.insert.new.room (first.in_hand.trees.each 0 0 (omega arith)) c.in_err-version.ensures.takes.1 in
    let k = stops_after g.R.Look.kept g.R.Look.page_state g.R.Look.words 1 0 1 before mid c.args.room.now c.change_entry.new.room c.insert.new.room first c.in_ok-change_entry.ensures.changes.1 (omega arith)
    (catalog_stops g.R.Look.kept g.R.Look.page_state g.R.Look.words c.change_entry.new.room c.insert.new.room mid first.in_hand tree) in
    (on_err _ back, search rules, on_err _ k)
