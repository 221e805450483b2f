use Rattle.std.proofs.Common.{ℕ, ◌+◌, ◌<◌, ◌^◌, [], ap, sym, refl, ◌∙◌, subst, Ok, arith, rules}
use Rattle.std.specs.Int.{to_be_bytes, w64}
use Rattle.std.specs.FinMap as fin
use Rattle.std.proofs.lemmas.List.{append-nil}
use Rattle.be_tree_reading.specs.Pair.{Pair}
use Rattle.be_tree_reading.specs.Tree.{pairs}
use Rattle.be_volume.specs.declared.ops.Op.TheVariants.{New}
use Rattle.be_volume.specs.declared.ops.Done.TheVariants.{Node}
use Rattle.be_volume.proofs.StepLemmas.{made}
use Rattle.be_paged_reading.specs.Page.{contents}
use Rattle.be_paged_reading.specs.Catalog.{IsCatalog, catalog_key}
use Rattle.be_paged.proofs.Applying.Hand.{catalog_changes, catalog_encodes}
use Rattle.be_paged_reading.proofs.CatalogPairs.Items.{catalog_new}
use Rattle.be_paged_reading.proofs.CatalogPairs.Validity.{none_at_next}
use Rattle.be_paged.proofs.Sizes.Stopping.{catalog_stops, tree_stops}
use Rattle.be_tree.proofs.Shape.Parts.{on_err}
use Rattle.be_paged.proofs.edits.add_node.Goals as goal

pub insert-requires-clause-tree : goal.insert-requires-clause-tree
insert-requires-clause-tree g c = c.requires.in_hand.0.trees.each 0 0 (omega arith)

pub returns-clause-changes : goal.returns-clause-changes
returns-clause-changes g c =
    catalog_changes g.R.Look.kept g.R.Look.page_state g.R.Look.words c.args.room.now c.insert.new.room (contents c.args.version.now) c.requires.in_hand.0 c.in_ok-version.field-0
    c.in_ok-version.ensures.ok.tree c.in_ok-version.ensures.ok.swaps (c.args.version.now.next + 1) c.requires.in_hand.1

pub returns-clause-steps : goal.returns-clause-steps
returns-clause-steps g c = λ volume encodes sound.
    let next = c.args.version.now.next in
    let pair : Pair = record { key = c.to_be_bytes.result; payload = [] } in
    let items = pairs (g.R.Look.words c.args.room.now) c.args.version.now.catalog in
    let fits : volume.next < 2 ^ 64 = omega (arith, c.requires.in_hand.1, encodes.next) in
    let catalog = catalog_new items volume.nodes volume.next pair fits (none_at_next volume sound)
    (c.to_be_bytes.ensures ∙ sym (append-nil (to_be_bytes w64 next)) ∙ ap (λ (n : ℕ). catalog_key n []) encodes.next) refl encodes.catalog in
    record {
      made = made volume New;
      stepped = ap (λ (n : ℕ). Ok (made volume New, Node n)) (sym encodes.next);
      encodes = catalog_encodes g.R.Look.kept g.R.Look.page_state g.R.Look.words c.args.room.now c.insert.new.room (contents c.args.version.now) c.requires.in_hand.0 c.in_ok-version.field-0
          c.in_ok-version.ensures.ok.tree c.in_ok-version.ensures.ok.swaps volume (next + 1) (volume.next + 1) (fin.insert volume.nodes volume.next fin.empty) (ap (λ (n : ℕ). n + 1) encodes.next) encodes
          (subst (λ xs. IsCatalog xs (fin.insert volume.nodes volume.next fin.empty)) (sym c.in_ok-version.ensures.ok.has_pairs) catalog);
    }

pub returns-in_err-version-clause-refused : goal.returns-in_err-version-clause-refused
returns-in_err-version-clause-refused g c =
    let before = contents c.args.version.now in
    let h = c.requires.in_hand.0 in
    let k = catalog_stops g.R.Look.kept g.R.Look.page_state g.R.Look.words c.args.room.now c.insert.new.room before h
    (tree_stops g.R.Look.kept g.R.Look.page_state g.R.Look.words before.catalog c.args.room.now c.insert.new.room (h.trees.each 0 0 (omega arith)) c.in_err-version.ensures.takes.1) in
    (search rules, search rules, on_err _ k)
