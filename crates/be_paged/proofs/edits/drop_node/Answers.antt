use Rattle.std.proofs.Common.{◌≡◌, ℕ, sym, subst, ◌∙◌, rules, arith}
use Rattle.std.specs.FinMap as fin
use Rattle.std.specs.Int.{to_be_bytes, w64}
use Rattle.std.proofs.lemmas.List.{append-nil}
use Rattle.be_tree_reading.specs.Tree.{pairs}
use Rattle.be_volume.specs.Indices.{Indices}
use Rattle.be_volume.specs.Maps.{Nodes}
use Rattle.be_volume.specs.Volume.{State}
use Rattle.be_volume.specs.declared.ops.Op.TheVariants.{Drop}
use Rattle.be_volume.proofs.StepLemmas.{made}
use Rattle.be_paged_reading.specs.Catalog.{IsCatalog}
use Rattle.be_paged_reading.specs.Page.{Contents, contents}
use Rattle.be_paged_reading.specs.Version.{Encodes}
use Rattle.be_paged.proofs.Applying.Composing.{changes_trans, start_after}
use Rattle.be_paged.proofs.Applying.Dropping.{no_values, indices_bare}
use Rattle.be_paged.proofs.Applying.Hand.{catalog_changes, catalog_encodes}
use Rattle.be_paged_reading.proofs.CatalogPairs.Items.{catalog_dropped}
use Rattle.be_paged.proofs.Applying.Stepping.{stepped_is}
use Rattle.be_paged.proofs.Sizes.Stopping.{catalog_stops, stops_after, tree_stops}
use Rattle.be_tree.proofs.Shape.Parts.{on_err}
use Rattle.be_paged.proofs.edits.drop_node.Goals as goal

same_state : {m n : ℕ} {a b : Nodes} {k l : Indices} → m ≡ n → a ≡ b → k ≡ l → ◌≡◌ {A = State} (record { next = m; nodes = a; indices = k }) (record { next = n; nodes = b; indices = l })
same_state p q r = λ i. record { next = p i; nodes = q i; indices = r i }

pub remove-requires-clause-tree : goal.remove-requires-clause-tree
remove-requires-clause-tree g c = c.in_ok-unset_all.ensures.changes.0.in_hand.trees.each 0 0 (omega arith)

pub returns-clause-changes : goal.returns-clause-changes
returns-clause-changes g c =
    let mid = contents c.unset_all.new.version in
    let after : Contents = record { next = mid.next; catalog = c.in_ok-version.field-0; entries = mid.entries } in
    let first = c.in_ok-unset_all.ensures.changes.0 in
    changes_trans g.R.Look.kept g.R.Look.page_state g.R.Look.words (contents c.args.version.now) mid after c.args.room.now c.unset_all.new.room c.remove.new.room first
    (catalog_changes g.R.Look.kept g.R.Look.page_state g.R.Look.words c.unset_all.new.room c.remove.new.room mid first.in_hand c.in_ok-version.field-0
    c.in_ok-version.ensures.ok.tree c.in_ok-version.ensures.ok.swaps mid.next first.in_hand.fits)

pub returns-clause-steps : goal.returns-clause-steps
returns-clause-steps g c = λ volume encodes sound fits ok.
    let node = c.args.node in
    let mid = contents c.unset_all.new.version in
    let b = c.in_ok-unset_all.ensures.bare volume encodes sound fits ok in
    let nodes = fin.remove b.left.nodes node in
    let catalog = catalog_dropped (pairs (g.R.Look.words c.unset_all.new.room) mid.catalog) b.left.nodes node c.to_be_bytes.result c.ranges.node.fits (no_values volume b.left node b.leaves b.bare)
    (c.to_be_bytes.ensures ∙ sym (append-nil (to_be_bytes w64 node))) b.encodes.catalog in
    let reported = catalog_encodes g.R.Look.kept g.R.Look.page_state g.R.Look.words c.unset_all.new.room c.remove.new.room mid c.in_ok-unset_all.ensures.changes.0.in_hand c.in_ok-version.field-0
    c.in_ok-version.ensures.ok.tree c.in_ok-version.ensures.ok.swaps b.left mid.next b.left.next nodes b.encodes.next b.encodes
    (subst (λ xs. IsCatalog xs nodes) (sym c.in_ok-version.ensures.ok.has_pairs) catalog) in
    record {
      made = made volume (Drop node);
      stepped = stepped_is volume (Drop node) ok;
      encodes = subst (Encodes (g.R.Look.words c.remove.new.room) _) (same_state b.leaves.next b.leaves.nodes (indices_bare volume b.left node b.leaves b.bare)) reported;
    }

pub returns-in_err-version-clause-refused : goal.returns-in_err-version-clause-refused
returns-in_err-version-clause-refused g c =
    let back = start_after g.R.Look.kept g.R.Look.page_state g.R.Look.words (contents c.args.version.now) (contents c.unset_all.new.version) c.args.room.now c.unset_all.new.room c.remove.new.room
    c.in_ok-unset_all.ensures.changes.0 c.in_err-version.ensures.err in
    let before = contents c.args.version.now in
    let mid = contents c.unset_all.new.version in
    let first = c.in_ok-unset_all.ensures.changes.0 in
    let tree = tree_stops g.R.Look.kept g.R.Look.page_state g.R.Look.words mid.catalog c.unset_all.new.room c.remove.new.room (first.in_hand.trees.each 0 0 (omega arith)) c.in_err-version.ensures.takes.1 in
    let k = stops_after g.R.Look.kept g.R.Look.page_state g.R.Look.words 0 0 0 before mid c.args.room.now c.unset_all.new.room c.remove.new.room first c.in_ok-unset_all.ensures.changes.1 (omega arith)
    (catalog_stops g.R.Look.kept g.R.Look.page_state g.R.Look.words c.unset_all.new.room c.remove.new.room mid first.in_hand tree) in
    (on_err _ back, search rules, on_err _ k)
