use Rattle.std.proofs.Common.{ℕ, List, [], get_or, ap, sym, subst, ◌∙◌, ◌+◌, ◌≤◌, length, is_some, rules}
use Rattle.std.specs.Option.{option_copied}
use Rattle.be_value.specs.declared.values.Kind.{Kind}
use Rattle.be_value.specs.declared.values.Kind.TheVariants as kinds
use Rattle.be_pages.specs.Pages.{Swaps}
use Rattle.be_tree_reading.specs.Tree.{IsTree, pairs, pages}
use Rattle.be_paged_reading.specs.Entry.{Entry}
use Rattle.be_paged_reading.specs.Catalog.{IsIndexOf}
use Rattle.be_paged.specs.Changes.{Changes, IsReady, repaired, with_change}
use Rattle.be_paged_reading.specs.Page.{contents}
use Rattle.be_paged_reading.specs.Version.{Encodes}
use Rattle.be_volume.specs.Indices.{Indices}
use Rattle.be_paged.proofs.IndexEntries.EntryChange.{indexed}
use Rattle.be_paged.proofs.Applying.Hand.{entry_changes, entry_encodes, replaced}
use Rattle.be_paged.proofs.IndexEntries.Settled.{by_kinds, paired_same, root_kept}
use Rattle.be_paged_reading.proofs.Asking.SourceKeys.{entry_tree}
use Rattle.be_tree.specs.Counting.{one_of}
use Rattle.be_paged.specs.Stops.{Gains, StopsTree}
use Rattle.be_paged.proofs.Sizes.Stopping.{entry_gains, entry_stops}
use Rattle.be_tree.proofs.Shape.Parts.{on_err}
use Rattle.be_paged.proofs.changes.change_at.Goals as goal

nowhere : Entry
nowhere = record { name = []; kind = kinds.Cstr; root = 0 }

pub change_root-requires-clause-tree : goal.change_root-requires-clause-tree
change_root-requires-clause-tree g c =
    let es = c.args.version.now.entries.items in
    let root = c.index_at-kind.ensures.root nowhere ∙ ap (λ (xs : List Entry). (get_or xs c.args.at nowhere).root) c.deref.ensures.0 in
    subst (λ (r : ℕ). IsTree (g.R.Look.page_state c.args.room.now) (g.R.Look.words c.args.room.now) r) (sym root)
    (entry_tree (g.R.Look.page_state c.args.room.now) (g.R.Look.words c.args.room.now) (contents c.args.version.now) c.args.at nowhere c.requires.in_hand c.requires.in_range)

pub returns-clause-changes : goal.returns-clause-changes
returns-clause-changes g c =
    let before = contents c.args.version.now in
    let es = c.args.version.now.entries.items in
    let w = g.R.Look.words in
    let i = c.args.at in
    let new = c.change_root.new.room in
    let root = c.index_at-kind.ensures.root nowhere ∙ ap (λ (xs : List Entry). (get_or xs i nowhere).root) c.deref.ensures.0 in
    let e : Entry = record { name = (get_or es i nowhere).name; kind = (get_or es i nowhere).kind; root = c.in_ok-changed.changed } in
    let swaps = subst (λ (r : ℕ). Swaps g.R.Look.kept g.R.Look.page_state g.R.Look.words (pages (w c.args.room.now) r) (pages (w new) c.in_ok-changed.changed) c.args.room.now new) root c.in_ok-changed.ensures.grows.1 in
    let more = one_of (is_some (option_copied c.args.new)) in
    let size = subst (λ (r : ℕ). length (pairs (w new) c.in_ok-changed.changed) ≤ length (pairs (w c.args.room.now) r) + more) root c.in_ok-changed.ensures.grows.2 in (
      subst (λ (xs : List Entry). Changes {K = g.R.Look.Kept} g.R.Look.kept g.R.Look.page_state g.R.Look.words before (record { next = before.next; catalog = before.catalog; entries = xs }) c.args.room.now new) (sym (c.set_root.ensures nowhere))
          (entry_changes g.R.Look.kept g.R.Look.page_state g.R.Look.words c.args.room.now new before c.requires.in_hand i e nowhere c.requires.in_range c.in_ok-changed.ensures.grows.0 swaps (c.requires.in_hand.named i nowhere c.requires.in_range)),
      subst (λ (xs : List Entry). Gains more (w c.args.room.now) (w new) before (record { next = before.next; catalog = before.catalog; entries = xs })) (sym (c.set_root.ensures nowhere))
          (entry_gains g.R.Look.kept g.R.Look.page_state g.R.Look.words c.args.room.now new before c.requires.in_hand i more e nowhere c.requires.in_range c.in_ok-changed.ensures.grows.0 swaps size),
    )

pub returns-clause-encodes : goal.returns-clause-encodes
returns-clause-encodes g c = λ volume name at encodes sound value.
    let before = contents c.args.version.now in
    let es = c.args.version.now.entries.items in
    let w = g.R.Look.words in
    let i = c.args.at in
    let node = c.args.node in
    let new = c.change_root.new.room in
    let root = c.index_at-kind.ensures.root nowhere ∙ ap (λ (xs : List Entry). (get_or xs i nowhere).root) c.deref.ensures.0 in
    let kind = c.index_at-kind.ensures.kind nowhere ∙ ap (λ (xs : List Entry). (get_or xs i nowhere).kind) c.deref.ensures.0 in
    let e : Entry = record { name = (get_or es i nowhere).name; kind = (get_or es i nowhere).kind; root = c.in_ok-changed.changed } in
    let swaps = subst (λ (r : ℕ). Swaps g.R.Look.kept g.R.Look.page_state g.R.Look.words (pages (w c.args.room.now) r) (pages (w new) c.in_ok-changed.changed) c.args.room.now new) root c.in_ok-changed.ensures.grows.1 in
    let ix = indexed (w c.args.room.now) before volume name node i (option_copied c.args.old) (option_copied c.args.new) encodes sound value at in
    let keys = c.in_ok-changed.ensures.keys ix.index (subst (λ (r : ℕ). IsIndexOf (pairs (w c.args.room.now) r) ix.index) (sym root) (ix.keys nowhere))
    (subst (λ (k : Kind). IsReady ix.index k node (option_copied c.args.old)) (sym kind) (ix.ready nowhere)) in
    let reported = entry_encodes g.R.Look.kept g.R.Look.page_state g.R.Look.words c.args.room.now new before c.requires.in_hand i e nowhere c.requires.in_range c.in_ok-changed.ensures.grows.0 swaps volume name (repaired ix.index node (option_copied c.args.new))
    encodes at (at.here nowhere) (ix.kind nowhere ∙ ix.kept) keys in
    subst (λ (xs : List Entry). Encodes (w new) (record { next = before.next; catalog = before.catalog; entries = xs }) (record { next = volume.next; nodes = volume.nodes; indices = with_change volume.indices name node (option_copied c.args.new) })) (sym (c.set_root.ensures nowhere))
    (subst (λ (is : Indices). Encodes (w new) (record { next = before.next; catalog = before.catalog; entries = replaced es i e }) (record { next = volume.next; nodes = volume.nodes; indices = is })) (sym ix.changed) reported)

pub returns-clause-stays : goal.returns-clause-stays
returns-clause-stays g c = λ volume name at encodes sound value v was is same.
    let before = contents c.args.version.now in
    let es = c.args.version.now.entries.items in
    let w = g.R.Look.words c.args.room.now in
    let i = c.args.at in
    let node = c.args.node in
    let root = c.index_at-kind.ensures.root nowhere ∙ ap (λ (xs : List Entry). (get_or xs i nowhere).root) c.deref.ensures.0 in
    let kind = c.index_at-kind.ensures.kind nowhere ∙ ap (λ (xs : List Entry). (get_or xs i nowhere).kind) c.deref.ensures.0 in
    let ix = indexed w before volume name node i (option_copied c.args.old) (option_copied c.args.new) encodes sound value at in
    let keys = subst (λ (r : ℕ). IsIndexOf (pairs w r) ix.index) (sym root) (ix.keys nowhere) in
    let ready = subst (λ (k : Kind). IsReady ix.index k node (option_copied c.args.old)) (sym kind) (ix.ready nowhere) in
    let kept = by_kinds _ ix.index _ node v (option_copied c.args.old) (option_copied c.args.new) _ _ keys ready.kind_is ready.indexable (paired_same volume.indices name ix.index node v ix.there same) was is
    c.in_ok-changed.ensures.stays c.in_ok-changed.ensures.apart in
    c.set_root.ensures nowhere ∙ root_kept es i nowhere c.in_ok-changed.changed c.requires.in_range (kept ∙ root)

pub returns-in_err-changed-clause-refused : goal.returns-in_err-changed-clause-refused
returns-in_err-changed-clause-refused g c =
    let root = c.index_at-kind.ensures.root nowhere ∙ ap (λ (xs : List Entry). (get_or xs c.args.at nowhere).root) c.deref.ensures.0 in
    let k = entry_stops g.R.Look.kept g.R.Look.page_state g.R.Look.words c.args.room.now c.change_root.new.room (contents c.args.version.now) c.requires.in_hand c.args.at nowhere c.requires.in_range
    (subst (λ (r : ℕ). StopsTree g.R.Look.kept g.R.Look.page_state g.R.Look.words r c.args.room.now c.change_root.new.room) root c.in_err-changed.ensures.refused.2) in
    (on_err _ (c.in_err-changed.ensures.refused.0), search rules, on_err _ k)
