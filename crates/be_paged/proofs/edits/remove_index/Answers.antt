use Rattle.std.proofs.Common.{ℕ, suc, [], List, take, drop, get_or, ap, sym, subst, ◌∙◌, refl}
use Rattle.be_pages.specs.Pages.{Swaps}
use Rattle.be_tree_reading.specs.Tree.{IsTree, pages}
use Rattle.be_volume.specs.declared.ops.Op.TheVariants.{RmIndex}
use Rattle.be_volume.specs.declared.ops.Done.TheVariants.{Unit as Nothing}
use Rattle.be_paged_reading.specs.Entry.{Entry}
use Rattle.be_paged.specs.Changes.{Changes, Steps}
use Rattle.be_paged_reading.specs.Page.{IsNamedAt, IsGapAt, contents}
use Rattle.be_paged.proofs.Applying.Composing.{changes_none}
use Rattle.be_paged.proofs.Applying.Hand.{entry_changes}
use Rattle.be_paged.proofs.IndexEntries.Making.{left_changes, is_there, gone_steps}
use Rattle.be_paged_reading.proofs.Asking.SourceKeys.{entry_tree}
use Rattle.be_paged.proofs.edits.remove_index.Goals as goal

pub clear-requires-clause-tree : goal.clear-requires-clause-tree
clear-requires-clause-tree g c =
    let es = c.args.version.now.entries.items in
    let at : IsNamedAt es c.args.name.now c.in-Ok.at = subst (λ (xs : List Entry). IsNamedAt xs c.args.name.now c.in-Ok.at) c.deref.ensures.0 c.in-Ok.ensures.found in
    subst (λ (r : ℕ). IsTree (g.R.Look.page_state c.args.room.now) (g.R.Look.words c.args.room.now) r) (sym (c.root.ensures ∙ ap (λ (e : Entry). e.root) c.remove-entry.ensures.value))
    (entry_tree (g.R.Look.page_state c.args.room.now) (g.R.Look.words c.args.room.now) (contents c.args.version.now) c.in-Ok.at c.remove-entry.result c.requires.in_hand at.in_range)

pub returns-in-Ok-clause-changes : goal.returns-in-Ok-clause-changes
returns-in-Ok-clause-changes g c =
    let before = contents c.args.version.now in
    let es = c.args.version.now.entries.items in
    let w = g.R.Look.words in
    let at : IsNamedAt es c.args.name.now c.in-Ok.at = subst (λ (xs : List Entry). IsNamedAt xs c.args.name.now c.in-Ok.at) c.deref.ensures.0 c.in-Ok.ensures.found in
    let i = c.in-Ok.at in
    let d = c.remove-entry.result in
    let e : Entry = record { name = (get_or es i d).name; kind = (get_or es i d).kind; root = 0 } in
    let swaps = subst (λ (r : ℕ). Swaps g.R.Look.kept g.R.Look.page_state g.R.Look.words (pages (w c.args.room.now) r) [] c.args.room.now c.clear.new.room) (c.root.ensures ∙ ap (λ (x : Entry). x.root) c.remove-entry.ensures.value) c.clear.ensures.pages in
    let emptied = entry_changes g.R.Look.kept g.R.Look.page_state g.R.Look.words c.args.room.now c.clear.new.room before c.requires.in_hand i e d at.in_range tt swaps (c.requires.in_hand.named i d at.in_range) in
    let left = left_changes g.R.Look.kept g.R.Look.page_state g.R.Look.words c.args.room.now c.clear.new.room before before.next before.catalog (take i es) (drop (suc i) es) e refl emptied in
    subst (λ (xs : List Entry). Changes {K = g.R.Look.Kept} g.R.Look.kept g.R.Look.page_state g.R.Look.words before (record { next = before.next; catalog = before.catalog; entries = xs }) c.args.room.now c.clear.new.room) (sym c.remove-entry.ensures.items) left

pub returns-in-Ok-clause-steps : goal.returns-in-Ok-clause-steps
returns-in-Ok-clause-steps g c = λ volume encodes ok.
    let before = contents c.args.version.now in
    let at = subst (λ (xs : List Entry). IsNamedAt xs c.args.name.now c.in-Ok.at) c.deref.ensures.0 c.in-Ok.ensures.found in
    subst (λ (xs : List Entry). Steps (g.R.Look.words c.clear.new.room) (record { next = before.next; catalog = before.catalog; entries = xs }) volume (RmIndex c.args.name.now) Nothing) (sym c.remove-entry.ensures.items)
    (gone_steps (g.R.Look.words c.args.room.now) (g.R.Look.words c.clear.new.room) before volume c.args.name.now c.in-Ok.at c.clear.ensures.words encodes ok at)

pub returns-in_default-clause-changes : goal.returns-in_default-clause-changes
returns-in_default-clause-changes g c = changes_none g.R.Look.kept g.R.Look.page_state g.R.Look.words (contents c.args.version.now) c.args.room.now c.requires.in_hand

pub returns-in_default-clause-steps : goal.returns-in_default-clause-steps
returns-in_default-clause-steps g c = λ volume encodes ok.
    is_there (g.R.Look.words c.args.room.now) (contents c.args.version.now) volume c.args.name.now c.in_default.field-0 encodes ok
    (subst (λ (es : List Entry). IsGapAt es c.args.name.now c.in_default.field-0) c.deref.ensures.0 c.in_default.ensures.absent)
