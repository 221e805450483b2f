use Rattle.std.proofs.Common.{ℕ, ◌+◌, ◌<◌, [], ◌∷◌, ◌∙◌, ap, get_or, length, sym, subst, arith}
use Rattle.be_pages.specs.declared.room.PageState.TheVariants.{Filled}
use Rattle.be_pages.specs.Pages.{Swaps, after_give_up}
use Rattle.be_tree.specs.declared.slot.Slot.{Slot}
use Rattle.be_tree_reading.specs.Page.{IsPage, items_of, level_of}
use Rattle.be_tree.specs.Slot.{pair_of}
use Rattle.be_tree.specs.Splicing.{IsStored}
use Rattle.be_tree_reading.proofs.Frame.{filled_is, rewritten_swaps, written_swaps}
use Rattle.be_tree.proofs.Nodes.PageStates.{changed_state, other_states}
use Rattle.be_tree_reading.proofs.Putting.Puts.{held_after, swaps_given_up}
use Rattle.be_tree.proofs.Splices.{off_free, off_pair, off_ready, spliced_items, spliced_page}
use Rattle.be_tree.proofs.Sizes.InHand.{takes_given_up, takes_still, takes_then, takes_within}
use Rattle.be_tree.proofs.Sizes.Refusals.{takes_page}
use Rattle.be_tree.proofs.splicing.splice.Given.{Over}
use Rattle.be_tree.proofs.splicing.splice.Goals as goal
use Rattle.be_tree.proofs.splicing.splice.Goals.{After-store_slots-2}

pub open_here-requires-clause-filled : goal.open_here-requires-clause-filled
open_here-requires-clause-filled g c = filled_is (g.R.Look.page_state c.args.room.now c.args.page) c.requires.cut.in_use (sym c.is_taken.ensures ∙ c.if-is_taken.true)

pub store_slots-requires-clause-ready : goal.store_slots-requires-clause-ready
store_slots-requires-clause-ready g c = λ i d lt.
    let only = c.open_here.ensures.only in
    off_ready c.args.page (g.R.Look.page_state c.args.room.now) (g.R.Look.page_state c.open_here.new.room) (g.R.Look.words c.args.room.now) (g.R.Look.words c.open_here.new.room) (λ q ne. only.page_state q) only.others
    (get_or c.args.slots.now i d) (c.requires.cut.off i d lt) (c.requires.cut.ready i d lt)

pub returns-then-is_taken-clause-ok : goal.returns-then-is_taken-clause-ok
returns-then-is_taken-clause-ok g c =
    let u = g.R.Look.words c.args.room.now c.args.page in
    let v = g.R.Look.words c.open_here.new.room c.args.page in
    let w = g.R.Look.words c.store_slots.new.room c.args.page in
    let cut = c.args.cut in
    let slots = c.args.slots.now in
    let given = c.args.pair.now in
    let moved = c.open_here.ensures.only in
    let only = c.store_slots.ensures.only in
    let f = pair_of (g.R.Look.words c.args.room.now) given in
    let stored : (k : ℕ) (d : Slot) → k < length slots → IsStored w (cut.at + k) (f (get_or slots k d)) = λ k d lt.
    let this = c.store_slots.ensures.items k d lt in (
      this.0 ∙ off_pair c.args.page (g.R.Look.page_state c.args.room.now) (g.R.Look.page_state c.open_here.new.room) (g.R.Look.words c.args.room.now) (g.R.Look.words c.open_here.new.room) (λ q ne. moved.page_state q) moved.others
          given (get_or slots k d) (c.requires.cut.off k d lt),
      this.1,
    ) in
    record {
      is_page = spliced_page u v w cut slots f c.open_here.ensures.gap c.requires.cut.in_range stored only.before only.after c.requires.cut.few;
      same_level = only.before 0 (omega arith) ∙ c.open_here.ensures.gap.same_level;
      has_items = spliced_items u v w cut slots f c.open_here.ensures.gap c.requires.cut.in_range stored only.before only.after;
      swaps = rewritten_swaps g.R.Look.kept g.R.Look.page_state g.R.Look.words c.args.page c.args.room.now c.store_slots.new.room (only.kept ∙ moved.kept) c.requires.cut.in_use (sym c.is_taken.ensures ∙ c.if-is_taken.true)
          (only.page_state c.args.page ∙ moved.page_state c.args.page ∙ filled_is (g.R.Look.page_state c.args.room.now c.args.page) c.requires.cut.in_use (sym c.is_taken.ensures ∙ c.if-is_taken.true))
          (λ q ne. only.page_state q ∙ moved.page_state q) (λ q ne. only.others q ne ∙ moved.others q ne);
    }

-- the copy is filled
copied : (g : Over) (c : After-store_slots-2 g) → Swaps g.R.Look.kept g.R.Look.page_state g.R.Look.words [] (c.in_ok-copy.copy ∷ []) c.args.room.now c.store_slots-2.new.room
copied g c =
    let copy = c.in_ok-copy.copy in
    let took = c.in_ok-copy.ensures.taken in
    let only = c.store_slots-2.ensures.only in
    let s = g.R.Look.page_state c.args.room.now in
    let t = g.R.Look.page_state c.open_copy.new.room in
    written_swaps g.R.Look.kept g.R.Look.page_state g.R.Look.words copy c.args.room.now c.store_slots-2.new.room (only.kept ∙ took.kept) took.was_free (only.page_state copy ∙ changed_state s t copy Filled took.page_state)
    (λ q ne. only.page_state q ∙ other_states s t copy Filled took.page_state q ne) (λ q ne. only.others q ne ∙ took.others q ne)

pub store_slots-requires-2-clause-filled : goal.store_slots-requires-2-clause-filled
store_slots-requires-2-clause-filled g c = changed_state (g.R.Look.page_state c.args.room.now) (g.R.Look.page_state c.open_copy.new.room) c.in_ok-copy.copy Filled c.in_ok-copy.ensures.taken.page_state

pub store_slots-requires-2-clause-ready : goal.store_slots-requires-2-clause-ready
store_slots-requires-2-clause-ready g c = λ i d lt.
    let took = c.in_ok-copy.ensures.taken in
    let s = g.R.Look.page_state c.args.room.now in
    let t = g.R.Look.page_state c.open_copy.new.room in
    let v = g.R.Look.words c.args.room.now in
    off_ready c.in_ok-copy.copy s t v (g.R.Look.words c.open_copy.new.room) (other_states s t c.in_ok-copy.copy Filled took.page_state) took.others
    (get_or c.args.slots.now i d) (off_free c.in_ok-copy.copy s v (get_or c.args.slots.now i d) took.was_free (c.requires.cut.ready i d lt)) (c.requires.cut.ready i d lt)

pub store_slots-requires-2-clause-off : goal.store_slots-requires-2-clause-off
store_slots-requires-2-clause-off g c = λ i d lt. off_free c.in_ok-copy.copy (g.R.Look.page_state c.args.room.now) (g.R.Look.words c.args.room.now) (get_or c.args.slots.now i d) c.in_ok-copy.ensures.taken.was_free (c.requires.cut.ready i d lt)

pub give_up-requires-clause-held : goal.give_up-requires-clause-held
give_up-requires-clause-held g c =
    held_after g.R.Look.kept g.R.Look.page_state g.R.Look.words [] (c.in_ok-copy.copy ∷ []) c.args.page c.args.room.now c.store_slots-2.new.room (copied g (goal.at.give_up-requires-clause-held g c).After-store_slots-2) (omega arith) c.requires.cut.in_use

pub returns-clause-ok : goal.returns-clause-ok
returns-clause-ok g c =
    let at = (goal.at.returns-clause-ok g c).After-store_slots-2 in
    let copy = c.in_ok-copy.copy in
    let page = c.args.page in
    let u = g.R.Look.words c.args.room.now page in
    let v = g.R.Look.words c.open_copy.new.room copy in
    let w = g.R.Look.words c.store_slots-2.new.room copy in
    let cut = c.args.cut in
    let slots = c.args.slots.now in
    let given = c.args.pair.now in
    let took = c.in_ok-copy.ensures.taken in
    let only = c.store_slots-2.ensures.only in
    let s = g.R.Look.page_state c.args.room.now in
    let t = g.R.Look.page_state c.open_copy.new.room in
    let mid = g.R.Look.page_state c.store_slots-2.new.room in
    let new = g.R.Look.page_state c.give_up.new.self in
    let old = g.R.Look.words c.args.room.now in
    let f = pair_of old given in
    let gap = c.in_ok-copy.ensures.gap in
    let stored : (k : ℕ) (d : Slot) → k < length slots → IsStored w (cut.at + k) (f (get_or slots k d)) = λ k d lt.
    let this = c.store_slots-2.ensures.items k d lt in (
      this.0 ∙ off_pair copy s t old (g.R.Look.words c.open_copy.new.room) (other_states s t copy Filled took.page_state) took.others
          given (get_or slots k d) (off_free copy s old (get_or slots k d) took.was_free (c.requires.cut.ready k d lt)),
      this.1,
    ) in
    let same = ap (λ x. x copy) c.give_up.ensures.words in
    record {
      is_page = subst IsPage (sym same) (spliced_page u v w cut slots f gap c.requires.cut.in_range stored only.before only.after c.requires.cut.few);
      same_level = ap level_of same ∙ only.before 0 (omega arith) ∙ gap.same_level;
      has_items = ap items_of same ∙ spliced_items u v w cut slots f gap c.requires.cut.in_range stored only.before only.after;
      swaps = swaps_given_up g.R.Look.kept g.R.Look.page_state g.R.Look.words [] (copy ∷ []) page c.args.room.now c.store_slots-2.new.room c.give_up.new.self (copied g at) (omega arith) c.requires.cut.in_use
          c.give_up.ensures.kept c.give_up.ensures.words (changed_state mid new page (after_give_up (mid page)) c.give_up.ensures.page_state) (other_states mid new page (after_give_up (mid page)) c.give_up.ensures.page_state);
    }

pub returns-then-is_taken-clause-refused : goal.returns-then-is_taken-clause-refused
returns-then-is_taken-clause-refused g c =
    (tt, tt, (takes_within 0 1 (g.R.Look.page_state c.args.room.now) (g.R.Look.page_state c.store_slots.new.room) (omega arith) (takes_still (g.R.Look.page_state c.args.room.now) (g.R.Look.page_state c.store_slots.new.room) (λ q. c.store_slots.ensures.only.page_state q ∙ c.open_here.ensures.only.page_state q)), tt))

pub returns-clause-refused : goal.returns-clause-refused
returns-clause-refused g c =
    let at = (goal.at.returns-clause-refused g c).After-store_slots-2 in (
      tt,
      tt,
      (
        takes_then 1 0 (g.R.Look.page_state c.args.room.now) (g.R.Look.page_state c.store_slots-2.new.room) (g.R.Look.page_state c.give_up.new.self) (takes_page g.R.Look.kept g.R.Look.page_state g.R.Look.words [] c.in_ok-copy.copy c.args.room.now c.store_slots-2.new.room (copied g at))
            (takes_given_up (g.R.Look.page_state c.store_slots-2.new.room) (g.R.Look.page_state c.give_up.new.self) c.args.page c.give_up.ensures.page_state),
        tt,
      ),
    )
