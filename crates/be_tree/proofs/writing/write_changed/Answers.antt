use Rattle.std.proofs.Common.{ℕ, [], ◌∷◌, sym, subst, arith}
use Rattle.be_pages.specs.Pages.{after_give_up}
use Rattle.be_tree.specs.Slot.{branch_to, pairs_of}
use Rattle.be_tree_reading.specs.Tree.{IsWritten}
use Rattle.be_tree.proofs.Nodes.PageStates.{changed_state, other_states}
use Rattle.be_tree_reading.proofs.Putting.Puts.{held_after, swaps_given_up}
use Rattle.be_tree.proofs.Sizes.InHand.{takes_given_up, takes_then}
use Rattle.be_tree.proofs.writing.write_changed.Goals as goal

pub give_up-requires-clause-held : goal.give_up-requires-clause-held
give_up-requires-clause-held g c = held_after g.R.Look.kept g.R.Look.page_state g.R.Look.words [] (c.in_ok-page.page ∷ []) c.args.old c.args.room.now c.write_node.new.room c.in_ok-page.ensures.swaps (omega arith) c.requires.kept

pub returns-clause-ok : goal.returns-clause-ok
returns-clause-ok g c =
    subst (λ (w : ℕ → ℕ → ℕ). IsWritten c.args.node.level w (pairs_of (g.R.Look.words c.args.room.now) c.args.node.pair.now c.args.node.slots.now) (branch_to w c.in_ok-page.page)) (sym c.give_up.ensures.words) c.in_ok-page.ensures.ok

pub returns-clause-swaps : goal.returns-clause-swaps
returns-clause-swaps g c =
    let old = c.args.old in
    let s = g.R.Look.page_state c.write_node.new.room in
    let t = g.R.Look.page_state c.give_up.new.self in
    swaps_given_up g.R.Look.kept g.R.Look.page_state g.R.Look.words [] (c.in_ok-page.page ∷ []) old c.args.room.now c.write_node.new.room c.give_up.new.self c.in_ok-page.ensures.swaps (omega arith) c.requires.kept
    c.give_up.ensures.kept c.give_up.ensures.words
    (changed_state s t old (after_give_up (s old)) c.give_up.ensures.page_state) (other_states s t old (after_give_up (s old)) c.give_up.ensures.page_state)

pub returns-clause-refused : goal.returns-clause-refused
returns-clause-refused g c =
    (tt, tt, (takes_then 1 0 (g.R.Look.page_state c.args.room.now) (g.R.Look.page_state c.write_node.new.room) (g.R.Look.page_state c.give_up.new.self) c.in_ok-page.ensures.refused.2.0 (takes_given_up (g.R.Look.page_state c.write_node.new.room) (g.R.Look.page_state c.give_up.new.self) c.args.old c.give_up.ensures.page_state), tt))
