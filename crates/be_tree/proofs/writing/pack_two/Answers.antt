use Rattle.std.proofs.Common.{ℕ, suc, [], ◌∷◌, ◌≡◌, List, sym, subst, arith}
use Rattle.be_pages.specs.Pages.{after_give_up, times}
use Rattle.be_tree.specs.Slot.{pairs_of}
use Rattle.be_tree_reading.specs.Tree.{Becomes, pages_below, pairs_below}
use Rattle.be_tree_reading.proofs.Frame.{times_append, times_other}
use Rattle.be_tree.proofs.Nodes.Neighbours.{becomes_times}
use Rattle.be_tree.proofs.Nodes.PageStates.{changed_state, other_states}
use Rattle.be_tree_reading.proofs.Putting.Puts.{becomes_given_up, held_after}
use Rattle.be_tree.proofs.Sizes.InHand.{takes_given_up, takes_then}
use Rattle.be_tree.proofs.writing.pack_two.Goals as goal

-- the second page isn't among those that were replaced
other : (l r : ℕ) (ps : List ℕ) → (l ≡ r → ⊥) → times r ps ≡ 0 → times r (l ∷ ps) ≡ 0
other l r ps ne none = omega (arith, times_append r (l ∷ []) ps, times_other r l (λ e. ne (sym e)), none)

swapped : (q l r : ℕ) (ps : List ℕ) → times q (r ∷ l ∷ ps) ≡ times q (l ∷ r ∷ ps)
swapped q l r ps = omega (arith, times_append q (r ∷ []) (l ∷ ps), times_append q (l ∷ []) ps, times_append q (l ∷ []) (r ∷ ps), times_append q (r ∷ []) ps)

pub give_up-requires-clause-held : goal.give_up-requires-clause-held
give_up-requires-clause-held g c =
    let level = c.args.node.level in
    let given = c.args.node.pair.now in
    let words = g.R.Look.words c.args.room.now in
    let before = pages_below level words (pairs_of words given c.args.node.slots.now) in
    let mid = g.R.Look.words c.pack.new.room in
    held_after g.R.Look.kept g.R.Look.page_state g.R.Look.words (c.args.left ∷ before) (pages_below (suc level) mid (pairs_of mid given c.in_ok-branches.branches.items)) c.args.right
    c.args.room.now c.pack.new.room c.in_ok-branches.ensures.ok.swaps (other c.args.left c.args.right before c.requires.two.1.1 c.requires.two.1.0.1) c.requires.two.1.0.0

pub returns-clause-ok : goal.returns-clause-ok
returns-clause-ok g c =
    let l = c.args.left in
    let r = c.args.right in
    let level = c.args.node.level in
    let given = c.args.node.pair.now in
    let words = g.R.Look.words c.args.room.now in
    let items = pairs_of words given c.args.node.slots.now in
    let before = pages_below level words items in
    let all = pairs_below level words items in
    let mid = g.R.Look.words c.pack.new.room in
    let branches = c.in_ok-branches.branches.items in
    let s = g.R.Look.page_state c.pack.new.room in
    let t = g.R.Look.page_state c.give_up.new.self in
    let gone = becomes_given_up g.R.Look.kept g.R.Look.page_state g.R.Look.words (l ∷ before) all (suc level) (pairs_of mid given branches) r c.args.room.now c.pack.new.room c.give_up.new.self
    c.in_ok-branches.ensures.ok (other l r before c.requires.two.1.1 c.requires.two.1.0.1) c.requires.two.1.0.0 c.give_up.ensures.kept c.give_up.ensures.words
    (changed_state s t r (after_give_up (s r)) c.give_up.ensures.page_state) (other_states s t r (after_give_up (s r)) c.give_up.ensures.page_state) in
    subst (λ (w : ℕ → ℕ → ℕ). Becomes g.R.Look.kept g.R.Look.page_state g.R.Look.words (l ∷ r ∷ before) all (suc level) (pairs_of w given branches) c.args.room.now c.give_up.new.self) (sym c.give_up.ensures.words)
    (becomes_times g.R.Look.kept g.R.Look.page_state g.R.Look.words (r ∷ l ∷ before) (l ∷ r ∷ before) all (suc level) (pairs_of mid given branches) c.args.room.now c.give_up.new.self
    (λ q. swapped q l r before) gone)

pub returns-clause-refused : goal.returns-clause-refused
returns-clause-refused g c = (
  tt,
  tt,
  (
    takes_then 2 0 (g.R.Look.page_state c.args.room.now) (g.R.Look.page_state c.pack.new.room) (g.R.Look.page_state c.give_up.new.self) c.in_ok-branches.ensures.refused.2.0
        (takes_given_up (g.R.Look.page_state c.pack.new.room) (g.R.Look.page_state c.give_up.new.self) c.args.right c.give_up.ensures.page_state),
    tt,
  ),
)
