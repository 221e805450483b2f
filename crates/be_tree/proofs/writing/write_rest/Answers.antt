use Rattle.std.proofs.Common.{◌≡◌, ℕ, suc, ◌+◌, [], ◌∷◌, ◌∙◌, ap, subst, get_or, arith}
use Rattle.std.proofs.lemmas.List.{get_or_default, length-map}
use Rattle.be_tree.specs.declared.slot.Slot.{Slot}
use Rattle.be_tree.specs.declared.slot.Slot.TheVariants.{New}
use Rattle.be_tree_reading.specs.Pair.{Pair}
use Rattle.be_tree.specs.Slot.{pair_of, pairs_of}
use Rattle.be_tree_reading.specs.Tree.{child, pages, pages_below, pairs_below, BecomesTree}
use Rattle.be_tree_reading.proofs.Putting.Puts.{held_after}
use Rattle.be_tree_reading.proofs.Shape.Levels.{kept_not_free}
use Rattle.be_tree_reading.proofs.Shape.Roots.{tree_given_up}
use Rattle.be_tree.proofs.Removing.Rests.{one_mapped, one_used, tree_none, tree_one, tree_until}
use Rattle.be_tree.proofs.Sizes.InHand.{takes_given_up, takes_same, takes_then, takes_within}
use Rattle.be_tree.proofs.writing.write_rest.Given.{Over}
use Rattle.be_tree.proofs.writing.write_rest.Goals as goal
use Rattle.be_tree.proofs.writing.write_rest.Goals.{After-child_of-child}

pub give_up-requires-clause-held : goal.give_up-requires-clause-held
give_up-requires-clause-held g c =
    let words = g.R.Look.words c.args.room.now in
    let items = pairs_of words c.args.node.pair.now c.args.node.slots.now in
    let none = tree_none g.R.Look.kept g.R.Look.page_state g.R.Look.words c.args.node.level items c.args.room.now (length-map c.args.node.slots.now (pair_of words c.args.node.pair.now) ∙ c.if-slots-eq0.true) in
    held_after g.R.Look.kept g.R.Look.page_state g.R.Look.words (pages_below c.args.node.level words items) [] c.args.old c.args.room.now c.args.room.now none.swaps c.requires.old.1 c.requires.old.0

pub returns-then-slots-eq0-clause-ok : goal.returns-then-slots-eq0-clause-ok
returns-then-slots-eq0-clause-ok g c =
    let words = g.R.Look.words c.args.room.now in
    let items = pairs_of words c.args.node.pair.now c.args.node.slots.now in
    let none = tree_none g.R.Look.kept g.R.Look.page_state g.R.Look.words c.args.node.level items c.args.room.now (length-map c.args.node.slots.now (pair_of words c.args.node.pair.now) ∙ c.if-slots-eq0.true) in
    tree_given_up g.R.Look.kept g.R.Look.page_state g.R.Look.words (pages_below c.args.node.level words items) (pairs_below c.args.node.level words items) 0 c.args.old c.args.room.now c.args.room.now c.give_up.new.self
    none c.requires.old.1 c.requires.old.0 c.give_up.ensures.kept c.give_up.ensures.words c.give_up.ensures.page_state

-- the one branch that is left
branch : (g : Over) → After-child_of-child g → Pair
branch g c = pair_of (g.R.Look.words c.args.room.now) c.args.node.pair.now (get_or c.args.node.slots.now 0 New)

child_is : (g : Over) (c : After-child_of-child g) → c.child_of-child.result ≡ child (branch g c)
unfolding branch
child_is g c =
    c.child_of-child.ensures.child
    ∙ ap (λ (s : Slot). child (pair_of (g.R.Look.words c.args.room.now) c.args.node.pair.now s)) (get_or_default c.args.node.slots.now 0 _ New (omega (arith, c.if-slots-eq1.true)))

one_left : (g : Over) (c : After-child_of-child g) → BecomesTree g.R.Look.kept g.R.Look.page_state g.R.Look.words (pages_below c.args.node.level (g.R.Look.words c.args.room.now) (pairs_of (g.R.Look.words c.args.room.now) c.args.node.pair.now c.args.node.slots.now))
    (pairs_below c.args.node.level (g.R.Look.words c.args.room.now) (pairs_of (g.R.Look.words c.args.room.now) c.args.node.pair.now c.args.node.slots.now)) (c.child_of-child.result + 1) c.args.room.now c.child_of-child.new.look
unfolding branch
one_left g c =
    let room = c.args.room.now in
    let words = g.R.Look.words room in
    let items = pairs_of words c.args.node.pair.now c.args.node.slots.now in
    let before = pages_below c.args.node.level words items in
    let all = pairs_below c.args.node.level words items in
    let one : items ≡ branch g c ∷ [] = one_mapped (pair_of words c.args.node.pair.now) c.args.node.slots.now New c.if-slots-eq1.true in
    let is : suc (child (branch g c)) ≡ c.child_of-child.result + 1 = omega (arith, child_is g c) in
    subst (λ (r : ℕ). BecomesTree g.R.Look.kept g.R.Look.page_state g.R.Look.words before all r room c.child_of-child.new.look) is
    (tree_until g.R.Look.kept g.R.Look.page_state g.R.Look.words before all (suc (child (branch g c))) room room c.child_of-child.new.look c.child_of-child.ensures.unchanged
    (tree_one g.R.Look.kept g.R.Look.page_state g.R.Look.words c.args.node.level items (branch g c) room (omega arith) one c.requires.node.0))

pub overflow_add-result : goal.overflow_add-result
unfolding branch
overflow_add-result g c =
    let at = (goal.at.overflow_add-result g c).After-child_of-child in
    let room = c.args.room.now in
    let words = g.R.Look.words room in
    let items = pairs_of words c.args.node.pair.now c.args.node.slots.now in
    let one : items ≡ branch g at ∷ [] = one_mapped (pair_of words c.args.node.pair.now) c.args.node.slots.now New c.if-slots-eq1.true in
    let small = g.met.R.Look.pages_small room (child (branch g at)) (kept_not_free (g.R.Look.page_state room (child (branch g at))) (one_used c.args.node.level (g.R.Look.page_state room) words items (branch g at) (omega arith) one c.requires.node.0)) in
    omega (arith, small, child_is g at)

pub give_up-requires-then-slots-eq1-clause-held : goal.give_up-requires-then-slots-eq1-clause-held
give_up-requires-then-slots-eq1-clause-held g c =
    let one = one_left g (goal.at.give_up-requires-then-slots-eq1-clause-held g c).After-child_of-child in
    let words = g.R.Look.words c.args.room.now in
    held_after g.R.Look.kept g.R.Look.page_state g.R.Look.words (pages_below c.args.node.level words (pairs_of words c.args.node.pair.now c.args.node.slots.now)) (pages (g.R.Look.words c.child_of-child.new.look) (c.child_of-child.result + 1)) c.args.old
    c.args.room.now c.child_of-child.new.look one.swaps c.requires.old.1 c.requires.old.0

pub returns-then-slots-eq1-clause-ok : goal.returns-then-slots-eq1-clause-ok
returns-then-slots-eq1-clause-ok g c =
    let words = g.R.Look.words c.args.room.now in
    let items = pairs_of words c.args.node.pair.now c.args.node.slots.now in
    tree_given_up g.R.Look.kept g.R.Look.page_state g.R.Look.words (pages_below c.args.node.level words items) (pairs_below c.args.node.level words items) (c.child_of-child.result + 1) c.args.old c.args.room.now c.child_of-child.new.look c.give_up-then-slots-eq1.new.self
    (one_left g (goal.at.returns-then-slots-eq1-clause-ok g c).After-child_of-child) c.requires.old.1 c.requires.old.0 c.give_up-then-slots-eq1.ensures.kept c.give_up-then-slots-eq1.ensures.words c.give_up-then-slots-eq1.ensures.page_state

pub returns-then-slots-eq0-clause-refused : goal.returns-then-slots-eq0-clause-refused
returns-then-slots-eq0-clause-refused g c =
    (tt, tt, (takes_within 0 3 (g.R.Look.page_state c.args.room.now) (g.R.Look.page_state c.give_up.new.self) (omega arith) (takes_given_up (g.R.Look.page_state c.args.room.now) (g.R.Look.page_state c.give_up.new.self) c.args.old c.give_up.ensures.page_state), tt))

pub returns-then-slots-eq1-clause-refused : goal.returns-then-slots-eq1-clause-refused
returns-then-slots-eq1-clause-refused g c = (
  tt,
  tt,
  (
    takes_within 0 3 (g.R.Look.page_state c.args.room.now) (g.R.Look.page_state c.give_up-then-slots-eq1.new.self) (omega arith) (takes_then 0 0 (g.R.Look.page_state c.args.room.now) (g.R.Look.page_state c.child_of-child.new.look) (g.R.Look.page_state c.give_up-then-slots-eq1.new.self)
        (takes_same (g.R.Look.page_state c.args.room.now) (g.R.Look.page_state c.child_of-child.new.look) c.child_of-child.ensures.unchanged.page_state) (takes_given_up (g.R.Look.page_state c.child_of-child.new.look) (g.R.Look.page_state c.give_up-then-slots-eq1.new.self) c.args.old c.give_up-then-slots-eq1.ensures.page_state)),
    tt,
  ),
)
