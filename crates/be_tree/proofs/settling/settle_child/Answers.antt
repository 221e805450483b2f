use Rattle.std.proofs.Common.{ℕ, ◌+◌, ◌-◌, ◌<◌, ◌≤◌, IsTrue, length, refl, sym, subst, arith}
use Rattle.be_tree_reading.specs.Page.{item_at, item_place}
use Rattle.be_tree_reading.specs.Tree.{child}
use Rattle.be_tree_reading.proofs.Frame.{readable_kept}
use Rattle.be_tree.proofs.Settles.{above_kept, above_page, before_page, child_beside, child_read, settled_since}
use Rattle.be_tree.proofs.Sizes.Refusals.{refuses_read}
use Rattle.be_tree.proofs.settling.settle_child.Goals as goal

pub settle_left-requires-clause-child : goal.settle_left-requires-clause-child
settle_left-requires-clause-child g c =
    (c.requires.child.0, child_read g.R.Look.kept g.R.Look.page_state g.R.Look.words c.args.step c.args.was c.args.node.level c.args.node.pair.now c.args.node.slots.now c.args.room.now c.left_has_room.new.room c.left_has_room.ensures.unchanged c.requires.child.0 c.requires.child.1)

pub settle_left-requires-clause-open : goal.settle_left-requires-clause-open
settle_left-requires-clause-open g c = subst (λ k. IsTrue (g.R.Look.is_open k)) (sym c.left_has_room.ensures.unchanged.kept) c.requires.open

pub settle_left-requires-clause-room : goal.settle_left-requires-clause-room
settle_left-requires-clause-room g c =
    let less = c.left_has_room.ensures.room c.if-left_has_room.true in
    subst (λ (w : ℕ → ℕ → ℕ). w (child (item_at (w c.args.step.page) (item_place (c.args.step.at - 1)))) 1 + length c.args.node.slots.now ≤ 24) (sym c.left_has_room.ensures.unchanged.words)
    (omega (arith, less, c.requires.child.1.size))

pub settle_split-requires-clause-child : goal.settle_split-requires-clause-child
settle_split-requires-clause-child g c =
    (c.requires.child.0, child_read g.R.Look.kept g.R.Look.page_state g.R.Look.words c.args.step c.args.was c.args.node.level c.args.node.pair.now c.args.node.slots.now c.args.room.now c.left_has_room.new.room c.left_has_room.ensures.unchanged c.requires.child.0 c.requires.child.1)

pub settle_split-requires-clause-open : goal.settle_split-requires-clause-open
settle_split-requires-clause-open g c = subst (λ k. IsTrue (g.R.Look.is_open k)) (sym c.left_has_room.ensures.unchanged.kept) c.requires.open

pub count_of-requires-clause-readable : goal.count_of-requires-clause-readable
count_of-requires-clause-readable g c =
    readable_kept (g.R.Look.page_state c.args.room.now c.args.step.page) (above_kept g.R.Look.kept g.R.Look.page_state g.R.Look.words c.args.step c.args.was c.args.node.level c.args.node.pair.now c.args.node.slots.now c.requires.child.0 c.args.room.now c.requires.child.1)

pub count_of-requires-clause-page : goal.count_of-requires-clause-page
count_of-requires-clause-page g c = above_page g.R.Look.kept g.R.Look.page_state g.R.Look.words c.args.step c.args.was c.args.node.level c.args.node.pair.now c.args.node.slots.now c.requires.child.0 c.args.room.now c.requires.child.1

pub settle_right-requires-clause-child : goal.settle_right-requires-clause-child
settle_right-requires-clause-child g c =
    (c.requires.child.0, child_read g.R.Look.kept g.R.Look.page_state g.R.Look.words c.args.step c.args.was c.args.node.level c.args.node.pair.now c.args.node.slots.now c.args.room.now c.count_of.new.look c.count_of.ensures.unchanged c.requires.child.0 c.requires.child.1)

pub settle_right-requires-clause-open : goal.settle_right-requires-clause-open
settle_right-requires-clause-open g c = subst (λ k. IsTrue (g.R.Look.is_open k)) (sym c.count_of.ensures.unchanged.kept) c.requires.open

pub settle_right-requires-clause-before : goal.settle_right-requires-clause-before
settle_right-requires-clause-before g c =
    subst (λ (w : ℕ → ℕ → ℕ). c.args.step.at + 1 < w c.args.step.page 1) (sym c.count_of.ensures.unchanged.words) (omega (arith, c.if-step-count_of.true, c.count_of.ensures.count))

pub settle_left-requires-2-clause-child : goal.settle_left-requires-2-clause-child
settle_left-requires-2-clause-child g c =
    (c.requires.child.0, child_read g.R.Look.kept g.R.Look.page_state g.R.Look.words c.args.step c.args.was c.args.node.level c.args.node.pair.now c.args.node.slots.now c.args.room.now c.count_of.new.look c.count_of.ensures.unchanged c.requires.child.0 c.requires.child.1)

pub settle_left-requires-2-clause-open : goal.settle_left-requires-2-clause-open
settle_left-requires-2-clause-open g c = subst (λ k. IsTrue (g.R.Look.is_open k)) (sym c.count_of.ensures.unchanged.kept) c.requires.open

pub settle_left-requires-2-clause-beyond : goal.settle_left-requires-2-clause-beyond
settle_left-requires-2-clause-beyond g c =
    child_beside g.R.Look.kept g.R.Look.page_state g.R.Look.words c.args.step c.args.was c.args.node.level c.args.node.pair.now c.args.node.slots.now c.args.room.now c.count_of.new.look c.count_of.ensures.unchanged c.requires.child.0 c.requires.child.1 (omega (arith, c.if-step-count_of.false, c.count_of.ensures.count))

pub settle_left-requires-2-clause-room : goal.settle_left-requires-2-clause-room
settle_left-requires-2-clause-room g c =
    let h = c.requires.child.1 in
    let some = child_beside g.R.Look.kept g.R.Look.page_state g.R.Look.words c.args.step c.args.was c.args.node.level c.args.node.pair.now c.args.node.slots.now c.args.room.now c.count_of.new.look c.count_of.ensures.unchanged c.requires.child.0 h (omega (arith, c.if-step-count_of.false, c.count_of.ensures.count)) in
    let left = child (item_at (g.R.Look.words c.args.room.now c.args.step.page) (item_place (c.args.step.at - 1))) in
    let page = before_page g.R.Look.kept g.R.Look.page_state g.R.Look.words c.args.step c.args.was c.args.node.level c.args.node.pair.now c.args.node.slots.now c.requires.child.0 c.args.room.now h
    c.args.node.slots.now c.args.node.slots.now c.count_of.new.look c.count_of.ensures.unchanged (c.args.step.at - 1) left (omega (arith, some)) refl in
    subst (λ (w : ℕ → ℕ → ℕ). w (child (item_at (w c.args.step.page) (item_place (c.args.step.at - 1)))) 1 + length c.args.node.slots.now ≤ 24) (sym c.count_of.ensures.unchanged.words)
    (omega (arith, page.few, c.if-node-gt-MOST_ITEMS.false))

pub returns-then-left_has_room-clause-ok : goal.returns-then-left_has_room-clause-ok
returns-then-left_has_room-clause-ok g c =
    settled_since g.R.Look.kept g.R.Look.page_state g.R.Look.words c.args.step c.args.was c.args.node.level c.args.node.pair.now c.args.node.slots.now c.args.room.now c.left_has_room.new.room c.left_has_room.ensures.unchanged c.settle_left.result c.settle_left.new.room c.settle_left.ensures.ok

pub returns-then-node-gt-MOST_ITEMS-clause-ok : goal.returns-then-node-gt-MOST_ITEMS-clause-ok
returns-then-node-gt-MOST_ITEMS-clause-ok g c =
    settled_since g.R.Look.kept g.R.Look.page_state g.R.Look.words c.args.step c.args.was c.args.node.level c.args.node.pair.now c.args.node.slots.now c.args.room.now c.left_has_room.new.room c.left_has_room.ensures.unchanged c.settle_split.result c.settle_split.new.room c.settle_split.ensures.ok

pub returns-then-step-count_of-clause-ok : goal.returns-then-step-count_of-clause-ok
returns-then-step-count_of-clause-ok g c =
    settled_since g.R.Look.kept g.R.Look.page_state g.R.Look.words c.args.step c.args.was c.args.node.level c.args.node.pair.now c.args.node.slots.now c.args.room.now c.count_of.new.look c.count_of.ensures.unchanged c.settle_right.result c.settle_right.new.room c.settle_right.ensures.ok

pub returns-clause-ok : goal.returns-clause-ok
returns-clause-ok g c =
    settled_since g.R.Look.kept g.R.Look.page_state g.R.Look.words c.args.step c.args.was c.args.node.level c.args.node.pair.now c.args.node.slots.now c.args.room.now c.count_of.new.look c.count_of.ensures.unchanged c.settle_left-2.result c.settle_left-2.new.room c.settle_left-2.ensures.ok

pub returns-then-left_has_room-clause-refused : goal.returns-then-left_has_room-clause-refused
returns-then-left_has_room-clause-refused g c =
    refuses_read g.R.Look.kept g.R.Look.page_state g.R.Look.words g.R.Room.full 2 2 c.settle_left.result c.args.room.now c.left_has_room.new.room c.settle_left.new.room c.left_has_room.ensures.unchanged (omega arith) c.settle_left.ensures.refused

pub returns-then-node-gt-MOST_ITEMS-clause-refused : goal.returns-then-node-gt-MOST_ITEMS-clause-refused
returns-then-node-gt-MOST_ITEMS-clause-refused g c =
    refuses_read g.R.Look.kept g.R.Look.page_state g.R.Look.words g.R.Room.full 2 2 c.settle_split.result c.args.room.now c.left_has_room.new.room c.settle_split.new.room c.left_has_room.ensures.unchanged (omega arith) c.settle_split.ensures.refused

pub returns-then-step-count_of-clause-refused : goal.returns-then-step-count_of-clause-refused
returns-then-step-count_of-clause-refused g c =
    refuses_read g.R.Look.kept g.R.Look.page_state g.R.Look.words g.R.Room.full 2 2 c.settle_right.result c.args.room.now c.count_of.new.look c.settle_right.new.room c.count_of.ensures.unchanged (omega arith) c.settle_right.ensures.refused

pub returns-clause-refused : goal.returns-clause-refused
returns-clause-refused g c =
    refuses_read g.R.Look.kept g.R.Look.page_state g.R.Look.words g.R.Room.full 2 2 c.settle_left-2.result c.args.room.now c.count_of.new.look c.settle_left-2.new.room c.count_of.ensures.unchanged (omega arith) c.settle_left-2.ensures.refused
