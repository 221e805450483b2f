use Rattle.std.proofs.Common.{[], ◌∷◌, ◌++◌, All, IsTrue, sym, subst, arith, rules}
use Rattle.be_pages.specs.Pages.{is_kept}
use Rattle.be_tree.specs.Slot.{IsReady}
use Rattle.be_tree_reading.proofs.Frame.{swaps_start, start_trans, swaps_stays, readable_kept}
use Rattle.be_tree_reading.proofs.Shape.Below.{all_left, all_right}
use Rattle.be_tree.proofs.Shape.Parts.{on_err}
use Rattle.be_tree.proofs.Nodes.Slots.{all_apart_nil, all_ready_swaps}
use Rattle.be_tree.proofs.Nodes.Writes.{parts_written}
use Rattle.be_tree.proofs.Sizes.InHand.{fewer_within, takes_fewer_then, takes_then}
use Rattle.be_tree.proofs.Sizes.Refusals.{takes_on}
use Rattle.be_tree.proofs.writing.write_parts.Given.{Over}
use Rattle.be_tree.proofs.writing.write_parts.Goals as goal
use Rattle.be_tree.proofs.writing.write_parts.Goals.{After-split_at}

-- the items of both halves can be read
ready : (g : Over) (c : After-split_at g) → All (IsReady (g.R.Look.page_state c.args.room.now) (g.R.Look.words c.args.room.now)) (c.split_at.result.0.now ++ c.split_at.result.1.now)
ready g c = subst (All (IsReady (g.R.Look.page_state c.args.room.now) (g.R.Look.words c.args.room.now))) c.split_at.ensures.by_index.0 c.requires.node.1.0

front_ready : (g : Over) (c : After-split_at g) → All (IsReady (g.R.Look.page_state c.args.room.now) (g.R.Look.words c.args.room.now)) c.split_at.result.0.now
front_ready g c = all_left (IsReady (g.R.Look.page_state c.args.room.now) (g.R.Look.words c.args.room.now)) c.split_at.result.0.now c.split_at.result.1.now (ready g c)

pub write_node-requires-clause-ready : goal.write_node-requires-clause-ready
write_node-requires-clause-ready g c = (
  all_right (IsReady (g.R.Look.page_state c.args.room.now) (g.R.Look.words c.args.room.now)) c.split_at.result.0.now c.split_at.result.1.now
      (ready g (goal.at.write_node-requires-clause-ready g c).After-split_at),
  c.requires.node.1.1,
)

pub write_changed-requires-clause-ready : goal.write_changed-requires-clause-ready
write_changed-requires-clause-ready g c = (
  all_ready_swaps g.R.Look.kept g.R.Look.page_state g.R.Look.words [] (c.in_ok-right.right ∷ []) c.args.room.now c.write_node.new.room c.in_ok-right.ensures.swaps c.split_at.result.0.now (all_apart_nil c.split_at.result.0.now)
      (front_ready g (goal.at.write_changed-requires-clause-ready g c).After-split_at),
  c.requires.node.1.1,
)

pub write_changed-requires-clause-kept : goal.write_changed-requires-clause-kept
write_changed-requires-clause-kept g c =
    subst (λ s. IsTrue (is_kept s))
    (sym (swaps_stays g.R.Look.kept g.R.Look.page_state g.R.Look.words [] (c.in_ok-right.right ∷ []) c.args.room.now c.write_node.new.room c.in_ok-right.ensures.swaps c.args.old (omega arith) (readable_kept (g.R.Look.page_state c.args.room.now c.args.old) c.requires.old.0)))
    c.requires.old.0

pub write_changed-requires-clause-open : goal.write_changed-requires-clause-open
write_changed-requires-clause-open g c = subst (λ k. IsTrue (g.R.Look.is_open k)) (sym c.in_ok-right.ensures.swaps.kept) c.requires.open

pub returns-in_err-right-clause-refused : goal.returns-in_err-right-clause-refused
returns-in_err-right-clause-refused g c =
    (on_err _ (c.in_err-right.ensures.refused.0), search rules, takes_on 2 _ (g.R.Look.page_state c.args.room.now) (g.R.Look.page_state c.write_node.new.room) (fewer_within 1 2 (g.R.Look.page_state c.args.room.now) (g.R.Look.page_state c.write_node.new.room) (omega arith) c.in_err-right.ensures.refused.2.1))

pub returns-in_err-left-clause-refused : goal.returns-in_err-left-clause-refused
returns-in_err-left-clause-refused g c = (
  on_err _ (start_trans g.R.Look.kept g.R.Look.page_state g.R.Look.words c.args.room.now c.write_node.new.room c.write_changed.new.room
      (swaps_start g.R.Look.kept g.R.Look.page_state g.R.Look.words [] (c.in_ok-right.right ∷ []) c.args.room.now c.write_node.new.room c.in_ok-right.ensures.swaps)
      c.in_err-left.ensures.refused.0),
  search rules,
  takes_on 2 _ (g.R.Look.page_state c.args.room.now) (g.R.Look.page_state c.write_changed.new.room) (takes_fewer_then 1 1 (g.R.Look.page_state c.args.room.now) (g.R.Look.page_state c.write_node.new.room) (g.R.Look.page_state c.write_changed.new.room) c.in_ok-right.ensures.refused.2.0 c.in_err-left.ensures.refused.2.1),
)

pub returns-clause-ok : goal.returns-clause-ok
returns-clause-ok g c =
    parts_written g.R.Look.kept g.R.Look.page_state g.R.Look.words c.args.node.level c.args.node.pair.now c.split_at.result.0.now c.split_at.result.1.now c.args.node.slots.now c.args.old c.in_ok-left.left c.in_ok-right.right
    c.args.room.now c.write_node.new.room c.write_changed.new.room c.split_at.ensures.by_index.0 c.requires.node.0
    (omega (arith, c.split_at.ensures.front_len, c.requires.first)) (omega (arith, c.split_at.ensures.back_len, c.requires.second))
    (front_ready g (goal.at.returns-clause-ok g c).After-split_at) c.requires.old.0 c.requires.old.1
    c.in_ok-right.ensures.ok c.in_ok-right.ensures.small c.in_ok-right.ensures.swaps c.in_ok-left.ensures.ok c.in_ok-left.ensures.small c.in_ok-left.ensures.swaps

pub returns-clause-refused : goal.returns-clause-refused
returns-clause-refused g c =
    (tt, tt, (takes_then 1 1 (g.R.Look.page_state c.args.room.now) (g.R.Look.page_state c.write_node.new.room) (g.R.Look.page_state c.write_changed.new.room) c.in_ok-right.ensures.refused.2.0 c.in_ok-left.ensures.refused.2.0, tt))
