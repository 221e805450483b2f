use Rattle.std.proofs.Common.{◌≡◌, ◌-◌, ◌*◌, ◌<◌, ◌≤◌, length, take}
use Rattle.be_tree.specs.Counting.{TakesAtMost}
use Rattle.be_tree_reading.specs.Page.{level_of}
use Rattle.be_tree.specs.Path.{IsInHand, whole}
use Rattle.be_tree.specs.Slot.{pairs_of}
use Rattle.be_tree_reading.specs.Tree.{pairs_below}
use Rattle.be_tree.proofs.settling.settle.Given as goal

-- the node that remains to be settled is on this level, for every tree to which it may belong
abbrev pub invariant-loop-i : goal.invariant-loop-i
invariant-loop-i g l = record {
  in_hand : (start : g.row.R.Denot) → IsInHand g.R.Look.kept g.R.Look.page_state g.R.Look.words l.root l.above l.fn.was l.pair l.fn.in_hand.items (level_of (g.R.Look.words start l.fn.was)) start l.fn.room
      → IsInHand g.R.Look.kept g.R.Look.page_state g.R.Look.words l.root (take (length l.above - l.i) l.above) l.was l.pair l.slots.items (level_of (g.R.Look.words start l.was)) start l.room;
  same : (start : g.row.R.Denot) → IsInHand g.R.Look.kept g.R.Look.page_state g.R.Look.words l.root l.above l.fn.was l.pair l.fn.in_hand.items (level_of (g.R.Look.words start l.fn.was)) start l.fn.room
      → whole (g.R.Look.words start) (take (length l.above - l.i) l.above) (pairs_below (level_of (g.R.Look.words start l.was)) (g.R.Look.words l.room) (pairs_of (g.R.Look.words l.room) l.pair l.slots.items))
      ≡ whole (g.R.Look.words start) l.above (pairs_below (level_of (g.R.Look.words start l.fn.was)) (g.R.Look.words l.fn.room) (pairs_of (g.R.Look.words l.fn.room) l.pair l.fn.in_hand.items));
  within : l.i ≤ length l.above;
  takes : TakesAtMost (2 * l.i) (g.R.Look.page_state l.fn.room) (g.R.Look.page_state l.room);
  few : length l.slots.items ≤ 13;
  some : l.i < length l.above → 5 ≤ length l.slots.items;
}
