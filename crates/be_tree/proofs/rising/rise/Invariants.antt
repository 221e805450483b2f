use Rattle.std.proofs.Common.{◌≡◌, ◌-◌, ◌≤◌, length, take}
use Rattle.be_pages.specs.Pages.{KeepsStart}
use Rattle.be_tree.specs.Counting.{TakesAtMost}
use Rattle.be_tree_reading.specs.Page.{level_of}
use Rattle.be_tree.specs.Path.{IsChanged, whole}
use Rattle.be_tree_reading.specs.Tree.{pairs_at}
use Rattle.be_tree.proofs.rising.rise.Given as goal

-- the change has reached this level, for every tree from which it may have begun
abbrev pub invariant-loop-i : goal.invariant-loop-i
invariant-loop-i g l = record {
  kept : g.R.Look.kept l.room ≡ g.R.Look.kept l.fn.room;
  starts : KeepsStart g.R.Look.kept g.R.Look.page_state g.R.Look.words l.fn.room l.room;
  within : l.i ≤ length l.above;
  takes : TakesAtMost l.i (g.R.Look.page_state l.fn.room) (g.R.Look.page_state l.room);
  changed : (start : g.row.R.Denot) → IsChanged g.R.Look.kept g.R.Look.page_state g.R.Look.words l.root l.above l.fn.changed (level_of (g.R.Look.words start l.fn.changed.was)) start l.fn.room
      → IsChanged g.R.Look.kept g.R.Look.page_state g.R.Look.words l.root (take (length l.above - l.i) l.above) l.below (level_of (g.R.Look.words start l.below.was)) start l.room;
  same : (start : g.row.R.Denot) → IsChanged g.R.Look.kept g.R.Look.page_state g.R.Look.words l.root l.above l.fn.changed (level_of (g.R.Look.words start l.fn.changed.was)) start l.fn.room
      → whole (g.R.Look.words start) (take (length l.above - l.i) l.above) (pairs_at (level_of (g.R.Look.words start l.below.was)) (g.R.Look.words l.room) l.below.page)
      ≡ whole (g.R.Look.words start) l.above (pairs_at (level_of (g.R.Look.words start l.fn.changed.was)) (g.R.Look.words l.fn.room) l.fn.changed.page);
}
