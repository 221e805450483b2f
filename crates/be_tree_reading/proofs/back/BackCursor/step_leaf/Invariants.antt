use Rattle.std.proofs.Common.{◌≡◌, ◌+◌, ◌<◌, ◌≤◌, ◌++◌, length}
use Rattle.be_pages.specs.Pages.{IsUnchanged}
use Rattle.be_tree_reading.specs.Back.{pairs_before, pairs_up_to}
use Rattle.be_tree_reading.specs.Cursor.{IsPath, IsPlace}
use Rattle.be_tree_reading.proofs.back.BackCursor.step_leaf.Given as goal

-- the next pair is the last one before this place
abbrev pub invariant-loop-place : goal.invariant-loop-place
invariant-loop-place g l = record {
  place : IsPlace (g.L.Look.page_state l.fn.look) (g.L.Look.words l.fn.look) l.place;
  left : 0 < l.place.next;
  path : IsPath (g.L.Look.page_state l.fn.look) (g.L.Look.words l.fn.look) l.self.path.items;
  short : l.place.level + length l.self.path.items ≤ 13;
  same : pairs_up_to (g.L.Look.words l.fn.look) l.self.path.items ++ pairs_before (g.L.Look.words l.fn.look) l.place ≡ pairs_up_to (g.L.Look.words l.fn.look) l.fn.self.path.items;
  unchanged : IsUnchanged g.L.Look.kept g.L.Look.page_state g.L.Look.words l.fn.look l.look;
}

abbrev pub decreases-loop-place : goal.decreases-loop-place
decreases-loop-place g l = l.place.level
