use Rattle.std.proofs.Common.{◌≡◌, ◌+◌, ◌<◌, ◌≤◌, ◌++◌, length}
use Rattle.be_pages.specs.Pages.{IsUnchanged}
use Rattle.be_tree_reading.specs.Cursor.{IsPath, IsPlace, pairs_along, pairs_past}
use Rattle.be_tree_reading.proofs.cursor.Cursor.take_place.Given as goal

-- the next pair is the first below this place
abbrev pub invariant-loop-place : goal.invariant-loop-place
invariant-loop-place g l = record {
  place : IsPlace (g.L.Look.page_state l.fn.look) (g.L.Look.words l.fn.look) l.place;
  left : l.place.next < g.L.Look.words l.fn.look l.place.page 1;
  path : IsPath (g.L.Look.page_state l.fn.look) (g.L.Look.words l.fn.look) l.self.path.items;
  short : l.place.level + length l.self.path.items ≤ 13;
  same : pairs_past (g.L.Look.words l.fn.look) l.place ++ pairs_along (g.L.Look.words l.fn.look) l.self.path.items ≡ pairs_along (g.L.Look.words l.fn.look) l.fn.self.path.items;
  unchanged : IsUnchanged g.L.Look.kept g.L.Look.page_state g.L.Look.words l.fn.look l.look;
}

abbrev pub decreases-loop-place : goal.decreases-loop-place
decreases-loop-place g l = l.place.level
