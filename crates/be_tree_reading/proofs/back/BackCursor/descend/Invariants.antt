use Rattle.std.proofs.Common.{◌≡◌, ℕ, ◌+◌, ◌<◌, ◌≤◌, ◌++◌, length, Some}
use Rattle.be_pages.specs.Pages.{IsUnchanged}
use Rattle.be_tree_reading.specs.Back.{pairs_up_to}
use Rattle.be_tree_reading.specs.Cursor.{IsPath}
use Rattle.be_tree_reading.specs.Tree.{IsTreeAt, pairs, pairs_at}
use Rattle.be_tree_reading.specs.Way.{pairs_until}
use Rattle.be_tree_reading.proofs.back.BackCursor.descend.Given as goal

-- what is before the path, followed by what is below this page up to the key, is everything in the tree up to the key
abbrev pub invariant-loop-level : goal.invariant-loop-level
invariant-loop-level g l = record {
  least : ℕ;
  some : 0 < least;
  tree : IsTreeAt l.level least (g.L.Look.page_state l.fn.look) (g.L.Look.words l.fn.look) l.page;
  path : IsPath (g.L.Look.page_state l.fn.look) (g.L.Look.words l.fn.look) l.self.path.items;
  short : l.level + length l.self.path.items ≤ 13;
  same : pairs_up_to (g.L.Look.words l.fn.look) l.self.path.items ++ pairs_until (pairs_at l.level (g.L.Look.words l.fn.look) l.page) (Some l.to) l.before
      ≡ pairs_until (pairs (g.L.Look.words l.fn.look) l.root) (Some l.to) l.before;
  unchanged : IsUnchanged g.L.Look.kept g.L.Look.page_state g.L.Look.words l.fn.look l.look;
}

abbrev pub decreases-loop-level : goal.decreases-loop-level
decreases-loop-level g l = l.level
