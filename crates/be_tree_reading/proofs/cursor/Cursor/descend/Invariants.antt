use Rattle.std.proofs.Common.{◌≡◌, ℕ, ◌+◌, ◌<◌, ◌≤◌, ◌++◌, length}
use Rattle.be_pages.specs.Pages.{IsUnchanged}
use Rattle.be_tree_reading.specs.Cursor.{IsPath, pairs_along}
use Rattle.be_tree_reading.specs.Range.{pairs_from}
use Rattle.be_tree_reading.specs.Tree.{IsTreeAt, pairs, pairs_at}
use Rattle.be_tree_reading.proofs.cursor.Cursor.descend.Given as goal

-- what is below this page from the key on, followed by what is after the path, is everything in the tree from the key on
abbrev pub invariant-loop-level : goal.invariant-loop-level
invariant-loop-level g l = record {
  least : ℕ;
  some : 0 < least;
  tree : IsTreeAt l.level least (g.L.Look.page_state l.fn.look) (g.L.Look.words l.fn.look) l.page;
  path : IsPath (g.L.Look.page_state l.fn.look) (g.L.Look.words l.fn.look) l.self.path.items;
  short : l.level + length l.self.path.items ≤ 13;
  same : pairs_from (pairs_at l.level (g.L.Look.words l.fn.look) l.page) l.from l.after ++ pairs_along (g.L.Look.words l.fn.look) l.self.path.items ≡ pairs_from (pairs (g.L.Look.words l.fn.look) l.root) l.from l.after;
  unchanged : IsUnchanged g.L.Look.kept g.L.Look.page_state g.L.Look.words l.fn.look l.look;
}

abbrev pub decreases-loop-level : goal.decreases-loop-level
decreases-loop-level g l = l.level
