use Rattle.std.proofs.Common.{◌≡◌, length}
use Rattle.be_pages.specs.Pages.{IsUnchanged}
use Rattle.be_tree_reading.specs.Cursor.{IsPath, pairs_along}
use Rattle.be_tree_reading.proofs.cursor.Cursor.pop_spent.Given as goal

-- the places removed so far had no item left
abbrev pub invariant-loop-place : goal.invariant-loop-place
invariant-loop-place g l = record {
  path : IsPath (g.L.Look.page_state l.fn.look) (g.L.Look.words l.fn.look) l.self.path.items;
  same : pairs_along (g.L.Look.words l.fn.look) l.self.path.items ≡ pairs_along (g.L.Look.words l.fn.look) l.fn.self.path.items;
  unchanged : IsUnchanged g.L.Look.kept g.L.Look.page_state g.L.Look.words l.fn.look l.look;
}

abbrev pub decreases-loop-place : goal.decreases-loop-place
decreases-loop-place g l = length l.self.path.items
