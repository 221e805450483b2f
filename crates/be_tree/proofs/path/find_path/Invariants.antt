use Rattle.std.proofs.Common.{ℕ, ◌+◌, ◌-◌, ◌<◌, ◌≤◌, All, length}
use Rattle.be_pages.specs.Pages.{IsUnchanged}
use Rattle.be_tree_reading.specs.Key.{IsBranchFor}
use Rattle.be_tree_reading.specs.Page.{items_of}
use Rattle.be_tree.specs.Path.{IsWay}
use Rattle.be_tree_reading.specs.Tree.{IsTreeAt}
use Rattle.be_tree.proofs.path.find_path.Given as goal

-- the path so far leads to this page, and has room for one step per remaining level
abbrev pub invariant-loop-level : goal.invariant-loop-level
invariant-loop-level g l = record {
  least : ℕ;
  some : 0 < least;
  tree : IsTreeAt l.level least (g.L.Look.page_state l.fn.look) (g.L.Look.words l.fn.look) l.page;
  way : IsWay (g.L.Look.words l.fn.look) (l.root - 1) l.path.above.items l.page;
  branches : All (λ step. IsBranchFor l.key (items_of (g.L.Look.words l.fn.look step.page)) step.at) l.path.above.items;
  short : length l.path.above.items + l.level ≤ 13;
  unchanged : IsUnchanged g.L.Look.kept g.L.Look.page_state g.L.Look.words l.fn.look l.look;
}

abbrev pub decreases-loop-level : goal.decreases-loop-level
decreases-loop-level g l = l.level
