use Rattle.std.proofs.Common.{ℕ, ◌<◌}
use Rattle.be_pages.specs.Pages.{IsUnchanged}
use Rattle.be_tree_reading.specs.Tree.{IsTreeAt}
use Rattle.be_tree_reading.proofs.about.about_within.Given as goal

-- both paths are on pages of the same level
abbrev pub invariant-loop-level : goal.invariant-loop-level
invariant-loop-level g l = record {
  left_minimum : ℕ;
  left_some : 0 < left_minimum;
  left_tree : IsTreeAt l.level left_minimum (g.L.Look.page_state l.fn.look) (g.L.Look.words l.fn.look) l.left;
  right_minimum : ℕ;
  right_some : 0 < right_minimum;
  right_tree : IsTreeAt l.level right_minimum (g.L.Look.page_state l.fn.look) (g.L.Look.words l.fn.look) l.right;
  unchanged : IsUnchanged g.L.Look.kept g.L.Look.page_state g.L.Look.words l.fn.look l.look;
}

abbrev pub decreases-loop-level : goal.decreases-loop-level
decreases-loop-level g l = l.level
