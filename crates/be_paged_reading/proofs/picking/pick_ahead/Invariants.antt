use Rattle.std.proofs.Common.{◌≡◌, ◌≤◌, ◌++◌, drop, length}
use Rattle.be_pages.specs.Pages.{IsUnchanged}
use Rattle.be_tree_reading.specs.Walk.{items_ahead}
use Rattle.be_paged_reading.specs.KeyTests.{passing_on}
use Rattle.be_paged_reading.proofs.picking.pick_ahead.Given as goal

-- The list contains the nodes of those items before this one that pass.
abbrev pub invariant-loop-i : goal.invariant-loop-i
invariant-loop-i g l = record {
  parts : l.fn.found.items ++ passing_on l.test l.way (items_ahead (g.L.Look.words l.fn.look) l.leaf)
      ≡ l.found.items ++ passing_on l.test l.way (drop l.i (items_ahead (g.L.Look.words l.fn.look) l.leaf));
  few : length l.found.items ≤ l.most;
  unchanged : IsUnchanged g.L.Look.kept g.L.Look.page_state g.L.Look.words l.fn.look l.look;
}
