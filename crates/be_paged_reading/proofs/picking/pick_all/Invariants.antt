use Rattle.std.proofs.Common.{◌≡◌, ◌≤◌, ◌++◌, length}
use Rattle.be_pages.specs.Pages.{IsUnchanged}
use Rattle.be_tree_reading.specs.Walk.{IsWalk, StaysFalse, ahead, is_on_way}
use Rattle.be_paged_reading.specs.KeyTests.{AreTestable, passing_on}
use Rattle.be_paged_reading.proofs.picking.pick_all.Given as goal

-- The list contains the nodes of those visited keys that pass. All other keys are still ahead.
abbrev pub invariant-leaves : goal.invariant-leaves
invariant-leaves g l = record {
  walk : IsWalk (g.L.Look.page_state l.fn.look) (g.L.Look.words l.fn.look) l.walk;
  back : l.walk.back ≡ l.way.back;
  testable : AreTestable l.test (ahead (g.L.Look.words l.fn.look) l.walk);
  ends : StaysFalse (is_on_way l.way) (ahead (g.L.Look.words l.fn.look) l.walk);
  size : length l.room ≡ 256;
  few : length l.found.items ≤ l.most;
  parts : passing_on l.test l.way (ahead (g.L.Look.words l.fn.look) l.fn.walk)
      ≡ l.found.items ++ passing_on l.test l.way (ahead (g.L.Look.words l.fn.look) l.walk);
  unchanged : IsUnchanged g.L.Look.kept g.L.Look.page_state g.L.Look.words l.fn.look l.look;
}

abbrev pub decreases-leaves : goal.decreases-leaves
decreases-leaves g l = length (ahead (g.L.Look.words l.fn.look) l.walk)
