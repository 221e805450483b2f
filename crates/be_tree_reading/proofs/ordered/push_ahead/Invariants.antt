use Rattle.std.proofs.Common.{◌≡◌, ◌++◌, List, take}
use Rattle.be_pages.specs.Pages.{IsUnchanged}
use Rattle.be_tree_reading.specs.Pair.{Pair}
use Rattle.be_tree_reading.specs.Range.{AreLong, HasGot}
use Rattle.be_tree_reading.specs.Walk.{IsWalk, StaysFalse, ahead, is_on_way, on_way}
use Rattle.be_tree_reading.specs.Way.{IsLastOf, numbers_in}
use Rattle.be_tree_reading.proofs.ordered.push_ahead.Given as goal

-- what was passed, and what is still wanted of what is ahead, together are everything that was
-- wanted
abbrev pub invariant-leaves : goal.invariant-leaves
invariant-leaves g l = record {
  walk : IsWalk (g.L.Look.page_state l.fn.look) (g.L.Look.words l.fn.look) l.walk;
  back : l.walk.back ≡ l.way.back;
  long : AreLong (ahead (g.L.Look.words l.fn.look) l.walk);
  ends : StaysFalse (is_on_way l.way) (ahead (g.L.Look.words l.fn.look) l.walk);
  passed : List Pair;
  parts : take l.most (on_way l.way (ahead (g.L.Look.words l.fn.look) l.fn.walk)) ≡ passed ++ take l.want (on_way l.way (ahead (g.L.Look.words l.fn.look) l.walk));
  last : IsLastOf (g.L.Look.page_state l.fn.look) (g.L.Look.words l.fn.look) l.last passed;
  has : HasGot l.fn.found.items (numbers_in (take l.most (on_way l.way (ahead (g.L.Look.words l.fn.look) l.fn.walk))))
      (numbers_in (take l.want (on_way l.way (ahead (g.L.Look.words l.fn.look) l.walk)))) l.found.items;
  unchanged : IsUnchanged g.L.Look.kept g.L.Look.page_state g.L.Look.words l.fn.look l.look;
}

abbrev pub decreases-leaves : goal.decreases-leaves
decreases-leaves g l = l.want
