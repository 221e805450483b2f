use Rattle.std.proofs.Common.{take, drop}
use Rattle.be_pages.specs.Pages.{IsUnchanged}
use Rattle.be_tree_reading.specs.Range.{HasGot}
use Rattle.be_tree_reading.specs.Walk.{items_ahead}
use Rattle.be_tree_reading.specs.Way.{numbers_in}
use Rattle.be_tree_reading.proofs.ordered.push_run.Given as goal

-- the list has the numbers of the items before this one
abbrev pub invariant-loop-i : goal.invariant-loop-i
invariant-loop-i g l = record {
  has : HasGot l.fn.found.items (numbers_in (take l.count (items_ahead (g.L.Look.words l.fn.look) l.leaf)))
      (numbers_in (drop l.i (take l.count (items_ahead (g.L.Look.words l.fn.look) l.leaf)))) l.found.items;
  unchanged : IsUnchanged g.L.Look.kept g.L.Look.page_state g.L.Look.words l.fn.look l.look;
}
