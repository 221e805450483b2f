use Rattle.std.proofs.Common.{◌≡◌, ◌<◌, ◌≤◌, false, get_or}
use Rattle.be_pages.specs.Pages.{IsUnchanged}
use Rattle.be_tree_reading.specs.Pair.{Pair}
use Rattle.be_tree_reading.specs.Walk.{is_on_way, items_ahead}
use Rattle.be_tree_reading.proofs.ordered.count_within.Given as goal

-- the item after these is past the end
abbrev pub invariant-loop-count : goal.invariant-loop-count
invariant-loop-count g l = record {
  at_most : l.count ≤ l.most;
  past : (d : Pair) → l.count < l.most → is_on_way l.way (get_or (items_ahead (g.L.Look.words l.fn.look) l.leaf) l.count d).key ≡ false;
  unchanged : IsUnchanged g.L.Look.kept g.L.Look.page_state g.L.Look.words l.fn.look l.look;
}

abbrev pub decreases-loop-count : goal.decreases-loop-count
decreases-loop-count g l = l.count
