use Rattle.std.proofs.Common.{◌-◌, ◌≤◌}
use Rattle.be_pages.specs.Pages.{IsUnchanged}
use Rattle.be_paged_reading.proofs.Stored.PageIndices.{AreAbove, AreBelow}
use Rattle.be_paged_reading.proofs.on_page.find_index.Given as goal

-- The names before `low` are lower, and those from `high` on are higher.
abbrev pub invariant-halves : goal.invariant-halves
invariant-halves g l = record {
  below : AreBelow (g.L.Look.words l.fn.look l.page) l.name l.low;
  above : AreAbove (g.L.Look.words l.fn.look l.page) l.name l.high;
  ordered : l.low ≤ l.high;
  in_range : l.high ≤ g.L.Look.words l.fn.look l.page 1;
  unchanged : IsUnchanged g.L.Look.kept g.L.Look.page_state g.L.Look.words l.fn.look l.look;
}

abbrev pub decreases-halves : goal.decreases-halves
decreases-halves g l = l.high - l.low
