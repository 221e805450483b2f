use Rattle.std.proofs.Common.{◌≡◌, ◌*◌, length, map, take}
use Rattle.be_pages.specs.Pages.{IsUnchanged}
use Rattle.be_volume.specs.Volume.{State}
use Rattle.be_paged_reading.specs.Cells.{AreReported, IsFew, found_in, name_in}
use Rattle.be_paged_reading.specs.Version.{IsVersion}
use Rattle.be_paged_reading.proofs.rows.columns.Given as goal

-- The values of the nodes so far have been written for all names.
abbrev pub invariant-loop-node : goal.invariant-loop-node
invariant-loop-node g l = record {
  reported : (volume : State) → IsVersion (g.L.Look.page_state l.fn.look) (g.L.Look.words l.fn.look) l.version_page volume
      → AreReported (found_in volume.nodes (take l.node-index l.nodes) (map name_in l.names)) l.fn.cells l.cells l.fn.bytes l.bytes l.filled;
  count : l.filled.cells ≡ l.node-index * length l.names;
  few : IsFew l.filled;
  unchanged : IsUnchanged g.L.Look.kept g.L.Look.page_state g.L.Look.words l.fn.look l.look;
}
