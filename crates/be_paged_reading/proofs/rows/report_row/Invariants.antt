use Rattle.std.proofs.Common.{◌≡◌, ◌+◌, ◌++◌, ℕ, List, map, take}
use Rattle.be_pages.specs.Pages.{IsUnchanged}
use Rattle.be_tree_reading.specs.Tree.{pairs}
use Rattle.be_volume.specs.Maps.{Nodes}
use Rattle.be_paged_reading.specs.Catalog.{IsCatalog}
use Rattle.be_paged_reading.specs.Cells.{AreReported, GoesOn, IsFew, found_at, name_in}
use Rattle.be_paged_reading.specs.Reading.{AreValid}
use Rattle.be_paged_reading.specs.declared.cells.Cell.{Cell}
use Rattle.be_paged_reading.proofs.Reported.{Found}
use Rattle.be_paged_reading.proofs.rows.report_row.Given as goal

-- The values of the node have been written for the names so far.
abbrev pub invariant-loop-name : goal.invariant-loop-name
invariant-loop-name g l = record {
  row : GoesOn (g.L.Look.page_state l.look) (g.L.Look.words l.look) l.fn.row l.row;
  reported : (nodes : Nodes) → IsCatalog (pairs (g.L.Look.words l.fn.look) l.fn.row.catalog) nodes → AreValid nodes → (found : List Found) (cell_places : List Cell) (byte_places : List ℕ)
      → AreReported found cell_places l.fn.cells byte_places l.fn.bytes l.fn.filled
      → AreReported (found ++ map (found_at nodes l.fn.row.node) (map name_in (take l.name-index l.names))) cell_places l.cells byte_places l.bytes l.filled;
  count : l.filled.cells ≡ l.fn.filled.cells + l.name-index;
  few : IsFew l.filled;
  unchanged : IsUnchanged g.L.Look.kept g.L.Look.page_state g.L.Look.words l.fn.look l.look;
}
