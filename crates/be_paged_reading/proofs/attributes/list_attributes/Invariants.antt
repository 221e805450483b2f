use Rattle.std.proofs.Common.{◌≡◌, ◌≤◌, true, length, drop, take}
use Rattle.std.specs.Int.{to_be_bytes, w64}
use Rattle.std.specs.FinMap as map
use Rattle.be_pages.specs.Pages.{IsUnchanged}
use Rattle.be_tree_reading.specs.Cursor.{IsCursor, remaining}
use Rattle.be_tree_reading.specs.Range.{pairs_from}
use Rattle.be_tree_reading.specs.Tree.{pairs}
use Rattle.be_volume.specs.Maps.{Nodes, attributes_of}
use Rattle.be_paged_reading.specs.Catalog.{IsCatalog}
use Rattle.be_paged_reading.specs.Reading.{AreValid, front_of_node}
use Rattle.be_paged_reading.proofs.attributes.list_attributes.Given as goal

-- The cursor has passed one pair of the node for each attribute in the list.
abbrev pub invariant-loop : goal.invariant-loop
invariant-loop g l = record {
  cursor : IsCursor (g.L.Look.page_state l.look) (g.L.Look.words l.look) l.cursor;
  rest : front_of_node l.node (remaining (g.L.Look.words l.look) l.cursor) ≡ drop l.counter (front_of_node l.node (pairs_from (pairs (g.L.Look.words l.fn.look) l.catalog) (to_be_bytes w64 l.node) true));
  passed : l.counter ≤ length (front_of_node l.node (pairs_from (pairs (g.L.Look.words l.fn.look) l.catalog) (to_be_bytes w64 l.node) true));
  listed : (nodes : Nodes) → IsCatalog (pairs (g.L.Look.words l.fn.look) l.catalog) nodes → AreValid nodes → l.list.items ≡ take l.counter (map.entries (attributes_of nodes l.node));
  unchanged : IsUnchanged g.L.Look.kept g.L.Look.page_state g.L.Look.words l.fn.look l.look;
}
