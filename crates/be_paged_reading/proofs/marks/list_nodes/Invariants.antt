use Rattle.std.proofs.Common.{◌≡◌, ◌≤◌, ◌++◌, false, length}
use Rattle.std.specs.Int.{to_be_bytes, w64}
use Rattle.be_pages.specs.Pages.{IsUnchanged}
use Rattle.be_tree_reading.specs.Cursor.{IsCursor, remaining}
use Rattle.be_tree_reading.specs.Range.{pairs_from}
use Rattle.be_tree_reading.specs.Tree.{pairs}
use Rattle.be_paged_reading.specs.Nodes.{marked}
use Rattle.be_paged_reading.proofs.marks.list_nodes.Given as goal

-- The nodes listed so far, and those that are still ahead of the cursor.
abbrev pub invariant-loop : goal.invariant-loop
invariant-loop g l = record {
  cursor : IsCursor (g.L.Look.page_state l.look) (g.L.Look.words l.look) l.cursor;
  parts : l.list.items ++ marked (remaining (g.L.Look.words l.look) l.cursor) ≡ marked (pairs_from (pairs (g.L.Look.words l.fn.look) l.catalog) (to_be_bytes w64 l.from) false);
  count : length l.list.items ≡ l.counter;
  within : l.counter ≤ l.most;
  unchanged : IsUnchanged g.L.Look.kept g.L.Look.page_state g.L.Look.words l.fn.look l.look;
}
