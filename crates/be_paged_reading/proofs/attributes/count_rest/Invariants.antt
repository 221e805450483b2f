use Rattle.std.proofs.Common.{◌≡◌, ◌≤◌, length, drop}
use Rattle.be_pages.specs.Pages.{IsUnchanged}
use Rattle.be_tree_reading.specs.Cursor.{IsCursor, remaining}
use Rattle.be_paged_reading.specs.Reading.{front_of_node}
use Rattle.be_paged_reading.proofs.attributes.count_rest.Given as goal

-- The cursor has passed `count` of the node's pairs.
abbrev pub invariant-loop-count : goal.invariant-loop-count
invariant-loop-count g l = record {
  cursor : IsCursor (g.L.Look.page_state l.look) (g.L.Look.words l.look) l.cursor;
  rest : front_of_node l.node (remaining (g.L.Look.words l.look) l.cursor) ≡ drop l.count (front_of_node l.node (remaining (g.L.Look.words l.initial.look) l.initial.cursor));
  passed : l.count ≤ length (front_of_node l.node (remaining (g.L.Look.words l.initial.look) l.initial.cursor));
  unchanged : IsUnchanged g.L.Look.kept g.L.Look.page_state g.L.Look.words l.initial.look l.look;
}
