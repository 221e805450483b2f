use Rattle.std.proofs.Common.{◌≡◌, length}
use Rattle.be_pages.specs.Pages.{IsUnchanged}
use Rattle.be_tree_reading.specs.Cursor.{IsCursor, remaining}
use Rattle.be_paged_reading.specs.Nodes.{marked}
use Rattle.be_paged_reading.proofs.marks.next_mark.Given as goal

-- The cursor has not passed a mark.
abbrev pub invariant-steps : goal.invariant-steps
invariant-steps g l = record {
  cursor : IsCursor (g.L.Look.page_state l.fn.look) (g.L.Look.words l.fn.look) l.cursor;
  same : marked (remaining (g.L.Look.words l.fn.look) l.cursor) ≡ marked (remaining (g.L.Look.words l.fn.look) l.fn.cursor);
  unchanged : IsUnchanged g.L.Look.kept g.L.Look.page_state g.L.Look.words l.fn.look l.look;
}

abbrev pub decreases-steps : goal.decreases-steps
decreases-steps g l = length (remaining (g.L.Look.words l.fn.look) l.cursor)
