use Rattle.std.proofs.Common.{ℕ}
use Rattle.be_pages.specs.Pages.{IsUnchanged}
use Rattle.be_tree_reading.specs.Cursor.{IsCursor}
use Rattle.be_tree_reading.specs.Tree.{IsTree}
use Rattle.be_paged_reading.specs.Cells.{IsAmong}
use Rattle.be_paged_reading.proofs.Reported.{IsBeyond}
use Rattle.be_paged_reading.proofs.rows.place_near.Given as goal

-- The cursor is still in the tree. If it has stepped over an item, the item's key is lower.
abbrev pub invariant-loop : goal.invariant-loop
invariant-loop g l = record {
  cursor : IsCursor (g.L.Look.page_state l.fn.look) (g.L.Look.words l.fn.look) l.cursor;
  among : (root : ℕ) → IsTree (g.L.Look.page_state l.fn.look) (g.L.Look.words l.fn.look) root → IsAmong (g.L.Look.words l.fn.look) root l.fn.cursor → IsAmong (g.L.Look.words l.fn.look) root l.cursor;
  beyond : (root : ℕ) → IsTree (g.L.Look.page_state l.fn.look) (g.L.Look.words l.fn.look) root → IsAmong (g.L.Look.words l.fn.look) root l.fn.cursor → IsBeyond (g.L.Look.words l.fn.look) root l.key l.cursor l.beyond;
  unchanged : IsUnchanged g.L.Look.kept g.L.Look.page_state g.L.Look.words l.fn.look l.look;
}
