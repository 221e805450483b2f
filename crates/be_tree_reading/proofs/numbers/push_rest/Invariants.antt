use Rattle.std.proofs.Common.{length}
use Rattle.std.specs.Option.{option_copied}
use Rattle.be_pages.specs.Pages.{IsUnchanged}
use Rattle.be_tree_reading.specs.Cursor.{IsCursor, remaining}
use Rattle.be_tree_reading.specs.Range.{AreLong, HasGot, numbers_to}
use Rattle.be_tree_reading.proofs.numbers.push_rest.Given as goal

abbrev pub invariant-leaves : goal.invariant-leaves
invariant-leaves g l = record {
  cursor : IsCursor (g.L.Look.page_state l.fn.look) (g.L.Look.words l.fn.look) l.cursor;
  long : AreLong (remaining (g.L.Look.words l.fn.look) l.cursor);
  has : HasGot l.fn.found.items (numbers_to (remaining (g.L.Look.words l.fn.look) l.fn.cursor) (option_copied l.high))
      (numbers_to (remaining (g.L.Look.words l.fn.look) l.cursor) (option_copied l.high)) l.found.items;
  unchanged : IsUnchanged g.L.Look.kept g.L.Look.page_state g.L.Look.words l.fn.look l.look;
}

abbrev pub decreases-leaves : goal.decreases-leaves
decreases-leaves g l = length (remaining (g.L.Look.words l.fn.look) l.cursor)
