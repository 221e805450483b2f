use Rattle.std.proofs.Common.{◌≡◌, length}
use Rattle.std.specs.Option.{option_copied}
use Rattle.be_pages.specs.Pages.{IsUnchanged}
use Rattle.be_tree_reading.specs.Cursor.{IsCursor, remaining}
use Rattle.be_tree_reading.specs.Range.{HasGot}
use Rattle.be_paged_reading.specs.Texts.{AreTexts, nodes_passing_to}
use Rattle.be_paged_reading.proofs.texts.test_rest.Given as goal

abbrev pub invariant-leaves : goal.invariant-leaves
invariant-leaves g l = record {
  cursor : IsCursor (g.L.Look.page_state l.fn.look) (g.L.Look.words l.fn.look) l.cursor;
  texts : AreTexts (remaining (g.L.Look.words l.fn.look) l.cursor);
  size : length l.room ≡ 256;
  has : HasGot l.fn.found.items (nodes_passing_to l.fn.test.0 l.fn.test.1 (remaining (g.L.Look.words l.fn.look) l.fn.cursor) (option_copied l.fn.high))
      (nodes_passing_to l.fn.test.0 l.fn.test.1 (remaining (g.L.Look.words l.fn.look) l.cursor) (option_copied l.fn.high)) l.found.items;
  unchanged : IsUnchanged g.L.Look.kept g.L.Look.page_state g.L.Look.words l.fn.look l.look;
}

abbrev pub decreases-leaves : goal.decreases-leaves
decreases-leaves g l = length (remaining (g.L.Look.words l.fn.look) l.cursor)
