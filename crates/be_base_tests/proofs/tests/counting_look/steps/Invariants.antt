use Rattle.be_pages.specs.Pages.{IsUnchanged}
use Rattle.be_tree_reading.specs.Cursor.{IsPath}
use Rattle.be_base_tests.proofs.tests.counting_look.steps.Given as goal

abbrev pub invariant-loop-i : goal.invariant-loop-i
invariant-loop-i g l = record {
  path : IsPath (g.L.Look.page_state l.fn.look) (g.L.Look.words l.fn.look) l.cursor.path.items;
  unchanged : IsUnchanged g.L.Look.kept g.L.Look.page_state g.L.Look.words l.fn.look l.look;
}
