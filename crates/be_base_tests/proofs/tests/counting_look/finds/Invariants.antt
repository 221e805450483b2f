use Rattle.be_pages.specs.Pages.{IsUnchanged}
use Rattle.be_base_tests.proofs.tests.counting_look.finds.Given as goal

abbrev pub invariant-loop-i : goal.invariant-loop-i
invariant-loop-i g l = IsUnchanged g.L.Look.kept g.L.Look.page_state g.L.Look.words l.fn.look l.look
