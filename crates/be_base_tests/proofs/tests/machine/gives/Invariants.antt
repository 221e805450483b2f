use Rattle.std.proofs.Common.{◌≡◌}
use Rattle.be_core.specs.Shown.{page_count}
use Rattle.be_base_tests.proofs.tests.machine.gives.Given as goal

abbrev pub invariant-loop-line : goal.invariant-loop-line
invariant-loop-line l = page_count l.state ≡ page_count l.initial.state
