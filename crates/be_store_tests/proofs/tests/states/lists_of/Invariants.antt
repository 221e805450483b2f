use Rattle.be_store_tests.specs.Staying.{StaysPass}
use Rattle.be_store_tests.proofs.tests.states.lists_of.Given as goal

abbrev pub invariant-loop : goal.invariant-loop
invariant-loop l = StaysPass l.store l.fn.pass l.pass
