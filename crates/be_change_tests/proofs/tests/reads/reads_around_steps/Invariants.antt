use Rattle.be_store.specs.Passes.{IsPassOf}
use Rattle.be_change_tests.proofs.tests.reads.reads_around_steps.Given as goal

abbrev pub invariant-loop-node : goal.invariant-loop-node
invariant-loop-node l = IsPassOf l.store l.pass
