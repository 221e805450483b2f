use Rattle.be_store.specs.Passes.{IsPassOf}
use Rattle.be_store_writers_tests.proofs.tests.writers.change_fifty.Given as goal

abbrev pub invariant-loop : goal.invariant-loop
invariant-loop l = IsPassOf l.store l.pass
