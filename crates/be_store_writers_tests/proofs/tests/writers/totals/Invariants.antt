use Rattle.be_store.specs.Passes.{IsPassOf}
use Rattle.be_store_writers_tests.proofs.tests.writers.totals.Given as goal

abbrev pub invariant-loop-text : goal.invariant-loop-text
invariant-loop-text l = IsPassOf l.store l.pass
