use Rattle.be_store.specs.Passes.{IsPassOf}
use Rattle.be_store_large_tests.proofs.tests.large.create.Given as goal

abbrev pub invariant-loop : goal.invariant-loop
invariant-loop l = IsPassOf l.store l.pass
