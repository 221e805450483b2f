use Rattle.be_store.specs.Passes.{IsPassOf}
use Rattle.be_store_live_tests.proofs.tests.refreshing.write_some.Given as goal

abbrev pub invariant-loop : goal.invariant-loop
invariant-loop l = IsPassOf l.store l.pass
