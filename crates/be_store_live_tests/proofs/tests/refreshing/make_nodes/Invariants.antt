use Rattle.be_store.specs.Passes.{IsPassOf}
use Rattle.be_store_live_tests.proofs.tests.refreshing.make_nodes.Given as goal

abbrev pub invariant-loop-node : goal.invariant-loop-node
invariant-loop-node l = IsPassOf l.store l.pass
