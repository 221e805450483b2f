use Rattle.be_store.specs.Live.{IsLiveOf}
use Rattle.be_store.specs.Passes.{IsPassOf}
use Rattle.be_store_live_tests.proofs.tests.at_once.follow_on.Given as goal

abbrev pub invariant-loop : goal.invariant-loop
invariant-loop l = record {
  reader : IsPassOf l.store l.reader;
  own : IsLiveOf l.store l.followed.live;
}
