use Rattle.be_store.specs.Live.{IsLiveOf}
use Rattle.be_store.specs.Passes.{IsPassOf}
use Rattle.be_store_live_tests.proofs.tests.refreshing.agrees_always.Given as goal

abbrev pub invariant-loop-round : goal.invariant-loop-round
invariant-loop-round l = record {
  writer : IsPassOf l.store l.writer;
  reader : IsPassOf l.store l.reader;
  own : IsLiveOf l.store l.followed.live;
}
