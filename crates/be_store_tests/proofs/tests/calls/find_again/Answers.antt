use Rattle.std.proofs.Common.{subst, sym, ◌∙◌}
use Rattle.be_store.specs.Live.{IsLiveOf}
use Rattle.be_store_tests.proofs.tests.calls.find_again.Goals as goal

pub returns-clause-own : goal.returns-clause-own
returns-clause-own c = subst (IsLiveOf c.args.store.now) (sym (c.query_into-2.ensures.same ∙ c.query_into.ensures.same)) c.requires.own
