use Rattle.be_store.specs.Passes.{volume_pinned}
use Rattle.be_store.proofs.store.Store.query.Given as goal

abbrev pub ghost-ask : goal.ghost-ask
ghost-ask a = volume_pinned a.look.knows
