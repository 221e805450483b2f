use Rattle.be_store.specs.Passes.{volume_pinned}
use Rattle.be_store.proofs.store.Store.query_prepared.Given as goal

abbrev pub ghost-ask_prepared : goal.ghost-ask_prepared
ghost-ask_prepared a = volume_pinned a.look.knows
