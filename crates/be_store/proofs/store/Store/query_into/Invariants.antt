use Rattle.be_store.specs.Passes.{volume_pinned}
use Rattle.be_store.proofs.store.Store.query_into.Given as goal

abbrev pub ghost-ask_into : goal.ghost-ask_into
ghost-ask_into a = volume_pinned a.look.knows
