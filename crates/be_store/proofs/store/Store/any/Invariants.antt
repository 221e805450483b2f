use Rattle.be_store.specs.Passes.{volume_pinned}
use Rattle.be_store.proofs.store.Store.any.Given as goal

abbrev pub ghost-ask_any : goal.ghost-ask_any
ghost-ask_any a = volume_pinned a.look.knows
