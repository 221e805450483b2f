use Rattle.be_store.specs.Passes.{volume_pinned}
use Rattle.be_store.proofs.store.Store.first.Given as goal

abbrev pub ghost-ask_first : goal.ghost-ask_first
ghost-ask_first a = volume_pinned a.look.knows
