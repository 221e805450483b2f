use Rattle.be_store.specs.Passes.{volume_pinned}
use Rattle.be_store.proofs.store.Store.ordered.Given as goal

abbrev pub ghost-ask_page : goal.ghost-ask_page
ghost-ask_page a = volume_pinned a.look.knows
