use Rattle.be_store.specs.Passes.{volume_pinned}
use Rattle.be_store.proofs.store.Store.is_held.Given as goal

abbrev pub ghost-held_in : goal.ghost-held_in
ghost-held_in a = volume_pinned a.look.knows
