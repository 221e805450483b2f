use Rattle.be_store.specs.Passes.{volume_pinned}
use Rattle.be_store.proofs.store.Store.explain.Given as goal

abbrev pub ghost-choose_at : goal.ghost-choose_at
ghost-choose_at a = volume_pinned a.look.knows
