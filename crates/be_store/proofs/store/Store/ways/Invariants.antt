use Rattle.be_store.specs.Passes.{volume_pinned}
use Rattle.be_store.proofs.store.Store.ways.Given as goal

abbrev pub ghost-ways_at : goal.ghost-ways_at
ghost-ways_at a = volume_pinned a.look.knows
