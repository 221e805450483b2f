use Rattle.be_store.specs.Passes.{volume_pinned}
use Rattle.be_store.proofs.store.Store.index_kind.Given as goal

abbrev pub ghost-kind_at : goal.ghost-kind_at
ghost-kind_at a = volume_pinned a.look.knows
