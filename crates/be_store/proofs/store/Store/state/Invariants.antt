use Rattle.be_store.specs.Passes.{volume_pinned}
use Rattle.be_store.proofs.store.Store.state.Given as goal

abbrev pub ghost-read_on : goal.ghost-read_on
ghost-read_on a = volume_pinned a.look.knows
