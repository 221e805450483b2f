use Rattle.be_store.specs.Passes.{volume_pinned}
use Rattle.be_store.proofs.live.Live.ask_changed.Given as goal

abbrev pub ghost-ask_each : goal.ghost-ask_each
ghost-ask_each a = volume_pinned a.look.knows
