use Rattle.be_store.proofs.Shown.{calls_shown}
use Rattle.be_store.proofs.laws.steps_are_shown.Goals as goal

pub returns : goal.returns
returns g = calls_shown
