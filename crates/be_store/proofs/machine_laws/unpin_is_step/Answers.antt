use Rattle.be_store.proofs.Views.{unpin_step}
use Rattle.be_store.proofs.machine_laws.unpin_is_step.Goals as goal

pub returns : goal.returns
returns g = unpin_step
