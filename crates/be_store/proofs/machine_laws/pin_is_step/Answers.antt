use Rattle.be_store.proofs.Views.{pin_step}
use Rattle.be_store.proofs.machine_laws.pin_is_step.Goals as goal

pub returns : goal.returns
returns g = pin_step
