use Rattle.be_store.proofs.Views.{closing}
use Rattle.be_store.proofs.machine_laws.close_is_step.Goals as goal

pub returns : goal.returns
returns g = closing
