use Rattle.be_store.proofs.Views.{write_step}
use Rattle.be_store.proofs.machine_laws.write_is_step.Goals as goal

pub returns : goal.returns
returns g = write_step
