use Rattle.be_store.proofs.Views.{refresh_steps}
use Rattle.be_store.proofs.machine_laws.changed_refresh_is_steps.Goals as goal

pub returns : goal.returns
returns g = refresh_steps
