use Rattle.std.proofs.Common.{refl}
use Rattle.be_store.proofs.machine_laws.new_pass_has_first_view.Goals as goal

pub returns : goal.returns
returns g = λ limits steps k. refl
