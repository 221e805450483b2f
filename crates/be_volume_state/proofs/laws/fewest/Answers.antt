use Rattle.be_volume_state.proofs.Weights.{fewest}
use Rattle.be_volume_state.proofs.laws.fewest.Goals as goal

pub returns : goal.returns
returns c = λ s dones ops e. fewest s dones ops e
