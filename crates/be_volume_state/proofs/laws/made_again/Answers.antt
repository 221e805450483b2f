use Rattle.be_volume_state.proofs.Rebuilt.{is_accepted, is_same}
use Rattle.be_volume_state.proofs.laws.made_again.Goals as goal

pub returns-clause-accepted : goal.returns-clause-accepted
returns-clause-accepted c = λ s sound numbered. is_accepted s sound numbered

pub returns-clause-same : goal.returns-clause-same
returns-clause-same c = λ s sound numbered. is_same s sound numbered
