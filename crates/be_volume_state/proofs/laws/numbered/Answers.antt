use Rattle.be_volume_state.proofs.Numbering.{empty_numbered, stays_numbered}
use Rattle.be_volume_state.proofs.laws.numbered.Goals as goal

pub returns-clause-begins : goal.returns-clause-begins
returns-clause-begins c = empty_numbered

pub returns-clause-stays : goal.returns-clause-stays
returns-clause-stays c = λ s ops is. stays_numbered s ops is
