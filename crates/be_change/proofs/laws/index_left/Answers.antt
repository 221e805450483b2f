use Rattle.be_change.proofs.Left.{kind_accepted}
use Rattle.be_change.proofs.laws.index_left.Goals as goal

pub returns : goal.returns
returns c = λ base ops name ok. kind_accepted base ops name ok
