use Rattle.be_store.proofs.Remade.{accepted, same}
use Rattle.be_store.proofs.laws.state_makes_again.Goals as goal

pub returns-clause-accepted : goal.returns-clause-accepted
returns-clause-accepted c = accepted

pub returns-clause-same : goal.returns-clause-same
returns-clause-same c = same
