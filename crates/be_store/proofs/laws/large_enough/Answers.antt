use Rattle.be_store.proofs.Capacity.{large}
use Rattle.be_store.proofs.laws.large_enough.Goals as goal

pub returns : goal.returns
returns g = large
