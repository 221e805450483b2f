use Rattle.be_store.proofs.Capacity.{alone_large}
use Rattle.be_store.proofs.laws.alone_large_enough.Goals as goal

pub returns : goal.returns
returns g = alone_large
