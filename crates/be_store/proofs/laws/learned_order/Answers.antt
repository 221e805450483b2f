use Rattle.be_store.proofs.Learned.{comes_after}
use Rattle.be_store.proofs.laws.learned_order.Goals as goal

pub returns-clause-reported : goal.returns-clause-reported
returns-clause-reported c reported d has = comes_after reported d has

pub returns-clause-write : goal.returns-clause-write
returns-clause-write g a c d ops n dones h has = (comes_after c.seen d has, h.number)
