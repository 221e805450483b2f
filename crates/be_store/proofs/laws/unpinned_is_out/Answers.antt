use Rattle.be_store.proofs.Rests.{learns_out, new_is_out, unpin_is_out, write_is_out}
use Rattle.be_store.proofs.laws.unpinned_is_out.Goals as goal

pub returns-clause-new : goal.returns-clause-new
returns-clause-new g = new_is_out

pub returns-clause-unpin : goal.returns-clause-unpin
returns-clause-unpin g = unpin_is_out

pub returns-clause-write : goal.returns-clause-write
returns-clause-write g = write_is_out

pub returns-clause-other : goal.returns-clause-other
returns-clause-other g = learns_out
