use Rattle.be_table.proofs.Locks.{lock_by}
use Rattle.be_table.proofs.laws.lock.Goals as goal

pub returns : goal.returns
returns c limits slots id a carried = lock_by limits slots id a carried
