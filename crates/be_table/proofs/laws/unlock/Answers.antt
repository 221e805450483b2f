use Rattle.be_table.proofs.Locks.{unlock_by}
use Rattle.be_table.proofs.laws.unlock.Goals as goal

pub returns : goal.returns
returns c limits slots id a writer_state = unlock_by limits slots id a writer_state
