use Rattle.be_store.proofs.Views.{meeting_call, seen_number, witness_call}
use Rattle.be_store.proofs.machine_laws.meeting_is_step.Goals as goal

pub returns-clause-meets : goal.returns-clause-meets
returns-clause-meets g = meeting_call

pub returns-clause-number : goal.returns-clause-number
returns-clause-number g = seen_number

pub returns-clause-witness : goal.returns-clause-witness
returns-clause-witness g = witness_call
