use Rattle.be_store.proofs.Views.{call_step, calls_number, calls_run}
use Rattle.be_store.proofs.machine_laws.calls_are_run.Goals as goal

pub returns-clause-one : goal.returns-clause-one
returns-clause-one g = call_step

pub returns-clause-all : goal.returns-clause-all
returns-clause-all g = calls_run

pub returns-clause-number : goal.returns-clause-number
returns-clause-number g = calls_number
