use Rattle.be_script_runner.proofs.CallLemmas.{served_leads, served_output}
use Rattle.be_script_runner.proofs.laws.served_is_output.Goals as goal

pub returns-clause-output : goal.returns-clause-output
returns-clause-output c = served_output

pub returns-clause-calls : goal.returns-clause-calls
returns-clause-calls c = served_leads
