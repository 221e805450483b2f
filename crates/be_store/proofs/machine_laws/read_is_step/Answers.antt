use Rattle.be_store.proofs.Views.{any_read, read_step, vain_step}
use Rattle.be_store.proofs.machine_laws.read_is_step.Goals as goal

pub returns-clause-answered : goal.returns-clause-answered
returns-clause-answered g = read_step

pub returns-clause-unanswered : goal.returns-clause-unanswered
returns-clause-unanswered g = vain_step

pub returns-clause-any : goal.returns-clause-any
returns-clause-any g = any_read
