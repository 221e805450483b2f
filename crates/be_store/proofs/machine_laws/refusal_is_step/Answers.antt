use Rattle.be_store.proofs.Views.{conflict_number, learn_step, refused_if_step}
use Rattle.be_store.proofs.machine_laws.refusal_is_step.Goals as goal

pub returns-clause-plain : goal.returns-clause-plain
returns-clause-plain g = learn_step

pub returns-clause-conditional : goal.returns-clause-conditional
returns-clause-conditional g = refused_if_step

pub returns-clause-conflict : goal.returns-clause-conflict
returns-clause-conflict g = conflict_number
