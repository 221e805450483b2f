use Rattle.be_table.proofs.Runs.{runs_are_sound, fronts_run}
use Rattle.be_table.proofs.laws.runs.Goals as goal

pub returns-clause-sound : goal.returns-clause-sound
returns-clause-sound c = runs_are_sound

pub returns-clause-fronts : goal.returns-clause-fronts
returns-clause-fronts c = fronts_run
