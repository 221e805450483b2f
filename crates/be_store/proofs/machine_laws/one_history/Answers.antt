use Rattle.be_store.proofs.Views.{given_runs, some_runs}
use Rattle.be_store.proofs.machine_laws.one_history.Goals as goal

pub returns-clause-given : goal.returns-clause-given
returns-clause-given g = given_runs

pub returns-clause-made : goal.returns-clause-made
returns-clause-made g = some_runs
