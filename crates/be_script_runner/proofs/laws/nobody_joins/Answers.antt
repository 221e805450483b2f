use Rattle.be_script_runner.proofs.JoinLemmas.{nobody_joins}
use Rattle.be_script_runner.proofs.laws.nobody_joins.Goals as goal

pub returns : goal.returns
returns c = nobody_joins
