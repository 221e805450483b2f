use Rattle.be_script_runner.proofs.OwnLemmas.{answered_alone}
use Rattle.be_script_runner.proofs.laws.answered_alone.Goals as goal

pub returns : goal.returns
returns c = answered_alone
