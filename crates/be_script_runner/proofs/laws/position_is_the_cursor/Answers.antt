use Rattle.be_script_runner.proofs.PositionLemmas.{position_is}
use Rattle.be_script_runner.proofs.laws.position_is_the_cursor.Goals as goal

pub returns : goal.returns
returns c = position_is
