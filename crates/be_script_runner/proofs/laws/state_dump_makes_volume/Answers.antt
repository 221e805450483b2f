use Rattle.be_script_runner.proofs.StateDumpLemmas.{state_dump_made}
use Rattle.be_script_runner.proofs.laws.state_dump_makes_volume.Goals as goal

pub returns : goal.returns
returns c = state_dump_made
