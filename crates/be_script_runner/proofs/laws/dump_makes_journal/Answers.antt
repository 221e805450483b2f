use Rattle.be_script_runner.proofs.DumpLemmas.{dump_made}
use Rattle.be_script_runner.proofs.laws.dump_makes_journal.Goals as goal

pub returns : goal.returns
returns c = dump_made
