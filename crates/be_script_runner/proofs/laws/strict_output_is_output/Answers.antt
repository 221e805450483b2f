use Rattle.be_script_runner.proofs.StrictLemmas.{strict_part, strict_whole}
use Rattle.be_script_runner.proofs.laws.strict_output_is_output.Goals as goal

pub returns-clause-whole : goal.returns-clause-whole
returns-clause-whole c = strict_whole

pub returns-clause-first : goal.returns-clause-first
returns-clause-first c = strict_part
