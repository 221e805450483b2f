use Rattle.be_shell.proofs.TalkLemmas.{talk_output}
use Rattle.be_shell.proofs.laws.talk_is_output.Goals as goal

pub returns : goal.returns
returns c = λ s last lines talk h. talk_output lines s last talk h
