use Rattle.be_shell.proofs.WholeLemmas.{talk_of_bytes}
use Rattle.be_shell.proofs.laws.talk_of_bytes_is_output.Goals as goal

pub returns : goal.returns
returns c = talk_of_bytes
