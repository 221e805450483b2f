use Rattle.std.proofs.Common.{refl}
use Rattle.be_shell.proofs.ends.EndsPeer.flush.Goals as goal

pub returns-in-Ok-clause-sent : goal.returns-in-Ok-clause-sent
returns-in-Ok-clause-sent g c = (refl, c.flush.ensures.bytes)

pub returns-in-Err-clause-unsent : goal.returns-in-Err-clause-unsent
returns-in-Err-clause-unsent g c = c.flush.ensures.bytes
