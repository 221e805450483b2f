use Rattle.std.proofs.Common.{refl}
use Rattle.bestore_c.proofs.building.give_node.Goals as goal

pub returns-in-Err-clause-err : goal.returns-in-Err-clause-err
returns-in-Err-clause-err c = (c.in-Err.refusal, refl, c.in-Err.ensures.err)
