use Rattle.std.proofs.Common.{inl, refl}
use Rattle.be_session.proofs.changing.collect_operation.Goals as goal

pub returns-in-Err-clause-err : goal.returns-in-Err-clause-err
returns-in-Err-clause-err c = (refl, inl c.in-Err.ensures.err)
