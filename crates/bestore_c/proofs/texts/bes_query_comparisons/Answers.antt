use Rattle.std.proofs.Common.{inl, inr, refl}
use Rattle.be_session.specs.declared.faults.Fault.TheVariants.{Refused}
use Rattle.be_value.specs.declared.refusals.Refusal.TheVariants.{OutOfMemory}
use Rattle.bestore_c.proofs.texts.bes_query_comparisons.Goals as goal

pub returns-in-Ok-clause-refuses : goal.returns-in-Ok-clause-refuses
returns-in-Ok-clause-refuses c = inr (Refused OutOfMemory, c.refuse.ensures, inr (OutOfMemory, refl, inl refl))
