use Rattle.std.proofs.Common.{subst}
use Rattle.be_paged_building.proofs.Indices.{gap_not_below, named_not_below, not_same}
use Rattle.be_paged_reading.specs.Page.{IsGapAt, IsNamedAt}
use Rattle.be_paged_building.proofs.building.VolumeBuilder.is_above.Goals as goal

pub returns-in-Ok-clause-other : goal.returns-in-Ok-clause-other
returns-in-Ok-clause-other c = λ f below.
    named_not_below c.args.self.now.entries.items c.args.name.now c.in-Ok.field-0 (subst (λ es. IsNamedAt es c.args.name.now c.in-Ok.field-0) c.deref.ensures.0 c.in-Ok.ensures.found) below

pub returns-in-Err-clause-other : goal.returns-in-Err-clause-other
returns-in-Err-clause-other c = λ f below.
    gap_not_below c.args.self.now.entries.items c.args.name.now c.in-Err.at (subst (λ es. IsGapAt es c.args.name.now c.in-Err.at) c.deref.ensures.0 c.in-Err.ensures.absent)
    (λ e. not_same c.in-Err.at c.len.result _ f c.len.ensures.value e) below
