use Rattle.std.proofs.Common.{◌∙◌, sym, ap}
use Rattle.std.specs.Ordering.{is_gt}
use Rattle.be_volume.specs.Maps.{name_cmp}
use Rattle.be_plan.proofs.ranges.Range.lower_to.Goals as goal

pub returns-then-ends_at-clause-leaves : goal.returns-then-ends_at-clause-leaves
returns-then-ends_at-clause-leaves c = λ e k w. c.ends_at.ensures.ends c.if-ends_at.true k w.to_high

pub returns-clause-within : goal.returns-clause-within
returns-clause-within c = λ k w. record {
  from_low = w.from_low;
  to_high = c.ends_at.ensures.reaches c.if-ends_at.false k (sym (ap (λ l. is_gt (name_cmp k l)) (c.put.ensures.fits c.if-not-put.false)) ∙ w.to_high);
}

pub returns-clause-keeps : goal.returns-clause-keeps
returns-clause-keeps c = λ k h w. record { from_low = w.from_low; to_high = ap (λ l. is_gt (name_cmp k l)) (c.put.ensures.fits c.if-not-put.false) ∙ h }

pub returns-clause-leaves : goal.returns-clause-leaves
returns-clause-leaves c = λ e k w. sym (ap (λ l. is_gt (name_cmp k l)) (c.put.ensures.fits c.if-not-put.false)) ∙ w.to_high
