use Rattle.std.proofs.Common.{ap, sym, ◌∙◌}
use Rattle.std.specs.Ordering.{is_gt}
use Rattle.be_volume.specs.Maps.{name_cmp}
use Rattle.be_plan.specs.Narrow.{is_above, high_of}
use Rattle.be_plan.proofs.Bounds.{not_above_empty, not_above_any}
use Rattle.be_plan.proofs.ranges.Range.close.Goals as goal

pub returns-clause-within : goal.returns-clause-within
returns-clause-within c = λ k w. record {
  from_low = w.from_low;
  to_high = ap (is_above (high_of c.args.self.now)) (not_above_empty k (ap (λ l. is_gt (name_cmp k l)) (sym c.clear.ensures) ∙ w.to_high)) ∙ not_above_any (high_of c.args.self.now);
}

pub returns-clause-leaves : goal.returns-clause-leaves
returns-clause-leaves c = λ k w. not_above_empty k (ap (λ l. is_gt (name_cmp k l)) (sym c.clear.ensures) ∙ w.to_high)
