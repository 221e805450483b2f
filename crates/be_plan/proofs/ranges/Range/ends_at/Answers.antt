use Rattle.std.proofs.Common.{◌≡◌, ◌∙◌, ◌++◌, true, false, sym, ap}
use Rattle.std.specs.Ordering.{is_gt}
use Rattle.be_volume.specs.Maps.{name_cmp}
use Rattle.be_plan.specs.Narrow.{is_above}
use Rattle.be_plan.proofs.Bounds.{not_true, not_false}
use Rattle.be_plan.proofs.Ends.{not_past, reached, bounded_high}
use Rattle.be_plan.proofs.ranges.Range.ends_at.Goals as goal

pub returns-then-self-clause-ends : goal.returns-then-self-clause-ends
returns-then-self-clause-ends c = λ e k h.
    let high = c.args.self.now.high.items in
    let bound = c.args.front.now ++ c.args.end.now in
    let least : is_gt (name_cmp high bound) ≡ false =
    ap is_gt (sym (ap (λ l. name_cmp l bound) c.as_slice.ensures.value) ∙ sym c.order.ensures) ∙ sym c.is_gt.ensures ∙ not_true c.is_gt.result e in
    not_past k high bound least (sym (ap (λ o. is_above o k) (bounded_high c.args.self.now c.if-self.true)) ∙ h)

pub returns-then-self-clause-reaches : goal.returns-then-self-clause-reaches
returns-then-self-clause-reaches c = λ e k h.
    let high = c.args.self.now.high.items in
    let bound = c.args.front.now ++ c.args.end.now in
    let over : is_gt (name_cmp high bound) ≡ true =
    ap is_gt (sym (ap (λ l. name_cmp l bound) c.as_slice.ensures.value) ∙ sym c.order.ensures) ∙ sym c.is_gt.ensures ∙ not_false c.is_gt.result e in
    ap (λ o. is_above o k) (bounded_high c.args.self.now c.if-self.true) ∙ reached k high bound over h
