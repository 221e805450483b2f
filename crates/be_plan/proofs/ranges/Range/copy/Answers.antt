use Rattle.std.proofs.Common.{◌≡◌, ◌∙◌, ◌++◌, [], None, Some, append-nil, ap, sym, rules}
use Rattle.std.specs.Ordering.{is_gt, is_lt}
use Rattle.be_volume.specs.Maps.{name_cmp}
use Rattle.be_plan.specs.Narrow.{high_of, is_above}
use Rattle.be_plan.proofs.ranges.Range.copy.Goals as goal

pub returns-in_default-clause-within : goal.returns-in_default-clause-within
returns-in_default-clause-within c = λ k w.
    let low = c.args.self.now.low.items in
    let whole : low ++ [] ≡ low = append-nil low in
    let read : c.low.result.now ≡ low = c.low.ensures in
    let none : high_of c.args.self.now ≡ None = search rules in
    record {
      from_low = sym (ap (λ l. is_lt (name_cmp k l)) (ap (λ l. l ++ []) read ∙ whole)) ∙ c.raise_to.ensures.leaves c.if-not-raise_to.false k w;
      to_high = ap (λ h. is_above h k) none;
    }

pub returns-in_default-clause-keeps : goal.returns-in_default-clause-keeps
returns-in_default-clause-keeps c = λ k w.
    let low = c.args.self.now.low.items in
    let read : c.low.result.now ++ [] ≡ low = ap (λ l. l ++ []) c.low.ensures ∙ append-nil low in
    c.raise_to.ensures.keeps k (ap (λ l. is_lt (name_cmp k l)) read ∙ w.from_low) (c.whole-range.ensures k)

pub returns-clause-within : goal.returns-clause-within
returns-clause-within c = λ k w.
    let low = c.args.self.now.low.items in
    let high = c.in-Some.high.now in
    let read : c.low.result.now ++ [] ≡ low = ap (λ l. l ++ []) c.low.ensures ∙ append-nil low in
    let is : high_of c.args.self.now ≡ Some high = search rules in
    record {
      from_low = sym (ap (λ l. is_lt (name_cmp k l)) read) ∙ c.raise_to.ensures.leaves c.if-not-raise_to.false k (c.lower_to.ensures.within k w);
      to_high = ap (λ h. is_above h k) is ∙ sym (ap (λ l. is_gt (name_cmp k l)) (append-nil high)) ∙ c.lower_to.ensures.leaves c.if-not-lower_to.false k w;
    }

pub returns-clause-keeps : goal.returns-clause-keeps
returns-clause-keeps c = λ k w.
    let low = c.args.self.now.low.items in
    let high = c.in-Some.high.now in
    let read : c.low.result.now ++ [] ≡ low = ap (λ l. l ++ []) c.low.ensures ∙ append-nil low in
    let is : high_of c.args.self.now ≡ Some high = search rules in
    c.lower_to.ensures.keeps k (ap (λ l. is_gt (name_cmp k l)) (append-nil high) ∙ sym (ap (λ h. is_above h k) is) ∙ w.to_high)
    (c.raise_to.ensures.keeps k (ap (λ l. is_lt (name_cmp k l)) read ∙ w.from_low) (c.whole-range.ensures k))
