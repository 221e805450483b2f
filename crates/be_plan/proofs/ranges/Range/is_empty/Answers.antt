use Rattle.std.proofs.Common.{◌≡◌, ◌∙◌, Some, true, false, ap, sym, rules}
use Rattle.std.specs.Ordering.{is_gt, is_lt}
use Rattle.be_volume.specs.Maps.{name_cmp}
use Rattle.be_plan.specs.Narrow.{high_of, is_above}
use Rattle.be_plan.proofs.Ends.{before}
use Rattle.be_plan.proofs.ranges.Range.is_empty.Goals as goal

pub returns-in-Some : goal.returns-in-Some
returns-in-Some c = λ yes k w.
    let low = c.args.self.now.low.items in
    let high = c.in-Some.high.now in
    let is : high_of c.args.self.now ≡ Some high = search rules in
    let up : is_gt (name_cmp low high) ≡ true = search rules in
    let under : is_lt (name_cmp k low) ≡ true = before k high low up (sym (ap (λ h. is_above h k) is) ∙ w.to_high) in
    let not : is_lt (name_cmp k low) ≡ false = w.from_low in
    cc
