use Rattle.std.proofs.Common.{ap, ◌∙◌, refl}
use Rattle.std.specs.Ordering.{is_lt}
use Rattle.be_volume.specs.Maps.{name_cmp}
use Rattle.be_plan.proofs.Bounds.{not_below_empty}
use Rattle.be_plan.proofs.ranges.Range.open.Goals as goal

pub returns : goal.returns
returns c = λ k. record { from_low = ap (λ l. is_lt (name_cmp k l)) c.clear.ensures ∙ not_below_empty k; to_high = refl }
