use Rattle.std.proofs.Common.{◌≡◌, ◌++◌, take, codes, flat_map}
use Rattle.std.specs.String.{string_bytes}
use Rattle.be_query.specs.View.{formula}
use Rattle.be_plan.specs.Explain.{text_at}
use Rattle.be_plan.proofs.explaining.print_picks.Given as goal

abbrev pub invariant-loop-pick : goal.invariant-loop-pick
invariant-loop-pick l = string_bytes l.text ≡ string_bytes l.initial.text ++ flat_map (λ p. codes " || " ++ text_at (formula l.tree) p) (take l.pick-index l.others)
