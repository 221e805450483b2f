use Rattle.std.specs.Bool.{⊤}
use Rattle.std.specs.Option.{option_copied, option_map}
use Rattle.be_plan.specs.Walk.{Keeps, HasOnly, HasCome}
use Rattle.be_plan.proofs.Passing.{steps}
use Rattle.be_plan.proofs.plain.nodes_in.Given as goal

abbrev pub invariant-keys : goal.invariant-keys
invariant-keys l = record {
  keeps : Keeps l.initial.found.items l.found.items;
  only : HasOnly l.volume l.name l.low (option_copied l.high) l.initial.found.items l.found.items;
  come : HasCome l.volume (λ n. ⊤) l.name l.low (option_copied l.high) (option_map (λ b. b.items) l.next) l.found.items;
}

abbrev pub decreases-keys : goal.decreases-keys
decreases-keys l = steps l.volume l.name (option_map (λ b. b.items) l.next)
