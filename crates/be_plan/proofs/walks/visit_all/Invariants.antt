use Rattle.std.proofs.Common.{◌≡◌, true}
use Rattle.std.specs.Option.{option_map}
use Rattle.be_query.specs.View.{formula}
use Rattle.be_volume.specs.Query.{sat}
use Rattle.be_plan.specs.Narrow.{high_of}
use Rattle.be_plan.specs.Walk.{Collects, HasCome}
use Rattle.be_plan.proofs.Passing.{steps}
use Rattle.be_plan.proofs.walks.visit_all.Given as goal

abbrev pub ghost-visit : goal.ghost-visit
ghost-visit g a = g.volume

abbrev pub invariant-keys : goal.invariant-keys
invariant-keys g l = record {
  stays : g.S.Source.kept l.source ≡ g.S.Source.kept l.initial.source;
  answers : g.S.Source.answers_for l.source g.volume;
  collects : Collects g.volume (formula l.walk.tree.now) l.initial.found.items l.found.items;
  come : HasCome g.volume (λ n. sat g.volume (formula l.walk.tree.now) n ≡ true) l.walk.index.name.now l.walk.range.now.low.items (high_of l.walk.range.now) (option_map (λ b. b.items) l.next)
      l.found.items;
}

abbrev pub decreases-keys : goal.decreases-keys
decreases-keys g l = steps g.volume l.walk.index.name.now (option_map (λ b. b.items) l.next)
