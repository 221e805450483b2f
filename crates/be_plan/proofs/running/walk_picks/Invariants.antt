use Rattle.std.proofs.Common.{◌≡◌, ◌<◌, ◌-◌, ℕ, length, slice_index}
use Rattle.be_query.specs.View.{formula}
use Rattle.be_plan.specs.Spine.{IsFrontOf}
use Rattle.be_plan.specs.Walk.{Collects, HasReached}
use Rattle.be_plan.proofs.running.walk_picks.Given as goal

abbrev pub ghost-walk_pick : goal.ghost-walk_pick
ghost-walk_pick g a = g.volume

abbrev pub invariant-loop-i : goal.invariant-loop-i
invariant-loop-i g l = record {
  stays : g.S.Source.kept l.source ≡ g.S.Source.kept l.initial.source;
  answers : g.S.Source.answers_for l.source g.volume;
  collects : Collects g.volume (formula l.tree) l.initial.found.items l.found.items;
  front : IsFrontOf (formula l.tree) (formula l.front.tree.now) l.front.end;
  reached : (k : ℕ) → k < l.i → HasReached g.volume (formula l.tree) (slice_index l.picks (length l.picks - 1 - k)) l.found.items;
}
