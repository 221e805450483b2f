use Rattle.std.proofs.Common.{◌≡◌, ◌<◌, ℕ, true, slice_index}
use Rattle.std.specs.List.{Contains}
use Rattle.be_query.specs.View.{formula}
use Rattle.be_volume.specs.Query.{sat}
use Rattle.be_plan.specs.Walk.{AddsTrueOf, Keeps}
use Rattle.be_plan.proofs.sifting.ask_all.Given as goal

abbrev pub ghost-add_if_true : goal.ghost-add_if_true
ghost-add_if_true g a = g.volume

abbrev pub invariant-loop-i : goal.invariant-loop-i
invariant-loop-i g l = record {
  stays : g.S.Source.kept l.source ≡ g.S.Source.kept l.initial.source;
  answers : g.S.Source.answers_for l.source g.volume;
  keeps : Keeps l.initial.found.items l.found.items;
  only : AddsTrueOf g.volume (formula l.tree) l.nodes l.initial.found.items l.found.items;
  has : (k : ℕ) → k < l.i → sat g.volume (formula l.tree) (slice_index l.nodes k) ≡ true → Contains l.found.items (slice_index l.nodes k);
}
