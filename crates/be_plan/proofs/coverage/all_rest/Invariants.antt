use Rattle.std.proofs.Common.{◌≡◌, take, true}
use Rattle.std.specs.List.{list_all}
use Rattle.be_query.specs.View.{formula}
use Rattle.be_volume.specs.Query.{has_index}
use Rattle.be_plan.specs.Cover.{rests_on}
use Rattle.be_plan.proofs.coverage.all_rest.Given as goal

abbrev pub ghost-rests_on : goal.ghost-rests_on
ghost-rests_on g a = g.volume

abbrev pub invariant-loop-pick : goal.invariant-loop-pick
invariant-loop-pick g l = record {
  stays : g.S.Source.kept l.source ≡ g.S.Source.kept l.initial.source;
  answers : g.S.Source.answers_for l.source g.volume;
  rest : list_all (rests_on (has_index g.volume) (formula l.tree)) (take l.pick-index l.picks) ≡ true;
}
