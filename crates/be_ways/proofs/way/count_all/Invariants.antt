use Rattle.std.proofs.Common.{◌≡◌}
use Rattle.std.specs.Prelude.{All}
use Rattle.be_ways.specs.Ways.{IsWay}
use Rattle.be_ways.proofs.way.count_all.Given as goal

abbrev pub ghost-counted : goal.ghost-counted
ghost-counted g a = g.volume

abbrev pub invariant-loop-walk : goal.invariant-loop-walk
invariant-loop-walk g l = record {
  can : (goal.iterator-loop-walk g).can_next l.walk-iterator;
  ends : (goal.iterator-loop-walk g).is_finite l.walk-iterator;
  ways : All (IsWay g.volume) l.ways.items;
  stays : g.S.Source.kept l.source ≡ g.S.Source.kept l.initial.source;
  answers : g.S.Source.answers_for l.source g.volume;
}
