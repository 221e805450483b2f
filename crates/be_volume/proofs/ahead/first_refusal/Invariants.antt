use Rattle.std.proofs.Common.{◌≡◌, take, IsOk}
use Rattle.be_volume.specs.Volume.{steps}
use Rattle.be_volume.proofs.ahead.first_refusal.Given as goal

abbrev pub invariant-loop-i : goal.invariant-loop-i
invariant-loop-i g l = record {
  stays : g.F.Facts.kept l.facts ≡ g.F.Facts.kept l.initial.facts;
  answers : g.F.Facts.answers_for l.facts g.volume;
  accepted : IsOk (steps g.volume (take l.i l.ops));
}

abbrev pub ghost-refusal_after : goal.ghost-refusal_after
ghost-refusal_after g a = g.volume
