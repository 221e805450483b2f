use Rattle.std.proofs.Common.{◌≡◌}
use Rattle.be_volume_state.specs.Places.{left, steps_left}
use Rattle.be_volume_state.proofs.lists.fill.Given as goal

abbrev pub ghost-read : goal.ghost-read
ghost-read g a = g.volume

abbrev pub invariant-steps : goal.invariant-steps
invariant-steps g l = record {
  stays : g.W.Whole.kept l.whole ≡ g.W.Whole.kept l.initial.whole;
  answers : g.W.Whole.answers_for l.whole g.volume;
  next : l.next ≡ g.volume.next;
  same : left g.volume l.place ≡ left g.volume l.initial.place;
}

abbrev pub decreases-steps : goal.decreases-steps
decreases-steps g l = steps_left l.next l.place.step
