use Rattle.std.proofs.Common.{◌≡◌, ◌+◌, IsOk, count_by, take}
use Rattle.be_volume.specs.Ahead.{state_after}
use Rattle.be_volume.specs.Reading.{attribute}
use Rattle.be_volume.specs.Volume.{State, steps}
use Rattle.be_change.specs.Left.{is_new}
use Rattle.be_change.proofs.overlay.attribute_left.Given as goal

abbrev pub invariant-loop-i : goal.invariant-loop-i
invariant-loop-i l = record {
  numbers : l.number + count_by is_new l.ops ≡ l.next + count_by is_new (take l.i l.ops);
  same : (base : State) → l.next ≡ base.next + count_by is_new l.ops → IsOk (steps base l.ops) →
      attribute (state_after base l.ops) l.node l.name ≡ attribute (state_after base (take l.i l.ops)) l.node l.name;
}
