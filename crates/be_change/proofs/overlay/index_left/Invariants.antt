use Rattle.std.proofs.Common.{◌≡◌, take}
use Rattle.be_volume.specs.Volume.{State}
use Rattle.be_change.specs.Left.{index_kind_left}
use Rattle.be_change.proofs.overlay.index_left.Given as goal

abbrev pub invariant-loop-i : goal.invariant-loop-i
invariant-loop-i l = (base : State) → index_kind_left base l.ops l.name ≡ index_kind_left base (take l.i l.ops) l.name
