use Rattle.std.proofs.Common.{◌≡◌, ◌≤◌, ◌+◌, take, length, Ok}
use Rattle.be_volume.specs.Sound.{IsSound}
use Rattle.be_volume.specs.Volume.{steps}
use Rattle.be_volume.proofs.volumes.perform_all.Given as goal

abbrev pub invariant-loop-op : goal.invariant-loop-op
invariant-loop-op l = record {
  done : steps l.initial.contents (take l.op-index l.ops) ≡ Ok (l.contents, l.dones.items);
  count : length l.dones.items ≡ l.op-index;
  sound : IsSound l.contents;
  bound : l.contents.next ≤ l.initial.contents.next + l.op-index;
}
