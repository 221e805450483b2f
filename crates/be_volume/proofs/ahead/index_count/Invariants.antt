use Rattle.std.proofs.Common.{◌≡◌, ◌<◌, ◌^◌, take}
use Rattle.std.specs.FinMap as map
use Rattle.be_volume.specs.Ahead.{state_after}
use Rattle.be_volume.proofs.ahead.index_count.Given as goal

abbrev pub invariant-loop-op : goal.invariant-loop-op
invariant-loop-op g l = record {
  count : l.count ≡ map.len (state_after g.volume (take l.op-index l.before)).indices;
  fits : l.count < 2 ^ 64;
}
