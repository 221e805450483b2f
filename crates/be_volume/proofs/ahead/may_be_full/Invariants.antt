use Rattle.std.proofs.Common.{◌≤◌, ◌+◌, take}
use Rattle.std.specs.FinMap as map
use Rattle.be_volume.specs.Maps.{attributes_of}
use Rattle.be_volume.specs.Ahead.{state_after}
use Rattle.be_volume.proofs.ahead.may_be_full.Given as goal

abbrev pub invariant-loop-op : goal.invariant-loop-op
invariant-loop-op g l = record {
  bound : l.sets ≤ l.op-index;
  most : map.len (attributes_of (state_after g.volume (take l.op-index l.before)).nodes l.node) ≤ l.old + l.sets;
}
