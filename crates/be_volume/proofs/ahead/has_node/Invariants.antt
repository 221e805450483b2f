use Rattle.std.proofs.Common.{◌≡◌, ◌≤◌, ◌+◌, take}
use Rattle.std.specs.FinMap as map
use Rattle.be_volume.specs.Ahead.{state_after}
use Rattle.be_volume.proofs.ahead.has_node.Given as goal

abbrev pub invariant-loop-op : goal.invariant-loop-op
invariant-loop-op g l = record {
  next : l.next ≡ (state_after g.volume (take l.op-index l.before)).next;
  bound : l.next ≤ g.volume.next + l.op-index;
  there : l.there ≡ map.contains_key (state_after g.volume (take l.op-index l.before)).nodes l.node;
}
