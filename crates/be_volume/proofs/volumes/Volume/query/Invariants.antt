use Rattle.std.proofs.Common.{◌≡◌, filter, take}
use Rattle.be_volume.specs.Query.{sat}
use Rattle.be_volume.proofs.volumes.Volume.query.Given as goal

abbrev pub invariant-loop-node : goal.invariant-loop-node
invariant-loop-node l = l.found.items ≡ filter (sat l.self l.query) (take l.node-index l.node-items)
