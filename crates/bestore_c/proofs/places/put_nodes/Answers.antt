use Rattle.std.proofs.Common.{◌≡◌, arith, length, min}
use Rattle.bestore_c.specs.Places.{node_of}
use Rattle.bestore_c.proofs.Filled.{filled_all}
use Rattle.bestore_c.proofs.places.put_nodes.Goals as goal

pub returns : goal.returns
returns c =
    let all : c.loop-i.i ≡ min (length c.args.dones.now) (length c.args.places.now) =
    omega (arith, c.loop-i-test.false, c.loop-i.auto.i-end, c.min-count.ensures) in
    filled_all node_of c.args.dones.now c.args.places.now c.loop-i.places c.loop-i.i all c.loop-i.invariant.first
    (c.loop-i.invariant.rest c.loop-i.i (omega arith))
