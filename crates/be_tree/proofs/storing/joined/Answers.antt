use Rattle.std.proofs.Common.{arith}
use Rattle.be_tree.proofs.Bytes.Joining.{joined_fits}
use Rattle.be_tree.proofs.storing.joined.Goals as goal

pub overflow_add-result : goal.overflow_add-result
overflow_add-result c = omega (arith, joined_fits c.args.first c.args.number c.args.skip c.requires.0 c.requires.1 c.ranges.first.fits c.ranges.number.fits)
