use Rattle.std.proofs.Common.{arith}
use Rattle.be_tree_reading.proofs.Bytes.Straddling.{straddled_fits}
use Rattle.be_tree_reading.proofs.page.straddled.Goals as goal

pub overflow_add-result : goal.overflow_add-result
overflow_add-result c = omega (arith, straddled_fits c.args.first c.args.second c.args.skip c.requires.1 c.ranges.second.fits)
