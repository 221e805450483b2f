use Rattle.be_query.specs.Turning.{rounds}
use Rattle.be_query.specs.View.{formula}
use Rattle.be_query.proofs.tree.Tree.drop.Given as goal

abbrev pub decreases-joints : goal.decreases-joints
decreases-joints l = rounds (formula l.self)
