use Rattle.be_tree.proofs.Sizes.Trees.{tree_high}
use Rattle.be_tree.proofs.counting.tree_level.Goals as goal

pub returns : goal.returns
returns c = tree_high
