use Rattle.be_tree.proofs.Sizes.Trees.{tree_size}
use Rattle.be_tree.proofs.counting.tree_pages.Goals as goal

pub returns : goal.returns
returns c = tree_size
