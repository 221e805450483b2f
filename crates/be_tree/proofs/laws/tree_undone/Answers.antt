use Rattle.be_tree_reading.proofs.Trees.{tree_undone}
use Rattle.be_tree.proofs.laws.tree_undone.Goals as goal

pub returns : goal.returns
returns c = tree_undone
