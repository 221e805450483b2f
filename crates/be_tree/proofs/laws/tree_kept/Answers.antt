use Rattle.std.proofs.Common.{refl}
use Rattle.be_tree_reading.proofs.Trees.{tree_kept}
use Rattle.be_tree.proofs.laws.tree_kept.Goals as goal

pub returns : goal.returns
returns c = λ page_state kept words root each tree. tree_kept page_state kept words words each refl root tree
