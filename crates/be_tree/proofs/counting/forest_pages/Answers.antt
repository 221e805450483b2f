use Rattle.be_tree.proofs.Sizes.Trees.{forest_size}
use Rattle.be_tree.proofs.counting.forest_pages.Goals as goal

pub returns : goal.returns
returns c = λ page_state words roots trees. forest_size page_state words roots trees.each
