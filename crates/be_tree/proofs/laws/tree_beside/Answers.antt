use Rattle.be_tree_reading.proofs.Trees.{tree_beside}
use Rattle.be_tree.proofs.laws.tree_beside.Goals as goal

pub returns : goal.returns
returns g c = tree_beside g.L.Look.kept g.L.Look.page_state g.L.Look.words
