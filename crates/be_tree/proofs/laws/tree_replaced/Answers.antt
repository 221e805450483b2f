use Rattle.be_tree_reading.proofs.Trees.{replaces}
use Rattle.be_tree.proofs.laws.tree_replaced.Goals as goal

pub returns : goal.returns
returns g c = λ front back root new_root old new. replaces g.L.Look.kept g.L.Look.page_state g.L.Look.words old new front back root new_root
