use Rattle.be_tree.proofs.Sizes.InHand.{takes_swaps, hand_swaps}
use Rattle.be_tree.proofs.counting.swaps_take.Goals as goal

pub returns-clause-takes : goal.returns-clause-takes
returns-clause-takes g c = λ before after old new swaps. takes_swaps g.L.Look.kept g.L.Look.page_state g.L.Look.words before after old new swaps

pub returns-clause-has : goal.returns-clause-has
returns-clause-has g c = λ before after old new swaps. hand_swaps g.L.Look.kept g.L.Look.page_state g.L.Look.words before after old new swaps
