use Rattle.be_tree.proofs.Sizes.InHand.{takes_then, takes_fewer_then}
use Rattle.be_tree.proofs.counting.takes_add.Goals as goal

pub returns-clause-both : goal.returns-clause-both
returns-clause-both c = takes_then

pub returns-clause-refused : goal.returns-clause-refused
returns-clause-refused c = takes_fewer_then
