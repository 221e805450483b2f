use Rattle.be_tree.proofs.Sizes.InHand.{hand_size}
use Rattle.be_tree.proofs.counting.few_in_hand.Goals as goal

pub returns : goal.returns
returns c = hand_size
