use Rattle.be_value.proofs.KeyPairs.{one_pair_of}
use Rattle.be_value.proofs.keys.keys_differ.Goals as goal

pub returns : goal.returns
returns c = one_pair_of
