use Rattle.be_volume.proofs.KeyLemmas.{kept_empty}
use Rattle.be_volume.proofs.pairs.Pairs.new.Goals as goal

pub invariant_of-result : goal.invariant_of-result
invariant_of-result c = kept_empty c.new.result.entries c.new-2.result c.new.ensures.empty c.new-2.ensures.empty
