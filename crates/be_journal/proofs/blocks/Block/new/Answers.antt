use Rattle.be_journal.proofs.NextLemmas.{none_at, are_none}
use Rattle.be_journal.proofs.PlaceLemmas.{no_places}
use Rattle.be_journal.proofs.blocks.Block.new.Goals as goal

pub invariant_of-result : goal.invariant_of-result
invariant_of-result c = rw (c.in_ok-bytes.ensures.items, c.in_ok-places.ensures.items) (are_none, no_places)

pub returns-clause-empty : goal.returns-clause-empty
returns-clause-empty c = rw c.in_ok-bytes.ensures.items none_at
