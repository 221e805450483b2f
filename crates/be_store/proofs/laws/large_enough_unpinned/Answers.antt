use Rattle.be_store.proofs.Rests.{others_large, others_large_at_last}
use Rattle.be_store.proofs.laws.large_enough_unpinned.Goals as goal

pub returns-clause-once : goal.returns-clause-once
returns-clause-once g = others_large

pub returns-clause-retried : goal.returns-clause-retried
returns-clause-retried g = others_large_at_last
