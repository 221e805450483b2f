use Rattle.be_table.proofs.Shares.{shared, shared_now}
use Rattle.be_table.proofs.counting.full_counts.Goals as goal

pub returns-clause-all : goal.returns-clause-all
returns-clause-all c = shared

pub returns-clause-now : goal.returns-clause-now
returns-clause-now c = shared_now
