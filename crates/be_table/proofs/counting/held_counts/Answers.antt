use Rattle.be_table.proofs.Shares.{still_counted}
use Rattle.be_table.proofs.counting.held_counts.Goals as goal

pub returns : goal.returns
returns c = still_counted
