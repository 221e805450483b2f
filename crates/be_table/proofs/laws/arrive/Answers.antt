use Rattle.be_table.proofs.Closing.{arrive_by}
use Rattle.be_table.proofs.laws.arrive.Goals as goal

pub returns : goal.returns
returns c limits = arrive_by limits
