use Rattle.be_table.proofs.Deals.{join_by}
use Rattle.be_table.proofs.laws.join.Goals as goal

pub returns : goal.returns
returns c limits id v other w = join_by limits id v other w
