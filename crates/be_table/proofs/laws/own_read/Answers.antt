use Rattle.be_table.proofs.Holding.{own_by}
use Rattle.be_table.proofs.laws.own_read.Goals as goal

pub returns : goal.returns
returns c limits slots id a carried = own_by limits slots id a carried
