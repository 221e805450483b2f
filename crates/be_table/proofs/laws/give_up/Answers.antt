use Rattle.be_table.proofs.Holding.{give_up_by}
use Rattle.be_table.proofs.laws.give_up.Goals as goal

pub returns : goal.returns
returns c limits slots id a carried = give_up_by limits slots id a carried
