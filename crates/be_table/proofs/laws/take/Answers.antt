use Rattle.be_table.proofs.Holding.{take_by}
use Rattle.be_table.proofs.laws.take.Goals as goal

pub returns : goal.returns
returns c limits slots id a carried = take_by limits slots id a carried
