use Rattle.be_table.proofs.Holding.{found_by}
use Rattle.be_table.proofs.laws.found_fill.Goals as goal

pub returns : goal.returns
returns c limits slots id a carried = found_by limits slots id a carried
