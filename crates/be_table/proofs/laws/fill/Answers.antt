use Rattle.be_table.proofs.Holding.{fill_by}
use Rattle.be_table.proofs.laws.fill.Goals as goal

pub returns : goal.returns
returns c limits slots id a carried = fill_by limits slots id a carried
