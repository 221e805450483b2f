use Rattle.be_table.proofs.Holding.{scan_by}
use Rattle.be_table.proofs.laws.scan.Goals as goal

pub returns : goal.returns
returns c limits slots id a carried = scan_by limits slots id a carried
