use Rattle.be_table.proofs.Meetings.{compare_by}
use Rattle.be_table.proofs.laws.compare.Goals as goal

pub returns : goal.returns
returns z limits slots id a c carried = compare_by limits slots id a c carried
