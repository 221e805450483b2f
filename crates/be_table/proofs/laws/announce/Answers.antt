use Rattle.be_table.proofs.Moves.{announce_by}
use Rattle.be_table.proofs.laws.announce.Goals as goal

pub returns : goal.returns
returns c limits slots id a carried = announce_by limits slots id a carried
