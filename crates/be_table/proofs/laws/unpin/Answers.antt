use Rattle.be_table.proofs.Moves.{unpin_by}
use Rattle.be_table.proofs.laws.unpin.Goals as goal

pub returns : goal.returns
returns c limits slots id a carried = unpin_by limits slots id a carried
