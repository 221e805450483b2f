use Rattle.be_table.proofs.Moves.{look_by}
use Rattle.be_table.proofs.laws.look.Goals as goal

pub returns : goal.returns
returns c limits slots id a carried = look_by limits slots id a carried
