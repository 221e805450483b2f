use Rattle.be_table.proofs.Moves.{look_again_by}
use Rattle.be_table.proofs.laws.look_again.Goals as goal

pub returns : goal.returns
returns c limits slots id a carried = look_again_by limits slots id a carried
