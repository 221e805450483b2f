use Rattle.be_table.proofs.Runs.{events_are_moves}
use Rattle.be_table.proofs.laws.events_are_moves.Goals as goal

pub returns : goal.returns
returns c = events_are_moves
