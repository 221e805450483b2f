use Rattle.be_table.proofs.Moves.{pinned_by}
use Rattle.be_table.proofs.laws.pinned_read.Goals as goal

pub returns : goal.returns
returns c limits slots id a carried = pinned_by limits slots id a carried
