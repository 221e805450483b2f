use Rattle.be_table.proofs.PageStates.{filled_place}
use Rattle.be_table.proofs.writing.Writing.is_filled.Goals as goal

pub returns : goal.returns
returns c = filled_place _ _ c.requires
