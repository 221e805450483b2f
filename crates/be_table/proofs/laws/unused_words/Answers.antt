use Rattle.be_table.proofs.Unused.{unused_are_zero, unused_stay_zero}
use Rattle.be_table.proofs.laws.unused_words.Goals as goal

pub returns-clause-zero : goal.returns-clause-zero
returns-clause-zero c = unused_are_zero

pub returns-clause-stay : goal.returns-clause-stay
returns-clause-stay c = unused_stay_zero
