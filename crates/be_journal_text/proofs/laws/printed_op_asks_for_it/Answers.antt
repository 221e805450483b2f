use Rattle.be_journal_text.proofs.OpLemmas.{op_asked}
use Rattle.be_journal_text.proofs.laws.printed_op_asks_for_it.Goals as goal

pub returns : goal.returns
returns c = λ op can. op_asked op can
