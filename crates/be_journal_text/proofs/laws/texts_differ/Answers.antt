use Rattle.std.proofs.Common.{arith}
use Rattle.be_journal_text.proofs.SameLemmas.{same_lines}
use Rattle.be_journal_text.proofs.laws.texts_differ.Goals as goal

pub returns : goal.returns
returns c = λ entries others are were same. same_lines 1 entries others are.0 were.0 (omega (arith, are.1)) same
