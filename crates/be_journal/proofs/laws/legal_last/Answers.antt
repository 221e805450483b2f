use Rattle.be_journal.proofs.LegalLemmas.{legal_last}
use Rattle.be_journal.proofs.laws.legal_last.Goals as goal

pub returns : goal.returns
returns c = legal_last
