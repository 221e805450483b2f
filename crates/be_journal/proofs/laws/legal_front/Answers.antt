use Rattle.be_journal.proofs.LegalLemmas.{legal_front}
use Rattle.be_journal.proofs.laws.legal_front.Goals as goal

pub returns : goal.returns
returns c = legal_front
