use Rattle.be_journal.proofs.LegalLemmas.{legal_push}
use Rattle.be_journal.proofs.laws.legal_push.Goals as goal

pub returns : goal.returns
returns c = legal_push
