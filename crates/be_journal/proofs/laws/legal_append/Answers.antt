use Rattle.be_journal.proofs.LegalLemmas.{legal_append}
use Rattle.be_journal.proofs.laws.legal_append.Goals as goal

pub returns : goal.returns
returns c = legal_append
