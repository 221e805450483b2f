use Rattle.be_journal.proofs.LegalLemmas.{replay_push}
use Rattle.be_journal.proofs.laws.replay_push.Goals as goal

pub returns : goal.returns
returns c = replay_push
