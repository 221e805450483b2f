use Rattle.be_journal.proofs.LegalLemmas.{replay_append}
use Rattle.be_journal.proofs.laws.replay_append.Goals as goal

pub returns : goal.returns
returns c = replay_append
