use Rattle.be_journal.proofs.SoundLemmas.{replay_sound}
use Rattle.be_journal.proofs.laws.replay_sound.Goals as goal

pub returns : goal.returns
returns c = replay_sound
