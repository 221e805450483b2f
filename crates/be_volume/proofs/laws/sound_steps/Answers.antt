use Rattle.be_volume.proofs.Soundness.{steps_sound}
use Rattle.be_volume.proofs.laws.sound_steps.Goals as goal

pub returns : goal.returns
returns c = λ s t dones ops sound fits are e. steps_sound s t dones ops sound fits are e
