-- The volume that a source represents.
use Rattle.std.specs.Prelude.{◌≡◌}
use Rattle.be_volume.specs.Volume.{State}
use Rattle.be_volume.specs.Sound.{IsSound}

-- The source represents exactly this volume, and its indices are sound.
pub record IsVolume (own : State) (volume : State) : Type 0 where
  pub same : volume ≡ own
  pub sound : IsSound volume

-- The source still represents every volume that it represented before.
abbrev pub StillAnswers : {Own : Type 0} → (Own → State → Type 0) → Own → Own → Type 0
StillAnswers answers_for old new = (volume : State) → answers_for old volume
    → answers_for new volume
