use Rattle.std.proofs.Common.{sym, subst, ◌∙◌}
use Rattle.be_volume.specs.Sound.{IsSound}
use Rattle.be_volume.proofs.Soundness.{empty_sound}
use Rattle.be_volume.proofs.volumes.Volume.new.Goals as goal

pub invariant_of-result : goal.invariant_of-result
invariant_of-result c = (subst IsSound (sym c.new.ensures) empty_sound, c.new-2.ensures ∙ sym c.new.ensures)
