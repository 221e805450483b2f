use Rattle.std.proofs.Common.{◌≡◌, map, take}
use Rattle.be_volume.specs.declared.ops.Op.TheVariants.{MkIndex}
use Rattle.be_volume_state.proofs.pieces.made.Given as goal

abbrev pub invariant-loop-name : goal.invariant-loop-name
invariant-loop-name l = l.ops.items ≡ map (λ e. MkIndex e.0 e.1) (take l.name-index l.indices)
