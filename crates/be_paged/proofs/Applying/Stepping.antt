-- An accepted operation, and its outcome.
use Rattle.std.proofs.Common.{◌≡◌, refl, Ok, IsOk}
use Rattle.be_volume.specs.Volume.{State, step}
use Rattle.be_volume.specs.declared.ops.Done.{Done}
use Rattle.be_volume.specs.declared.ops.Done.TheVariants.{Node, Unit as Nothing}
use Rattle.be_volume.specs.declared.ops.Op.{Op}
use Rattle.be_volume.specs.declared.ops.Op.TheVariants.{New, Drop, Set, Unset, MkIndex, RmIndex}
use Rattle.be_volume.proofs.StepLemmas.{made, Found, accepted}

abbrev pub done_of : State → Op → Done
done_of s New = Node s.next
done_of s (Drop node) = Nothing
done_of s (Set node name value) = Nothing
done_of s (Unset node name) = Nothing
done_of s (MkIndex name kind) = Nothing
done_of s (RmIndex name) = Nothing

pub stepped_found : (s : State) (op : Op) → Found s op → step s op ≡ Ok (made s op, done_of s op)
stepped_found s New f = refl
stepped_found s (Drop node) f = rw f refl
stepped_found s (Set node name value) f = rw (f.0, f.1) refl
stepped_found s (Unset node name) f = rw (f.0, f.1) refl
stepped_found s (MkIndex name kind) f = rw (f.0, f.1, f.2) refl
stepped_found s (RmIndex name) f = rw f refl

pub stepped_is : (s : State) (op : Op) → IsOk (step s op) → step s op ≡ Ok (made s op, done_of s op)
stepped_is s op ok = stepped_found s op (accepted s op ok).found
