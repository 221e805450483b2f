-- One more operation, or one that is invalid.
use Rattle.std.proofs.Common.{◌≡◌, ℕ, List, [], ◌∷◌, ◌++◌, ◌<◌, ◌+◌, take, length, get_or, inl, inr, subst, sym}
use Rattle.std.proofs.lemmas.List.{take_more}
use Rattle.be_volume.specs.declared.ops.Op.{Op}
use Rattle.be_session.specs.Operations.{AreMeant, ArePartsWithin, IsFirstInvalid, IsMeantBy, IsInvalid, IsInvalidAt, IsWriteCount}
use Rattle.be_session.specs.declared.faults.Fault.{Fault}
use Rattle.be_session.specs.declared.lists.Operation.{Operation}
use Rattle.be_session.proofs.GrowingBytes.{are_meant_more}

pub meant_next : (os : List Operation) (i : ℕ) (d : Operation) (bytes : List ℕ) (ops : List Op) (op : Op) → i < length os
    → AreMeant (take i os) bytes ops → ArePartsWithin (get_or os i d) (length bytes) → IsMeantBy (get_or os i d) bytes op
    → AreMeant (take (i + 1) os) bytes (ops ++ op ∷ [])
meant_next os i d bytes ops op low are within is =
    subst (λ xs. AreMeant xs bytes (ops ++ op ∷ [])) (sym (take_more os i d low)) (are_meant_more (take i os) (get_or os i d) bytes ops op are within is)

-- The operations before this one are valid, but this one isn't, so its place is reported.
pub invalid_here : (os : List Operation) (i : ℕ) (d : Operation) (bytes : List ℕ) (ops : List Op) (e : Fault) (place : ℕ) → place ≡ i → IsWriteCount (length os) → i < length os
    → AreMeant (take i os) bytes ops → IsInvalidAt (get_or os i d) bytes e → IsInvalid os bytes e place
invalid_here os i d bytes ops e place is fits low are why =
    inr (fits, subst (IsFirstInvalid os bytes e) (sym is) (inl (get_or os i d, ops, take_more os i d low, are, why)))
