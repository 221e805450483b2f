-- Comparing bytes with a front followed by an end.
use Rattle.std.proofs.Common.{◌≡◌, ◌<◌, ℕ, List, [], ◌∷◌, ◌++◌, length, refl, ap, ◌∙◌, arith}
use Rattle.std.specs.Ordering.{nat_cmp, ordering_then}
use Rattle.std.specs.declared.cmp.Ordering.{Ordering}
use Rattle.std.specs.declared.cmp.Ordering.TheVariants.{Less, Equal, Greater}
use Rattle.be_volume.specs.Maps.{name_cmp}

then_assoc : (a b c : Ordering) → ordering_then a (ordering_then b c) ≡ ordering_then (ordering_then a b) c
then_assoc Less b c = refl
then_assoc Equal b c = refl
then_assoc Greater b c = refl

-- Bytes that are shorter than the front are compared only with the front.
pub shorter : (k front end : List ℕ) → length k < length front → name_cmp k (front ++ end) ≡ name_cmp k front
shorter [] [] end lt = absurd (omega arith)
shorter [] (f ∷ front) end lt = refl
shorter (c ∷ k) [] end lt = absurd (omega arith)
shorter (c ∷ k) (f ∷ front) end lt = ap (ordering_then (nat_cmp c f)) (shorter k front end (omega arith))

-- Bytes are compared with the front as far as it goes, and those after them with the end.
pub in_parts : (head tail front end : List ℕ) → length head ≡ length front → name_cmp (head ++ tail) (front ++ end) ≡ ordering_then (name_cmp head front) (name_cmp tail end)
in_parts [] tail [] end e = refl
in_parts [] tail (f ∷ front) end e = absurd (omega arith)
in_parts (c ∷ head) tail [] end e = absurd (omega arith)
in_parts (c ∷ head) tail (f ∷ front) end e = ap (ordering_then (nat_cmp c f)) (in_parts head tail front end (omega arith)) ∙ then_assoc (nat_cmp c f) (name_cmp head front) (name_cmp tail end)
