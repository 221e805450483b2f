-- Lists that are part of other lists.
use Rattle.std.proofs.Common.{List, [], ◌∷◌, ◌++◌, inl, inr, refl, sym, ap, subst}
use Rattle.be_script_runner.specs.Own.{IsPartOf}

nothing_part : {A : Type 0} (ys : List A) → IsPartOf [] ys
nothing_part [] = refl
nothing_part (y ∷ ys) = inl (nothing_part ys)

pub part_itself : {A : Type 0} (xs : List A) → IsPartOf xs xs
part_itself [] = refl
part_itself (x ∷ xs) = inr (xs, refl, part_itself xs)

-- two parts, one after the other
pub part_both : {A : Type 0} (a c b d : List A) → IsPartOf a b → IsPartOf c d → IsPartOf (a ++ c) (b ++ d)
part_both a c [] d h g = subst (λ l. IsPartOf (l ++ c) d) (sym h) g
part_both a c (y ∷ ys) d (inl h) g = inl (part_both a c ys d h g)
part_both a c (y ∷ ys) d (inr h) g = inr (h.0 ++ c, ap (λ l. l ++ c) h.1, part_both h.0 c ys d h.2 g)

-- a list's prefix is a part of it
pub part_front : {A : Type 0} (xs ys : List A) → IsPartOf xs (xs ++ ys)
part_front [] ys = nothing_part ys
part_front (x ∷ xs) ys = inr (xs, refl, part_front xs ys)

-- a part of a part is a part
pub part_on : {A : Type 0} (a b c : List A) → IsPartOf a b → IsPartOf b c → IsPartOf a c
part_on a b [] h g = subst (IsPartOf a) g h
part_on a b (z ∷ zs) h (inl g) = inl (part_on a b zs h g)
part_on {A} a b (z ∷ zs) h (inr g) = by (subst (IsPartOf a) g.1 h) (λ front part. part_on front g.0 zs part g.2)
  where
    by : IsPartOf a (z ∷ g.0) → ((front : List A) → IsPartOf front g.0 → IsPartOf front zs) → IsPartOf a (z ∷ zs)
    by (inl k) on = inl (on a k)
    by (inr k) on = inr (k.0, k.1, on k.0 k.2)
