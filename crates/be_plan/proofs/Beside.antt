-- The byte strings next to a key.
use Rattle.std.proofs.Common.{◌≡◌, ℕ, true, false, List, [], ◌∷◌, ◌++◌, refl, sym, ap, ◌∙◌}
use Rattle.std.specs.Ordering.{nat_cmp, is_lt, is_gt, ordering_then}
use Rattle.std.specs.Cmp.{nat_cmp_is}
use Rattle.std.specs.declared.cmp.Ordering.{Ordering}
use Rattle.std.specs.declared.cmp.Ordering.TheVariants.{Less, Equal, Greater}
use Rattle.be_volume.specs.Maps.{name_cmp}
use Rattle.be_plan.proofs.Bounds.{not_below_empty, not_less}

-- What is above a key isn't below the key followed by a zero byte.
pub above_zero : (k a : List ℕ) → is_gt (name_cmp k a) ≡ true → is_lt (name_cmp k (a ++ 0 ∷ [])) ≡ false
above_zero [] [] h = cc
above_zero [] (y ∷ a) h = cc
above_zero (x ∷ k) [] h = by (nat_cmp x 0) (not_less x)
  where
    by : (o : Ordering) → is_lt o ≡ false → is_lt (ordering_then o (name_cmp k [])) ≡ false
    by Less e = cc
    by Equal e = not_below_empty k
    by Greater e = refl
above_zero (x ∷ k) (y ∷ a) h = by (nat_cmp x y) (above_zero k a) h
  where
    by : (o : Ordering) → (is_gt (name_cmp k a) ≡ true → is_lt (name_cmp k (a ++ 0 ∷ [])) ≡ false) → is_gt (ordering_then o (name_cmp k a)) ≡ true → is_lt (ordering_then o (name_cmp k (a ++ 0 ∷ []))) ≡ false
    by Less rest e = cc
    by Equal rest e = rest e
    by Greater rest e = refl

-- What is below a key followed by a zero byte isn't above the key itself.
pub below_zero : (k a : List ℕ) → is_lt (name_cmp k (a ++ 0 ∷ [])) ≡ true → is_gt (name_cmp k a) ≡ false
below_zero [] [] h = refl
below_zero [] (y ∷ a) h = refl
below_zero (x ∷ k) [] h = by (nat_cmp x 0) (not_less x) h
  where
    by : (o : Ordering) → is_lt o ≡ false → is_lt (ordering_then o (name_cmp k [])) ≡ true → is_gt Greater ≡ false
    by Less e f = cc
    by Equal e f = let no = not_below_empty k in cc
    by Greater e f = cc
below_zero (x ∷ k) (y ∷ a) h = by (nat_cmp x y) (below_zero k a) h
  where
    by : (o : Ordering) → (is_lt (name_cmp k (a ++ 0 ∷ [])) ≡ true → is_gt (name_cmp k a) ≡ false) → is_lt (ordering_then o (name_cmp k (a ++ 0 ∷ []))) ≡ true → is_gt (ordering_then o (name_cmp k a)) ≡ false
    by Less rest e = refl
    by Equal rest e = rest e
    by Greater rest e = cc

-- A key followed by a zero byte is above the key.
pub longer : (a : List ℕ) → is_gt (name_cmp (a ++ 0 ∷ []) a) ≡ true
longer [] = refl
longer (x ∷ a) = ap (λ o. is_gt (ordering_then o (name_cmp (a ++ 0 ∷ []) a))) (sym (nat_cmp_is x x Equal refl)) ∙ longer a
