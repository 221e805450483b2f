-- Adding a script that isn't too long.
use Rattle.std.proofs.Common.{◌≡◌, Bool, true, false, ◌||◌, List, [], ◌∷◌, ◌++◌, refl}
use Rattle.std.specs.List.{list_any}

-- if a predicate holds for no element of a list, nor for one more element, it holds for no element
-- of the longer list
pub none_pushed : {X : Type 0} (P : X → Bool) (xs : List X) (x : X) → list_any P xs ≡ false → P x ≡ false → list_any P (xs ++ x ∷ []) ≡ false
none_pushed P [] x h g = by (P x) g
  where
    by : (a : Bool) → a ≡ false → a || false ≡ false
    by true h = h
    by false h = refl
none_pushed P (y ∷ ys) x h g = by (P y) (list_any P ys) (list_any P (ys ++ x ∷ [])) h (λ r. none_pushed P ys x r g)
  where
    by : (a b c : Bool) → a || b ≡ false → (b ≡ false → c ≡ false) → a || c ≡ false
    by true b c h k = h
    by false b c h k = k h
