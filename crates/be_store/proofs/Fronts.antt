-- A part of a list, read item by item starting at an index.
use Rattle.std.proofs.Common.{◌≡◌, ◌≤◌, ◌<◌, ◌+◌, ◌-◌, ◌⊎◌, ℕ, inl, inr, List, [], ◌∷◌, ◌++◌, length, get_or, take, drop, sym, ap, ◌∙◌, arith, length-drop}
use Rattle.std.proofs.lemmas.List.{get_or-drop, take_all, take_more}

pub front_more : {A : Type 0} (log : List A) (from i : ℕ) (x : A) → from ≤ i → i < length log → x ≡ get_or log i x → take (i + 1 - from) (drop from log) ≡ take (i - from) (drop from log) ++ x ∷ []
front_more log from i x low inside is =
    let next : i + 1 - from ≡ (i - from) + 1 = omega (arith, low) in
    let at : from + (i - from) ≡ i = omega (arith, low) in
    let long = length-drop from log in
    ap (λ n. take n (drop from log)) next
    ∙ (take_more (drop from log) (i - from) x (omega (arith, long, low, inside))
    ∙ ap (λ y. take (i - from) (drop from log) ++ y ∷ []) (get_or-drop from log (i - from) x ∙ (ap (λ n. get_or log n x) at ∙ sym is)))

pub front_whole : {A : Type 0} (log : List A) (from most i : ℕ) → from ≤ i → (i ≡ from + most) ⊎ ((length log ≤ i) × (length log ≤ from + most)) → take (i - from) (drop from log) ≡ take most (drop from log)
front_whole log from most i low (inl at) = ap (λ n. take n (drop from log)) (let n : i - from ≡ most = omega (arith, at) in n)
front_whole log from most i low (inr past) =
    let long = length-drop from log in
    take_all (i - from) (drop from log) (omega (arith, long, past.0)) ∙ sym (take_all most (drop from log) (omega (arith, long, past.1)))
