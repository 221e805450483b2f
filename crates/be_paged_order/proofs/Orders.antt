-- Lists of pairs in ascending or descending order of keys: parts of such lists, and the pair that
-- comes first.
use Rattle.std.proofs.Common.{◌≡◌, ◌⊎◌, ◌≤◌, ℕ, zero, suc, Bool, true, false, cond, List, [], ◌∷◌, ◌++◌, refl, sym, ap, ◌∙◌, subst, arith, inl, inr, take, length, map, reverse}
use mathlib.Core.List.{reverse-cons}
use Rattle.std.proofs.lemmas.List.Elements.{Contains-append_cases, Contains-append_left, Contains-append_right}
use Rattle.std.specs.List.{filter, AllByRecursion, Contains}
use Rattle.std.specs.List.Sorted.{IsStrictlySortedBy}
use Rattle.std.specs.declared.cmp.Ordering.TheVariants.{Less}
use Rattle.be_tree_reading.specs.Key.{IsRising, AllAbove, key_cmp as tree_cmp}
use Rattle.be_tree_reading.specs.Pair.{Pair}
use Rattle.be_tree_reading.specs.Range.{number_of}
use Rattle.be_tree_reading.proofs.Order.{key_cmp_flip}
use Rattle.be_order.specs.Ordered.{key_cmp, keys_of}

-- The key of the pair, and the number of the node in it.
abbrev pub entry : Pair → List ℕ × ℕ
entry x = (x.key, number_of x.key)

abbrev pub AreOver : Bool → Pair → List Pair → Type 0
AreOver d x xs = AllByRecursion (λ (y : Pair). key_cmp d x.key y.key ≡ Less) xs

abbrev pub InOrder : Bool → List Pair → Type 0
InOrder d [] = Unit {0}
InOrder d (x ∷ xs) = AreOver d x xs × InOrder d xs

above_over : (x : Pair) (xs : List Pair) → AllAbove x.key xs → AreOver false x xs
unfolding tree_cmp
above_over x [] h = tt
above_over x (y ∷ xs) h = (key_cmp_flip y.key x.key h.0, above_over x xs h.1)

pub rising_ordered : (xs : List Pair) → IsRising xs → InOrder false xs
rising_ordered [] h = tt
rising_ordered (x ∷ xs) h = (above_over x xs h.0, rising_ordered xs h.1)

module _ (P : Pair → Type 0) where
  all_filtered : (p : Pair → Bool) (xs : List Pair) → AllByRecursion P xs → AllByRecursion P (filter p xs)
  all_filtered p [] h = tt
  all_filtered p (x ∷ xs) h = by (p x) (all_filtered p xs h.1)
    where
      by : (b : Bool) → AllByRecursion P (filter p xs) → AllByRecursion P (cond b (x ∷ filter p xs) (filter p xs))
      by true rest = (h.0, rest)
      by false rest = rest

  all_taken : (n : ℕ) (xs : List Pair) → AllByRecursion P xs → AllByRecursion P (take n xs)
  all_taken zero xs h = tt
  all_taken (suc n) [] h = tt
  all_taken (suc n) (x ∷ xs) h = (h.0, all_taken n xs h.1)

  all_pushed : (xs : List Pair) (y : Pair) → AllByRecursion P xs → P y → AllByRecursion P (xs ++ y ∷ [])
  all_pushed [] y h p = (p, tt)
  all_pushed (x ∷ xs) y h p = (h.0, all_pushed xs y h.1 p)

  all_turned : (xs : List Pair) → AllByRecursion P xs → AllByRecursion P (reverse xs)
  all_turned [] h = tt
  all_turned (x ∷ xs) h = subst (AllByRecursion P) (sym (reverse-cons x xs)) (all_pushed (reverse xs) x (all_turned xs h.1) h.0)

  all_there : (xs : List Pair) (y : Pair) → AllByRecursion P xs → Contains xs y → P y
  all_there [] y h (k, below, is) = absurd (omega arith)
  all_there (x ∷ xs) y h (zero, below, is) = subst P is h.0
  all_there (x ∷ xs) y h (suc k, below, is) = all_there xs y h.1 (k, omega arith, is)

pub ordered_filtered : (d : Bool) (p : Pair → Bool) (xs : List Pair) → InOrder d xs → InOrder d (filter p xs)
ordered_filtered d p [] h = tt
ordered_filtered d p (x ∷ xs) h = by (p x) (ordered_filtered d p xs h.1)
  where
    by : (b : Bool) → InOrder d (filter p xs) → InOrder d (cond b (x ∷ filter p xs) (filter p xs))
    by true rest = (all_filtered (λ (y : Pair). key_cmp d x.key y.key ≡ Less) p xs h.0, rest)
    by false rest = rest

pub ordered_taken : (d : Bool) (n : ℕ) (xs : List Pair) → InOrder d xs → InOrder d (take n xs)
ordered_taken d zero xs h = tt
ordered_taken d (suc n) [] h = tt
ordered_taken d (suc n) (x ∷ xs) h = (all_taken (λ (y : Pair). key_cmp d x.key y.key ≡ Less) n xs h.0, ordered_taken d n xs h.1)

ordered_pushed : (d : Bool) (xs : List Pair) (y : Pair) → InOrder d xs → AllByRecursion (λ (x : Pair). key_cmp d x.key y.key ≡ Less) xs → InOrder d (xs ++ y ∷ [])
ordered_pushed d [] y h up = (tt, tt)
ordered_pushed d (x ∷ xs) y h up = (all_pushed (λ (z : Pair). key_cmp d x.key z.key ≡ Less) xs y h.0 up.0, ordered_pushed d xs y h.1 up.1)

pub ordered_turned : (xs : List Pair) → InOrder false xs → InOrder true (reverse xs)
ordered_turned [] h = tt
ordered_turned (x ∷ xs) h =
    subst (InOrder true) (sym (reverse-cons x xs))
    (ordered_pushed true (reverse xs) x (ordered_turned xs h.1) (all_turned (λ (y : Pair). key_cmp true y.key x.key ≡ Less) xs h.0))

keys_over : (d : Bool) (x : Pair) (xs : List Pair) → AreOver d x xs → AllByRecursion (λ k. key_cmp d x.key k ≡ Less) (keys_of (map entry xs))
keys_over d x [] h = tt
keys_over d x (y ∷ xs) h = (h.0, keys_over d x xs h.1)

pub keys_ordered : (d : Bool) (xs : List Pair) → InOrder d xs → IsStrictlySortedBy (key_cmp d) (keys_of (map entry xs))
unfolding IsStrictlySortedBy
keys_ordered d [] h = tt
keys_ordered d (x ∷ xs) h = (keys_over d x xs h.0, keys_ordered d xs h.1)

-- The pairs in parts of a list.
pub from_filter : (p : Pair → Bool) (xs : List Pair) (y : Pair) → Contains (filter p xs) y → Contains xs y × (p y ≡ true)
from_filter p [] y (k, below, is) = absurd (omega arith)
from_filter p (x ∷ xs) y h = by (p x) refl h (from_filter p xs y)
  where
    later : Contains xs y × (p y ≡ true) → Contains (x ∷ xs) y × (p y ≡ true)
    later r = ((suc r.0.0, omega (arith, r.0.1), r.0.2), r.1)

    by : (b : Bool) → p x ≡ b → Contains (cond b (x ∷ filter p xs) (filter p xs)) y → (Contains (filter p xs) y → Contains xs y × (p y ≡ true)) → Contains (x ∷ xs) y × (p y ≡ true)
    by true e (zero, below, is) rest = ((0, omega arith, is), ap p (sym is) ∙ e)
    by true e (suc k, below, is) rest = later (rest (k, omega arith, is))
    by false e h rest = later (rest h)

pub in_filter : (p : Pair → Bool) (xs : List Pair) (y : Pair) → Contains xs y → p y ≡ true → Contains (filter p xs) y
in_filter p [] y (k, below, is) e = absurd (omega arith)
in_filter p (x ∷ xs) y (zero, below, is) e = subst (λ b. Contains (cond b (x ∷ filter p xs) (filter p xs)) y) (sym (ap p is ∙ e)) (0, omega arith, is)
in_filter p (x ∷ xs) y (suc k, below, is) e = by (p x) (in_filter p xs y (k, omega arith, is) e)
  where
    by : (b : Bool) → Contains (filter p xs) y → Contains (cond b (x ∷ filter p xs) (filter p xs)) y
    by true r = (suc r.0, omega (arith, r.1), r.2)
    by false r = r

pub from_turned : (xs : List Pair) (y : Pair) → Contains (reverse xs) y → Contains xs y
from_turned [] y h = h
from_turned (x ∷ xs) y h = elim (Contains-append_cases (reverse xs) (x ∷ []) y (subst (λ l. Contains l y) (reverse-cons x xs) h)) [
  | inl there ↦ let r = from_turned xs y there in (suc r.0, omega (arith, r.1), r.2)
  | inr here ↦ first here
]
  where
    first : Contains (x ∷ []) y → Contains (x ∷ xs) y
    first (zero, below, is) = (0, omega arith, is)
    first (suc k, below, is) = absurd (omega (arith, below))

pub in_turned : (xs : List Pair) (y : Pair) → Contains xs y → Contains (reverse xs) y
in_turned [] y h = h
in_turned (x ∷ xs) y (zero, below, is) = subst (λ l. Contains l y) (sym (reverse-cons x xs)) (Contains-append_right (reverse xs) (x ∷ []) y (0, omega arith, is))
in_turned (x ∷ xs) y (suc k, below, is) = subst (λ l. Contains l y) (sym (reverse-cons x xs)) (Contains-append_left (reverse xs) (x ∷ []) y (in_turned xs y (k, omega arith, is)))

pub from_taken : (n : ℕ) (xs : List Pair) (y : Pair) → Contains (take n xs) y → Contains xs y
from_taken zero xs y (k, below, is) = absurd (omega (arith, below))
from_taken (suc n) [] y h = h
from_taken (suc n) (x ∷ xs) y (zero, below, is) = (0, omega arith, is)
from_taken (suc n) (x ∷ xs) y (suc k, below, is) = let r = from_taken n xs y (k, omega arith, is) in (suc r.0, omega (arith, r.1), r.2)

pub few_taken : (n : ℕ) (xs : List Pair) → length (take n xs) ≤ n
few_taken zero xs = omega arith
few_taken (suc n) [] = omega arith
few_taken (suc n) (x ∷ xs) = omega (arith, few_taken n xs)

-- Either the pair is among the first n, or there are n pairs and it comes after all of them.
abbrev pub IsFirstOr : Bool → ℕ → List Pair → Pair → Type 0
IsFirstOr d n xs y = Contains (take n xs) y ⊎ ((length (take n xs) ≡ n) × ((x : Pair) → Contains (take n xs) x → key_cmp d x.key y.key ≡ Less))

pub first_or : (d : Bool) (n : ℕ) (xs : List Pair) (y : Pair) → InOrder d xs → Contains xs y → IsFirstOr d n xs y
first_or d zero xs y h there = inr (refl, λ x i. absurd (omega (arith, i.1)))
first_or d (suc n) [] y h (k, below, is) = absurd (omega arith)
first_or d (suc n) (x ∷ xs) y h (zero, below, is) = inl (0, omega arith, is)
first_or d (suc n) (x ∷ xs) y h (suc k, below, is) = elim (first_or d n xs y h.1 (k, omega arith, is)) [
  | inl there ↦ inl (suc there.0, omega (arith, there.1), there.2)
  | inr full ↦ inr (ap suc full.0, before full.1)
]
  where
    before : ((z : Pair) → Contains (take n xs) z → key_cmp d z.key y.key ≡ Less) → (z : Pair) → Contains (x ∷ take n xs) z → key_cmp d z.key y.key ≡ Less
    before rest z (zero, b, e) = subst (λ (w : Pair). key_cmp d w.key y.key ≡ Less) e (all_there (λ (w : Pair). key_cmp d x.key w.key ≡ Less) xs y h.0 (k, omega arith, is))
    before rest z (suc j, b, e) = rest z (j, omega arith, e)
