-- The pairs of an ascending list up to a key.
use Rattle.std.proofs.Common.{◌≡◌, ℕ, zero, suc, ◌≤◌, List, [], ◌∷◌, ◌++◌, length, get_or, take, drop, ap, sym, subst, ◌∙◌, refl, arith, Bool, true, false, not, cond, Some, None}
use Rattle.std.specs.List.{filter, flat_map, AllByRecursion}
use Rattle.std.specs.declared.cmp.Ordering.TheVariants.{Less, Equal, Greater}
use Rattle.std.specs.Ordering.{is_ge, is_gt, is_le, is_lt}
use Rattle.std.proofs.lemmas.List.{append-nil}
use Rattle.std.proofs.lemmas.List.Elements.{filter-append, filter_passes, recursion_from_All}
use Rattle.be_tree_reading.specs.Pair.{Pair}
use Rattle.be_tree_reading.specs.Key.{key_cmp, AllBelow, AllAbove}
use Rattle.be_tree_reading.specs.Range.{is_from, pairs_from}
use Rattle.be_tree_reading.specs.Way.{is_until, pairs_until}
use Rattle.be_tree_reading.proofs.TreeFacts.{IsSplit, flat_map_in_three}

until_less : (k : List ℕ) (before : Bool) (key : List ℕ) → key_cmp key k ≡ Less → is_until (Some k) before key ≡ true
until_less k false key e = ap is_le e
until_less k true key e = ap is_lt e

until_greater : (k : List ℕ) (before : Bool) (key : List ℕ) → key_cmp key k ≡ Greater → is_until (Some k) before key ≡ false
until_greater k false key e = ap is_le e
until_greater k true key e = ap is_lt e

-- a key is either up to k or from k on, but not both
pub until_is : (k : List ℕ) (before : Bool) (key : List ℕ) → is_until (Some k) before key ≡ not (is_from k (not before) key)
until_is k false key = elim (key_cmp key k) as (λ o. is_le o ≡ not (is_gt o)) [ Less ↦ refl | Equal ↦ refl | Greater ↦ refl ]
until_is k true key = elim (key_cmp key k) as (λ o. is_lt o ≡ not (is_ge o)) [ Less ↦ refl | Equal ↦ refl | Greater ↦ refl ]

-- what is below k is up to k, and what is above k isn't
until_below : (k : List ℕ) (before : Bool) (xs : List Pair) → AllBelow k xs → pairs_until xs (Some k) before ≡ xs
until_below k before [] h = refl
until_below k before (x ∷ xs) h =
    ap (λ b. cond b (x ∷ pairs_until xs (Some k) before) (pairs_until xs (Some k) before)) (until_less k before x.key h.0) ∙ ap (λ ys. x ∷ ys) (until_below k before xs h.1)

pub until_above : (k : List ℕ) (before : Bool) (xs : List Pair) → AllAbove k xs → pairs_until xs (Some k) before ≡ []
until_above k before [] h = refl
until_above k before (x ∷ xs) h =
    ap (λ b. cond b (x ∷ pairs_until xs (Some k) before) (pairs_until xs (Some k) before)) (until_greater k before x.key h.0) ∙ until_above k before xs h.1

until_append : (k : List ℕ) (before : Bool) (xs ys : List Pair) → pairs_until (xs ++ ys) (Some k) before ≡ pairs_until xs (Some k) before ++ pairs_until ys (Some k) before
until_append k before xs ys = filter-append (λ (x : Pair). is_until (Some k) before x.key) xs ys

-- what a node's items contain up to a key: all that earlier branches contain, and what the branch
-- on the key's way contains of it
pub until_split : (f : Pair → List Pair) (k : List ℕ) (items : List Pair) (at : ℕ) → IsSplit f k items at → (before : Bool) (d : Pair)
    → pairs_until (flat_map f items) (Some k) before ≡ flat_map f (take at items) ++ pairs_until (f (get_or items at d)) (Some k) before
until_split f k items at split before d =
    let first = flat_map f (take at items) in
    let here = f (get_or items at d) in
    let rest = flat_map f (drop (suc at) items) in
    ap (λ xs. pairs_until xs (Some k) before) (flat_map_in_three f items at d split.in_range)
    ∙ until_append k before first (here ++ rest)
    ∙ ap (λ ys. ys ++ pairs_until (here ++ rest) (Some k) before) (until_below k before first split.below)
    ∙ ap (λ ys. first ++ ys) (until_append k before here rest ∙ ap (λ ys. pairs_until here (Some k) before ++ ys) (until_above k before rest split.above) ∙ append-nil (pairs_until here (Some k) before))

-- a test that only the last elements of a list pass, and the opposite test
module _ (p q : Pair → Bool) (opposite : (x : Pair) → p x ≡ not (q x)) where
  all_pass : (xs : List Pair) → AllByRecursion (λ x. q x ≡ true) xs → filter q xs ≡ xs
  all_pass [] h = refl
  all_pass (x ∷ xs) h = ap (λ b. cond b (x ∷ filter q xs) (filter q xs)) h.0 ∙ ap (λ ys. x ∷ ys) (all_pass xs h.1)

  none_pass : (xs : List Pair) → AllByRecursion (λ x. q x ≡ true) xs → filter p xs ≡ []
  none_pass [] h = refl
  none_pass (x ∷ xs) h = ap (λ b. cond b (x ∷ filter p xs) (filter p xs)) (opposite x ∙ ap not h.0) ∙ none_pass xs h.1

  fewer : (xs : List Pair) (r : ℕ) → length (filter q (drop r xs)) ≤ length (filter q xs)
  fewer [] zero = omega arith
  fewer [] (suc r) = omega arith
  fewer (x ∷ xs) zero = omega arith
  fewer (x ∷ xs) (suc r) = by (q x) (fewer xs r)
    where
      by : (b : Bool) → length (filter q (drop r xs)) ≤ length (filter q xs) → length (filter q (drop r xs)) ≤ length (cond b (x ∷ filter q xs) (filter q xs))
      by true le = omega (arith, le)
      by false le = le

  passing : (xs ys : List Pair) → ys ≡ filter q xs → AllByRecursion (λ x. q x ≡ true) ys
  passing xs ys e = subst (AllByRecursion (λ x. q x ≡ true)) (sym e) (recursion_from_All (λ x. q x ≡ true) (filter q xs) (filter_passes q xs))

  pub first_of_two_tests : (xs : List Pair) (r : ℕ) → r ≤ length xs → drop r xs ≡ filter q xs → filter p xs ≡ take r xs
  first_of_two_tests [] zero le e = refl
  first_of_two_tests [] (suc r) le e = refl
  first_of_two_tests (x ∷ xs) zero le e = none_pass (x ∷ xs) (passing (x ∷ xs) (x ∷ xs) e)
  first_of_two_tests (x ∷ xs) (suc r) le e =
      elim (q x) as (λ b. q x ≡ b → drop r xs ≡ cond b (x ∷ filter q xs) (filter q xs) → filter p (x ∷ xs) ≡ x ∷ take r xs) [
        | true ↦ λ is f. absurd (omega (
          arith,
          fewer xs r,
          ap length f,
          ap length (all_pass (drop r xs) (passing (x ∷ xs) (drop r xs) e)),
        ))
        | false ↦ λ is f. ap (λ b. cond b (x ∷ filter p xs) (filter p xs)) (opposite x ∙ ap not is) ∙ ap (λ ys. x ∷ ys) (first_of_two_tests xs r (omega (arith, le)) f)
      ] refl e

-- if the last items are those from a key on, the first ones are those up to it
pub leaf_until : (items : List Pair) (k : List ℕ) (before : Bool) (r : ℕ) → r ≤ length items → drop r items ≡ pairs_from items k (not before) → take r items ≡ pairs_until items (Some k) before
leaf_until items k before r le e =
    sym (first_of_two_tests (λ x. is_until (Some k) before x.key) (λ x. is_from k (not before) x.key) (λ x. until_is k before x.key) items r le e)

-- without a key, all pairs are up to it
pub until_all : (xs : List Pair) (before : Bool) → pairs_until xs None before ≡ xs
until_all [] before = refl
until_all (x ∷ xs) before = ap (λ ys. x ∷ ys) (until_all xs before)
