-- Arbitrary members of an ascending list.
use Rattle.std.proofs.Common.{◌≡◌, ◌<◌, ℕ, zero, suc, List, [], ◌∷◌, ap, ◌∙◌, subst, arith, take, length, min}
use Rattle.std.specs.List.{Contains}
use Rattle.std.specs.List.Sorted.{IsStrictlyIncreasing}
use Rattle.std.specs.Prelude.{slice_index}
use Rattle.std.proofs.lemmas.List.{get_or-take}
use Rattle.std.proofs.lemmas.List.Kept.{AllPairs-from_increasing}
use Rattle.std.specs.declared.result.Result.{Result}
use Rattle.std.specs.declared.result.Result.TheVariants.{Ok}
use Rattle.be_value.specs.declared.refusals.Refusal.{Refusal}
use Rattle.be_order.specs.Firsts.{IsAnyOf}

pub length_taken : (most : ℕ) (xs : List ℕ) → length (take most xs) ≡ min most (length xs)
length_taken zero xs = omega arith
length_taken (suc m) [] = omega arith
length_taken (suc m) (x ∷ xs) = omega (arith, length_taken m xs)

pub contains_taken : (most : ℕ) (xs : List ℕ) (n : ℕ) → Contains (take most xs) n → Contains xs n
contains_taken zero xs n h = absurd (omega (arith, h.1))
contains_taken (suc m) [] n h = h
contains_taken (suc m) (x ∷ xs) n (zero, below, is) = (0, omega arith, is)
contains_taken (suc m) (x ∷ xs) n (suc i, below, is) =
    let later : Contains xs n = contains_taken m xs n (i, omega arith, is) in
    (suc later.0, omega (arith, later.1), later.2)

pub some_of : (answer : Result (List ℕ) Refusal) (most : ℕ) (all nodes : List ℕ) → answer ≡ Ok all → IsStrictlyIncreasing all → nodes ≡ take most all → IsAnyOf answer most nodes
some_of answer most all nodes is rising taken =
    let count : length nodes ≡ min most (length all) = ap length taken ∙ length_taken most all in
    let read : (k : ℕ) → k < length nodes → slice_index nodes k ≡ slice_index all k =
    λ k h. ap (λ l. slice_index l k) taken ∙ get_or-take most all k 0 (omega (arith, count, h)) in
    record {
      all = all;
      is = is;
      among = λ n h. contains_taken most all n (subst_list n h);
      once = λ i j less below same.
          let up : slice_index all i < slice_index all j = AllPairs-from_increasing all rising i j 0 less (omega (arith, count, below)) in
          omega (arith, up, same, read i (omega arith), read j below);
      count = count;
    }
  where
    subst_list : (n : ℕ) → Contains nodes n → Contains (take most all) n
    subst_list n h = subst (λ (l : List ℕ). Contains l n) taken h
