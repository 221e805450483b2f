-- A list of all nodes that satisfy a formula, and lookups in it.
use Rattle.std.proofs.Common.{◌≡◌, ◌⊎◌, inl, inr, nat_cmp, ◌<◌, ◌≤◌, ◌+◌, ◌-◌, ℕ, zero, suc, Bool, true, false, List, [], refl, sym, ap, ◌∙◌, subst, arith, Ok, Err, filter, is_ok, get_or, length, if◌then◌else◌}
use Rattle.std.proofs.lemmas.List.Sorted.{searched}
use Rattle.std.proofs.lemmas.List.{get_or_default}
use Rattle.std.specs.List.{Contains}
use Rattle.std.specs.List.Sorted.{IsBinarySearchResult, IsStrictlyIncreasing}
use Rattle.std.specs.Prelude.{MatchResult}
use Rattle.std.specs.FinMap as fin
use Rattle.std.specs.declared.result.Result.{Result}
use Rattle.be_value.specs.declared.refusals.Refusal.{Refusal}
use Rattle.be_value.specs.declared.refusals.Refusal.TheVariants.{NotCovered}
use Rattle.be_query.specs.Grammar.{Formula}
use Rattle.be_volume.specs.Query.{covered, sat, scan}
use Rattle.be_volume.specs.Sound.{IsSound}
use Rattle.be_volume.specs.Volume.{State}
use Rattle.be_plan.proofs.Answering.{true_there}
use Rattle.be_plan.proofs.Rising.{contains_of_is_in}
use Rattle.be_order.specs.Asked.{Lists}
use Rattle.be_order.proofs.Filters.{from_filter, in_filter}

not_falling : (xs : List ℕ) → IsStrictlyIncreasing xs → (i d : ℕ) → i + d < length xs → get_or xs i 0 ≤ get_or xs (i + d) 0
not_falling xs rising i zero below = let same : get_or xs (i + 0) 0 ≡ get_or xs i 0 = ap (λ k. get_or xs k 0) (omega arith) in omega (arith, same)
not_falling xs rising i (suc d) below =
    let before = not_falling xs rising i d (omega (arith, below)) in
    let step : get_or xs (i + d) 0 < get_or xs (i + d + 1) 0 = rising (i + d) (omega (arith, below)) in
    let same : get_or xs (i + suc d) 0 ≡ get_or xs (i + d + 1) 0 = ap (λ k. get_or xs k 0) (omega arith) in
    omega (arith, before, step, same)

rises : (xs : List ℕ) → IsStrictlyIncreasing xs → (i j : ℕ) → i ≤ j → j < length xs → get_or xs i 0 ≤ get_or xs j 0
rises xs rising i j less below =
    let same : i + (j - i) ≡ j = omega (arith, less) in
    subst (λ k. get_or xs i 0 ≤ get_or xs k 0) same (not_falling xs rising i (j - i) (omega (arith, below, same)))

-- The list contains a number if and only if the node with this number satisfies the formula.
module _ (s : State) (f : Formula) (nodes : List ℕ) (n : ℕ) (lists : Lists s f nodes) where
  not_there : (i : ℕ) → ((k : ℕ) → k < i → get_or nodes k 0 < n) → ((k : ℕ) → i ≤ k → k < length nodes → n < get_or nodes k 0) → Contains nodes n → false ≡ true
  not_there i below above (k, inside, at) =
      let there : get_or nodes k 0 ≡ n = sym (get_or_default nodes k n 0 inside) ∙ at in
      elim (side k i) [
        | inl less ↦ let lt = below k less in absurd (omega (arith, lt, there))
        | inr more ↦ let lt = above k more inside in absurd (omega (arith, lt, there))
      ]
    where
      side : (k i : ℕ) → (k < i) ⊎ (i ≤ k)
      side k zero = inr (omega arith)
      side zero (suc i) = inl (omega arith)
      side (suc k) (suc i) = elim (side k i) [ inl l ↦ inl (omega (arith, l)) | inr m ↦ inr (omega (arith, m)) ]

  pub looked_up : (r : Result ℕ ℕ) → IsBinarySearchResult (λ y. nat_cmp y n) nodes r → is_ok r ≡ sat s f n
  looked_up r h = by r (searched nodes n r h (rises nodes lists.rising))
    where
      by : (r : Result ℕ ℕ) → MatchResult r (λ i. (i < length nodes) × (get_or nodes i 0 ≡ n)) (λ i. (i ≤ length nodes) × ((k : ℕ) → k < i → get_or nodes k 0 < n) × ((k : ℕ) → i ≤ k → k < length nodes → n < get_or nodes k 0)) → is_ok r ≡ sat s f n
      by (Ok i) m = sym (lists.only n (i, m.0, get_or_default nodes i n 0 m.0 ∙ m.1))
      by (Err i) m = step (sat s f n) refl
        where
          step : (b : Bool) → sat s f n ≡ b → false ≡ sat s f n
          step true e = not_there i m.1 m.2 (lists.all n e) ∙ sym e
          step false e = sym e

nodes_in : Result (List ℕ) Refusal → List ℕ
nodes_in (Ok nodes) = nodes
nodes_in (Err e) = []

module _ (s : State) (sound : IsSound s) where
  -- The scan lists all of these nodes.
  pub scan_lists : (f : Formula) (found : List ℕ) → IsStrictlyIncreasing found → scan s f ≡ Ok found → Lists s f found
  unfolding nodes_in
  scan_lists f found rising is = by (covered s f) is
    where
      by : (b : Bool) → (if b then Ok (filter (sat s f) (fin.keys s.nodes)) else Err NotCovered) ≡ Ok found → Lists s f found
      by true e =
          let same : filter (sat s f) (fin.keys s.nodes) ≡ found = ap nodes_in e in record {
            rising = rising;
            only = λ n h. (from_filter (sat s f) (fin.keys s.nodes) n (subst (λ l. Contains l n) (sym same) h)).1;
            all = λ n h. subst (λ l. Contains l n) same
                (in_filter (sat s f) (fin.keys s.nodes) n (contains_of_is_in (fin.keys s.nodes) n (sym (fin.contains_key-keys s.nodes n) ∙ true_there s sound f n h)) h);
          }
      by false e = cc
