-- Keys in the order of their first words and then of their bytes, which is their own order.
use Rattle.std.proofs.Common.{◌≡◌, ℕ, ◌+◌, ◌<◌, ◌^◌, List, ◌∷◌, All, get_or, ap, sym, subst, ◌∙◌, inl, inr, arith}
use Rattle.std.specs.Cmp.Lexicographic.{slice_cmp}
use Rattle.std.specs.List.{Contains}
use Rattle.std.specs.List.Sorted.{IsPermutation, IsSortedBy}
use Rattle.std.specs.Ordering.{is_lt, nat_cmp}
use Rattle.std.proofs.lemmas.Bool.{cases_eq}
use Rattle.std.proofs.lemmas.List.{get_or_default}
use Rattle.std.proofs.lemmas.List.Sorted.{Contains-permutation, IsPermutation-sym}
use Rattle.be_paged_building.specs.Place.{IsPlace, key_in, rank_in}
use Rattle.be_paged_building.specs.declared.keys.Place.{Place}
use Rattle.be_tree_reading.specs.Key.{key_cmp}
use Rattle.be_tree_reading.specs.Words.{IsFirst}
use Rattle.be_tree_reading.proofs.Bytes.Words.{then_other, then_same}
use Rattle.be_tree_reading.proofs.Padded.{alike_differ, alike_first}

-- the first words decide as the keys do
rank_order : (a b : ℕ) (xs ys : List ℕ) → a < 2 ^ 64 → b < 2 ^ 64 → IsFirst xs a → IsFirst ys b → key_cmp (a ∷ xs) (b ∷ ys) ≡ key_cmp xs ys
unfolding key_cmp
rank_order a b xs ys la lb fa fb = elim (cases_eq a b) [
  | inl same ↦ then_same a b (slice_cmp nat_cmp xs ys) same
  | inr other ↦ then_other a b (slice_cmp nat_cmp xs ys) other ∙ sym (alike_differ xs ys 0 a b (omega arith) la lb fa fb (alike_first xs ys) other)
]

-- what holds of each place holds of those that are sorted
pub all_moved : (P : Place → Type 0) (places old : List Place) → IsPermutation old places → All P old → All P places
all_moved P places old moved all = λ i d lt.
    let x = get_or places i d in
    let at : Contains places x = (i, lt, get_or_default places i x d lt) in
    let found : Contains old x = Contains-permutation places old x (IsPermutation-sym old places moved) at in
    subst P found.2 (all found.0 x found.1)

-- places in the order of their ranks are in the order of their keys
pub keys_sorted : (bytes : List ℕ) (places : List Place) → All (IsPlace bytes) places → IsSortedBy (λ x y. is_lt (key_cmp (rank_in bytes x) (rank_in bytes y))) places
    → IsSortedBy (λ x y. is_lt (key_cmp (key_in bytes x) (key_in bytes y))) places
keys_sorted bytes places all sorted = λ k d low high.
    let x = get_or places (k + 1) d in
    let y = get_or places k d in
    let px : IsPlace bytes x = all (k + 1) d high in
    let py : IsPlace bytes y = all k d (omega (arith, high)) in
    ap is_lt (sym (rank_order x.first y.first (key_in bytes x) (key_in bytes y) px.small py.small px.first py.first)) ∙ sorted k d low high
