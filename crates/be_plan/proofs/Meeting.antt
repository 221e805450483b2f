-- Numbers that are in both of two ascending lists.
use Rattle.std.proofs.Common.{◌≡◌, ◌<◌, ◌≤◌, ℕ, List, length, slice_index, ap, ◌∙◌, inl, inr, arith}
use Rattle.std.specs.List.{Contains}
use Rattle.std.specs.List.Sorted.{IsStrictlyIncreasing}
use Rattle.std.proofs.lemmas.Bool.{cases_lt}
use Rattle.std.proofs.lemmas.List.{get_or_default}
use Rattle.std.proofs.lemmas.List.Kept.{AllPairs-from_increasing}

-- In an ascending list, an earlier number is less than a later one.
pub less_before : (xs : List ℕ) → IsStrictlyIncreasing xs → (i j : ℕ) → i < j → j < length xs → slice_index xs i < slice_index xs j
less_before xs rises i j before within = AllPairs-from_increasing xs rises i j 0 before within

-- If an ascending list contains a number, that number is the first one that isn't below it.
pub meets : (xs : List ℕ) (at x : ℕ) → IsStrictlyIncreasing xs → ((k : ℕ) → k < at → slice_index xs k < x) → (at < length xs → x ≤ slice_index xs at) → Contains xs x →
    (at < length xs) × (slice_index xs at ≡ x)
meets xs at x rises below stops there =
    let k : ℕ = there.0 in
    let within : k < length xs = there.1 in
    let value : slice_index xs k ≡ x = get_or_default xs k 0 x within ∙ there.2 in
    let from : at ≤ k = elim (cases_lt k at) [
      | inl before ↦ absurd (omega (arith, below k before, value))
      | inr from ↦ from
    ] in
    let inside : at < length xs = omega (arith, from, within) in
    elim (cases_lt at k) [
      | inl before ↦ absurd (omega (arith, less_before xs rises at k before within, stops inside, value))
      | inr end ↦ let same : at ≡ k = omega (arith, from, end) in (inside, ap (slice_index xs) same ∙ value)
    ]
