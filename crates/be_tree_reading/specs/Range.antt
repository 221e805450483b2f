-- The pairs of a list from a key on.
use Rattle.std.specs.Prelude.{◌≡◌, ◌-◌, ◌≤◌, ℕ, List, [], ◌∷◌, ◌++◌, Option, None, Some, Bool, true}
use Rattle.std.specs.Prelude.{false, if◌then◌else◌, length, drop, map, All}
use Rattle.std.specs.Int.{from_be_bytes, w64}
use Rattle.std.specs.List.{filter, find}
use Rattle.std.specs.Ordering.{is_ge, is_gt}
use Rattle.be_tree_reading.specs.Pair.{Pair}
use Rattle.be_tree_reading.specs.Key.{key_cmp}
use Rattle.be_tree_reading.specs.declared.walk.TreeItem.{TreeItem}

-- the key is at or after k; if `after` is set, strictly after it
abbrev pub is_from : List ℕ → (after : Bool) → List ℕ → Bool
is_from k false key = is_ge (key_cmp key k)
is_from k true key = is_gt (key_cmp key k)

-- the pairs at or after k, in order; if `after` is set, those strictly after it
abbrev pub pairs_from : List Pair → List ℕ → (after : Bool) → List Pair
pairs_from pairs k after = filter (λ x. is_from k after x.key) pairs

-- the first of them
abbrev pub first_from : List Pair → List ℕ → (after : Bool) → Option Pair
first_from pairs k after = find (λ x. is_from k after x.key) pairs

-- a returned item as a pair
abbrev pub pair_in : TreeItem → Pair
pair_in item = record { key = item.key.items; payload = item.payload.items }

-- the key is above the bound, if there is one
abbrev pub is_past : Option (List ℕ) → List ℕ → Bool
is_past None key = false
is_past (Some high) key = is_gt (key_cmp key high)

-- the pairs before the first one whose key is above the bound
abbrev pub pairs_to : List Pair → (high : Option (List ℕ)) → List Pair
pairs_to [] high = []
pairs_to (x ∷ xs) high = if is_past high x.key then [] else x ∷ pairs_to xs high

-- the number in the last eight bytes of a key
unfoldable pub number_of : List ℕ → ℕ
number_of key = from_be_bytes w64 (drop (length key - 8) key)

-- the numbers at the ends of the pairs' keys, up to a bound
abbrev pub numbers_to : List Pair → (high : Option (List ℕ)) → List ℕ
numbers_to pairs high = map (λ x. number_of x.key) (pairs_to pairs high)

-- each key has at least eight bytes
abbrev pub AreLong : List Pair → Type 0
AreLong pairs = All (λ x. 8 ≤ length x.key) pairs

-- the list has gained the first of the numbers, and these are left
pub record HasGot (before numbers left after : List ℕ) : Type 0 where
  pub got : List ℕ
  pub parts : numbers ≡ got ++ left
  pub is : after ≡ before ++ got

-- the list has gained the first of the numbers
pub record HasFirst (before numbers after : List ℕ) : Type 0 where
  pub left : List ℕ
  pub has : HasGot before numbers left after
