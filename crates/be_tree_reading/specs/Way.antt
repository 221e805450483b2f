-- A walk over a range of keys, in either direction.
use Rattle.std.specs.Prelude.{◌≡◌, ℕ, List, [], ◌∷◌, ◌++◌, Option, None, Some, Bool, true}
use Rattle.std.specs.Prelude.{false, map, reverse, option_copied}
use Rattle.std.specs.List.{filter}
use Rattle.std.specs.Ordering.{is_le, is_lt}
use Rattle.be_pages.specs.declared.room.PageState.{PageState}
use Rattle.be_tree_reading.specs.Pair.{Pair}
use Rattle.be_tree_reading.specs.Key.{key_cmp}
use Rattle.be_tree_reading.specs.Page.{IsReadableAt, item_at}
use Rattle.be_tree_reading.specs.Range.{number_of, pairs_from}
use Rattle.be_tree_reading.specs.declared.way.Way.{Way}

-- the key is at or before the bound, if there is one; if `before` is set, strictly before it
abbrev pub is_until : Option (List ℕ) → (before : Bool) → List ℕ → Bool
is_until None before key = true
is_until (Some high) false key = is_le (key_cmp key high)
is_until (Some high) true key = is_lt (key_cmp key high)

-- the pairs at or before the bound, in order; if `before` is set, those strictly before it
abbrev pub pairs_until : List Pair → Option (List ℕ) → (before : Bool) → List Pair
pairs_until pairs high before = filter (λ x. is_until high before x.key) pairs

-- the pairs from low to high in the order of a walk, both ends included; if `strict` is set,
-- without the end where the walk begins
abbrev pub walk : (back strict : Bool) → (low : List ℕ) → (high : Option (List ℕ)) → List Pair
    → List Pair
walk false strict low high pairs = pairs_until (pairs_from pairs low strict) high false
walk true strict low high pairs = reverse (pairs_from (pairs_until pairs high strict) low false)

-- the pairs of a tree on a way, in the way's order
abbrev pub walk_of : Way → List Pair → List Pair
walk_of way pairs = walk way.back way.strict way.low.now (option_copied way.high) pairs

-- the numbers at the ends of their keys
abbrev pub numbers_in : List Pair → List ℕ
numbers_in pairs = map (λ x. number_of x.key) pairs

-- the place of the last of these pairs, if there is one
abbrev pub IsLastOf : (page_state : ℕ → PageState) (words : ℕ → ℕ → ℕ) → Option (ℕ × ℕ) → List Pair
    → Type 0
IsLastOf page_state words None pairs = pairs ≡ []
IsLastOf page_state words (Some at) pairs = IsReadableAt page_state words at.0 at.1
    × ((before : List Pair) × (pairs ≡ before ++ item_at (words at.0) at.1 ∷ []))
