-- A page's items by their numbers.
use Rattle.std.proofs.Common.{◌≡◌, ℕ, ◌<◌, length, get_or, zero-add}
use Rattle.std.proofs.lemmas.List.FromFn.{get_or-map-range_with_len, length-map-range_with_len}
use Rattle.be_tree_reading.specs.Pair.{Pair}
use Rattle.be_tree_reading.specs.Page.{item_at, items_of, item_place}

-- a page's item by its number
pub item_get : (words : ℕ → ℕ) (j : ℕ) (d : Pair) → j < words 1 → get_or (items_of words) j d ≡ item_at words (item_place j)
item_get words j d lt = get_or-map-range_with_len (λ (j : ℕ). item_at words (item_place j)) 0 (words 1) j j d lt (zero-add j)

pub items_count : (words : ℕ → ℕ) → length (items_of words) ≡ words 1
items_count words = length-map-range_with_len (λ (j : ℕ). item_at words (item_place j)) 0 (words 1)
