-- How a page's words encode a node of items.
use Rattle.std.specs.Prelude.{◌≡◌, ℕ, ◌+◌, ◌*◌, ◌/◌, ◌%◌, ◌^◌, ◌<◌, ◌≤◌, List, All, take, drop, map}
use Rattle.std.specs.Prelude.{IsTrue}
use Rattle.std.specs.List.{flat_map, range_with_len}
use Rattle.std.specs.Int.{to_be_bytes, w64}
use Rattle.be_pages.specs.declared.room.PageState.{PageState}
use Rattle.be_pages.specs.Pages.{is_readable}
use Rattle.be_tree_reading.specs.Pair.{Pair}

-- how many words n bytes take
abbrev pub words_for : ℕ → ℕ
words_for n = (n + 7) / 8

-- the n bytes from word `at` on, the first byte being the most significant of the first word
abbrev pub bytes_at : (words : ℕ → ℕ) (at n : ℕ) → List ℕ
bytes_at words at n = take n (flat_map (to_be_bytes w64)
    (map (λ i. words (at + i)) (range_with_len 0 (words_for n))))

-- the n bytes that begin `skip` bytes after the start of word `at`
abbrev pub bytes_past : (words : ℕ → ℕ) (at skip n : ℕ) → List ℕ
bytes_past words at skip n = drop skip (bytes_at words at (skip + n))

-- the bytes after the n bytes from word `at` on, up to the end of their last word
abbrev pub bytes_after : (words : ℕ → ℕ) (at n : ℕ) → List ℕ
bytes_after words at n = drop n (flat_map (to_be_bytes w64)
    (map (λ i. words (at + i)) (range_with_len 0 (words_for n))))

-- the last word of n bytes ends with zeros
abbrev pub IsPadded : (words : ℕ → ℕ) (at n : ℕ) → Type 0
IsPadded words at n = All (λ byte. byte ≡ 0) (bytes_after words at n)

-- the place of item j
abbrev pub item_place : ℕ → ℕ
item_place j = 2 + 42 * j

-- the length of the key at a place, and that of the payload after it
abbrev pub key_len : (words : ℕ → ℕ) (at : ℕ) → ℕ
key_len words at = words at / 2 ^ 32

abbrev pub payload_len : (words : ℕ → ℕ) (at : ℕ) → ℕ
payload_len words at = words at % 2 ^ 32

-- the item at a place
unfoldable pub item_at : (words : ℕ → ℕ) (at : ℕ) → Pair
item_at words at =
    let bytes = bytes_at words (at + 1) (key_len words at + payload_len words at) in
    record { key = take (key_len words at) bytes; payload = drop (key_len words at) bytes }

-- a page's level and items
abbrev pub level_of : (words : ℕ → ℕ) → ℕ
level_of words = words 0

abbrev pub items_of : (words : ℕ → ℕ) → List Pair
items_of words = map (λ j. item_at words (item_place j)) (range_with_len 0 (words 1))

-- the item fits its place, with zeros after it in its last word: a reader may rely on this
pub record IsItem (words : ℕ → ℕ) (at : ℕ) : Type 0 where
  pub key_fits : key_len words at ≤ 264
  pub fits : key_len words at + payload_len words at ≤ 328
  pub padded : IsPadded words (at + 1) (key_len words at + payload_len words at)

-- the item at a place is this pair
abbrev pub IsPairAt : (words : ℕ → ℕ) (at : ℕ) → Pair → Type 0
IsPairAt words at pair = (item_at words at ≡ pair) × IsItem words at

-- there is an item at this place of a page, and the page can be read
abbrev pub IsReadableAt : (page_state : ℕ → PageState) (words : ℕ → ℕ → ℕ) (page at : ℕ) → Type 0
IsReadableAt page_state words page at = IsTrue (is_readable (page_state page))
    × ((at + 42 ≤ 512) × IsItem (words page) at)

-- the words encode a page with up to 12 items, each of which fits its place
pub record IsPage (words : ℕ → ℕ) : Type 0 where
  pub few : words 1 ≤ 12
  pub each : (j : ℕ) → j < words 1 → IsItem words (item_place j)
