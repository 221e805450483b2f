-- A key's first word.
use Rattle.std.specs.Prelude.{◌≡◌, ℕ, List, Option, None, Some, map, slice_index}
use Rattle.std.specs.List.{range_with_len}
use Rattle.std.specs.Int.{to_be_bytes, w64}

-- the word has a key's first eight bytes, padded with zeros if the key is short
abbrev pub IsFirst : (key : List ℕ) (word : ℕ) → Type 0
IsFirst key word = to_be_bytes w64 word ≡ map (λ k. slice_index key k) (range_with_len 0 8)

-- the same for a key that may be absent
abbrev pub IsFirstOf : Option (List ℕ) → (word : ℕ) → Type 0
IsFirstOf None word = Unit {0}
IsFirstOf (Some key) word = IsFirst key word
