-- An index as it is stored on a version page.
use Rattle.std.specs.Prelude.{◌≡◌, ℕ, ◌*◌, ◌^◌, ◌<◌, List, map, slice_index}
use Rattle.std.specs.Int.{to_be_bytes, w64}
use Rattle.std.specs.List.{range_with_len}
use Rattle.be_value.specs.declared.values.Kind.{Kind}

pub record Entry : Type 0 where
  pub name : List ℕ
  pub kind : Kind
  pub root : ℕ

-- The eight words contain the bytes of the string. The first byte is the most significant byte of
-- the first word, and the bytes after the last one are zeros.
pub record HaveText (words : ℕ → ℕ) (text : List ℕ) : Type 0 where
  pub small : (j : ℕ) → j < 8 → words j < 2 ^ 64
  pub bytes : (j : ℕ) → j < 8 → to_be_bytes w64 (words j)
      ≡ map (λ k. slice_index text k) (range_with_len (8 * j) 8)
