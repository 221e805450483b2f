-- A written branch: the whole words of its key were copied, and the rest of the key and the number
-- are in the words after them.
use Rattle.std.proofs.Common.{◌≡◌, ℕ, ◌+◌, ◌*◌, ◌/◌, ◌%◌, ◌^◌, ◌<◌, ◌≤◌, List, ◌++◌, length, take, ap, sym, subst, ◌∙◌, arith, append_assoc}
use Rattle.std.specs.Int.{to_be_bytes, w64}
use Rattle.std.proofs.lemmas.List.{length-append}
use Rattle.be_tree_reading.specs.Page.{bytes_at, item_at, key_len, IsItem, IsPadded}
use Rattle.be_tree_reading.proofs.Codec.{bytes_at_copied, bytes_at_prefix, bytes_at_split, item_at_stored, key_at, word_bytes}
use Rattle.be_tree_reading.proofs.Bytes.Words.{item_key_length}
use Rattle.be_tree.proofs.Bytes.Zeros.{IsItem_stored, after_later}

module _ (v w : ℕ → ℕ) (page at : ℕ) (header : w at ≡ key_len v 2 * 2 ^ 32 + 8)
    (copied : (j : ℕ) → j < key_len v 2 / 8 → w (at + 1 + j) ≡ v (3 + j))
    (stored : bytes_at w (at + 1 + key_len v 2 / 8) (key_len v 2 % 8 + 8) ≡ take (key_len v 2 % 8) (to_be_bytes w64 (v (3 + key_len v 2 / 8))) ++ to_be_bytes w64 page) where
  pub branch_stored : item_at w at ≡ record { key = (item_at v 2).key; payload = to_be_bytes w64 page }
  branch_stored =
      let k = key_len v 2 in
      let i = k / 8 in
      let r = k % 8 in
      let key = (item_at v 2).key in
      let number = to_be_bytes w64 page in
      let front = bytes_at v 3 (8 * i) in
      let back = bytes_at v (3 + i) r in
      let parts : k ≡ 8 * i + r = omega arith in
      let key_is : key ≡ front ++ back = key_at v 2 ∙ ap (bytes_at v 3) parts ∙ bytes_at_split v 3 i r in
      let back_is : take r (to_be_bytes w64 (v (3 + i))) ≡ back = ap (take r) (sym (word_bytes v (3 + i))) ∙ bytes_at_prefix v (3 + i) r 8 (omega arith) in
      let eight : length number ≡ 8 = omega arith in
      let klen = item_key_length v 2 in
      let len : length (key ++ number) ≡ 8 * i + (r + 8) = omega (arith, length-append key number, klen, eight, parts) in
      let all : bytes_at w (at + 1) (length (key ++ number)) ≡ key ++ number =
      ap (bytes_at w (at + 1)) len
      ∙ bytes_at_split w (at + 1) i (r + 8)
      ∙ ap (λ (xs : List ℕ). xs ++ bytes_at w (at + 1 + i) (r + 8)) (bytes_at_copied v w 3 (at + 1) i copied)
      ∙ ap (λ (xs : List ℕ). front ++ xs) (stored ∙ ap (λ (xs : List ℕ). xs ++ number) back_is)
      ∙ sym (append_assoc front back number)
      ∙ ap (λ (xs : List ℕ). xs ++ number) (sym key_is) in
      let head : w at ≡ length key * 2 ^ 32 + length number = header ∙ ap (λ (n : ℕ). n * 2 ^ 32 + 8) (sym klen) in
      item_at_stored w at (record { key = key; payload = number }) head (omega (arith, eight)) all

  pub branch_fits : key_len v 2 ≤ 264 → IsPadded w (at + 1 + key_len v 2 / 8) (key_len v 2 % 8 + 8) → IsItem w at
  branch_fits fits zeros =
      let k = key_len v 2 in
      let all : 8 * (k / 8) + (k % 8 + 8) ≡ k + 8 = omega arith in
      IsItem_stored w at k 8 header (omega arith) fits (omega (arith, fits)) (subst (λ (n : ℕ). IsPadded w (at + 1) n) all (after_later w (at + 1) (k / 8) (k % 8 + 8) zeros))
