-- A number written into two words after the first bytes of another word.
use Rattle.std.proofs.Common.{◌≡◌, ℕ, zero, suc, ◌+◌, ◌-◌, ◌*◌, ◌/◌, ◌%◌, ◌^◌, ◌<◌, List, All, [], ◌++◌, length, map, take, drop, ap, sym, subst, ◌∙◌, arith, append_assoc, pow-add}
use Rattle.std.specs.Int.{byte_at, bytes_high_first, to_be_bytes, w64}
use Rattle.std.specs.List.{flat_map, range_with_len}
use Rattle.std.proofs.Math.Nat.{mul_comm, zero-div}
use Rattle.std.proofs.Math.Seq.{drop-append_seam, take-append_seam}
use Rattle.std.proofs.lemmas.List.{append-nil, length-append, length-take-le, take-append-drop}
use Rattle.std.proofs.lemmas.List.Elements.{All-cons, All-nil}
use Rattle.std.proofs.lemmas.Nat.{mul-add-lt}
use Rattle.be_tree_reading.specs.Page.{IsPadded, bytes_at, words_for}
use Rattle.be_tree_reading.proofs.Bytes.Words.{byte_is, pow256}
use Rattle.be_tree_reading.proofs.Bytes.Straddling.{high_append, high_dropped, high_taken, low_bytes, positive, rejoined, second_fits, shifted}
use Rattle.be_tree_reading.proofs.Codec.{word_bytes}

zeros : (n : ℕ) → All (λ byte. byte ≡ 0) (bytes_high_first n 0)
zeros zero = All-nil (λ byte. byte ≡ 0)
zeros (suc n) = All-cons (λ byte. byte ≡ 0) (byte_at n 0) (bytes_high_first n 0) (byte_is n 0 ∙ ap (λ (m : ℕ). m % 256) (zero-div (256 ^ n))) (zeros n)

module _ (x n s t : ℕ) (e : s + t ≡ 8) (ln : n < 2 ^ 64) where
  turned : t + s ≡ 8
  turned = omega (arith, e)

  -- the first word
  first_word : to_be_bytes w64 (x / 256 ^ t * 256 ^ t + n / 256 ^ s) ≡ take s (to_be_bytes w64 x) ++ take t (to_be_bytes w64 n)
  first_word =
      high_append s t 8 (x / 256 ^ t) (n / 256 ^ s) e (second_fits x n t s turned ln)
      ∙ ap (λ (zs : List ℕ). zs ++ bytes_high_first t (n / 256 ^ s)) (sym (high_taken s t 8 x e))
      ∙ ap (λ (zs : List ℕ). take s (to_be_bytes w64 x) ++ zs) (sym (high_taken t s 8 n turned))

  -- the second one
  second_word : to_be_bytes w64 (n * 256 ^ t % 2 ^ 64) ≡ drop t (to_be_bytes w64 n) ++ bytes_high_first t 0
  second_word =
      let low = n % 256 ^ s in
      let plain : low * 256 ^ t ≡ low * 256 ^ t + 0 = omega arith in
      let same : bytes_high_first s low ≡ bytes_high_first s n = sym (ap (bytes_high_first s) (sym (rejoined n (256 ^ s))) ∙ low_bytes s 0 s (n / 256 ^ s) low (omega arith)) in
      ap (to_be_bytes w64) (shifted n 0 t s turned (omega arith) ∙ plain)
      ∙ high_append s t 8 low 0 e (positive t)
      ∙ ap (λ (zs : List ℕ). zs ++ bytes_high_first t 0) (same ∙ sym (high_dropped t s 8 n turned))

  -- both
  both_words : to_be_bytes w64 (x / 256 ^ t * 256 ^ t + n / 256 ^ s) ++ to_be_bytes w64 (n * 256 ^ t % 2 ^ 64) ≡ (take s (to_be_bytes w64 x) ++ to_be_bytes w64 n) ++ bytes_high_first t 0
  both_words =
      let a = take s (to_be_bytes w64 x) in
      let b = take t (to_be_bytes w64 n) in
      let c = drop t (to_be_bytes w64 n) in
      let d = bytes_high_first t 0 in
      ap2 first_word second_word
      ∙ append_assoc a b (c ++ d)
      ∙ ap (λ (zs : List ℕ). a ++ zs) (sym (append_assoc b c d) ∙ ap (λ (zs : List ℕ). zs ++ d) (take-append-drop t (to_be_bytes w64 n)))
      ∙ sym (append_assoc a (to_be_bytes w64 n) d)
    where
      ap2 : {p q u v : List ℕ} → p ≡ u → q ≡ v → p ++ q ≡ u ++ v
      ap2 p q = cc

-- the same in bits
module _ (x n r : ℕ) (some : 0 < r) (lt : r < 8) (lx : x < 2 ^ 64) (ln : n < 2 ^ 64) where
  in_eight : r + (8 - r) ≡ 8
  in_eight = omega (arith, lt)

  bits : 256 ^ (8 - r) ≡ 2 ^ (64 - 8 * r)
  bits = let e : 8 * (8 - r) ≡ 64 - 8 * r = omega (arith, lt) in pow256 (8 - r) ∙ ap (λ (m : ℕ). 2 ^ m) e

  -- nothing is lost if the lowest bits become zeros
  whole : x / 2 ^ (64 - 8 * r) * 2 ^ (64 - 8 * r) % 2 ^ 64 ≡ x / 2 ^ (64 - 8 * r) * 2 ^ (64 - 8 * r)
  whole =
      let p = 2 ^ (64 - 8 * r) in
      let small : x / p * p < 2 ^ 64 = omega (arith, rejoined x p, lx) in
      omega (arith, small)

  in_bytes : x / 2 ^ (64 - 8 * r) * 2 ^ (64 - 8 * r) % 2 ^ 64 + n / 2 ^ (8 * r) ≡ x / 256 ^ (8 - r) * 256 ^ (8 - r) + n / 256 ^ r
  in_bytes =
      ap (λ (m : ℕ). m + n / 2 ^ (8 * r)) whole
      ∙ ap (λ (p : ℕ). x / p * p + n / 2 ^ (8 * r)) (sym bits)
      ∙ ap (λ (p : ℕ). x / 256 ^ (8 - r) * 256 ^ (8 - r) + n / p) (sym (pow256 r))

  pub joined_fits : x / 2 ^ (64 - 8 * r) * 2 ^ (64 - 8 * r) % 2 ^ 64 + n / 2 ^ (8 * r) < 2 ^ 64
  joined_fits =
      let p = 256 ^ (8 - r) in
      let q = 256 ^ r in
      let turned : 8 - r + r ≡ 8 = omega (arith, lt) in
      let all : q * p ≡ 2 ^ 64 = sym (pow-add 256 r (8 - r)) ∙ ap (λ (m : ℕ). 256 ^ m) in_eight in
      let high : x / p < q = second_fits 0 x r (8 - r) in_eight lx in
      let low : n / q < p = second_fits 0 n (8 - r) r turned ln in
      subst (λ (m : ℕ). m < 2 ^ 64) (sym in_bytes) (subst (λ (m : ℕ). x / p * p + n / q < m) (mul_comm p q ∙ all) (mul-add-lt (x / p) p (n / q) q high low))

  module _ (w : ℕ → ℕ) (at : ℕ)
      (first : w at ≡ x / 2 ^ (64 - 8 * r) * 2 ^ (64 - 8 * r) % 2 ^ 64 + n / 2 ^ (8 * r))
      (second : w (at + 1) ≡ n * 2 ^ (64 - 8 * r) % 2 ^ 64) where
    read : flat_map (to_be_bytes w64) (map (λ i. w (at + i)) (range_with_len 0 (words_for (r + 8)))) ≡ (take r (to_be_bytes w64 x) ++ to_be_bytes w64 n) ++ bytes_high_first (8 - r) 0
    read =
        let count : words_for (r + 8) ≡ 2 = omega (arith, some, lt) in
        let here : at + 0 ≡ at = omega arith in
        let ys = to_be_bytes w64 (w (at + 1)) in
        ap (λ (m : ℕ). flat_map (to_be_bytes w64) (map (λ i. w (at + i)) (range_with_len 0 m))) count
        ∙ ap (λ (m : ℕ). to_be_bytes w64 (w m) ++ (ys ++ [])) here
        ∙ ap (λ (zs : List ℕ). to_be_bytes w64 (w at) ++ zs) (append-nil ys)
        ∙ ap (λ (m : ℕ). to_be_bytes w64 m ++ ys) (first ∙ in_bytes)
        ∙ ap (λ (m : ℕ). to_be_bytes w64 (x / 256 ^ (8 - r) * 256 ^ (8 - r) + n / 256 ^ r) ++ to_be_bytes w64 m) (second ∙ ap (λ (p : ℕ). n * p % 2 ^ 64) (sym bits))
        ∙ both_words x n r (8 - r) in_eight ln

    len : r + 8 ≡ length (take r (to_be_bytes w64 x) ++ to_be_bytes w64 n)
    len =
        let xs = to_be_bytes w64 x in
        let eight : length xs ≡ 8 = omega arith in
        let other : length (to_be_bytes w64 n) ≡ 8 = omega arith in
        omega (arith, length-append (take r xs) (to_be_bytes w64 n), length-take-le r xs (omega (arith, eight, lt)), other)

    pub joined_bytes : bytes_at w at (r + 8) ≡ take r (to_be_bytes w64 x) ++ to_be_bytes w64 n
    joined_bytes =
        let xs = take r (to_be_bytes w64 x) ++ to_be_bytes w64 n in
        let zs = bytes_high_first (8 - r) 0 in
        ap (take (r + 8)) read ∙ ap (λ (m : ℕ). take m (xs ++ zs)) len ∙ take-append_seam xs zs

    pub joined_padded : IsPadded w at (r + 8)
    joined_padded =
        let xs = take r (to_be_bytes w64 x) ++ to_be_bytes w64 n in
        let zs = bytes_high_first (8 - r) 0 in
        subst (λ (us : List ℕ). All (λ byte. byte ≡ 0) us) (sym (ap (drop (r + 8)) read ∙ ap (λ (m : ℕ). drop m (xs ++ zs)) len ∙ drop-append_seam xs zs)) (zeros (8 - r))

-- both in one word
pub alone_bytes : (w : ℕ → ℕ) (at x r n : ℕ) → r ≡ 0 → w at ≡ n → bytes_at w at (r + 8) ≡ take r (to_be_bytes w64 x) ++ to_be_bytes w64 n
alone_bytes w at x r n none is =
    ap (λ (m : ℕ). bytes_at w at (m + 8)) none
    ∙ word_bytes w at
    ∙ ap (to_be_bytes w64) is
    ∙ ap (λ (m : ℕ). take m (to_be_bytes w64 x) ++ to_be_bytes w64 n) (sym none)

pub alone_padded : (w : ℕ → ℕ) (at r : ℕ) → r ≡ 0 → IsPadded w at (r + 8)
alone_padded w at r none = subst (λ (m : ℕ). IsPadded w at (m + 8)) (sym none) (All-nil (λ byte. byte ≡ 0))
