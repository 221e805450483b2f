-- The zeros after an item in its last word, and items that have them.
use Rattle.std.proofs.Common.{◌≡◌, ℕ, ◌+◌, ◌*◌, ◌/◌, ◌%◌, ◌^◌, ◌<◌, ◌≤◌, List, All, ◌++◌, length, map, drop, get_or, ap, sym, subst, ◌∙◌, arith}
use Rattle.std.specs.Int.{to_be_bytes, w64}
use Rattle.std.specs.List.{flat_map, range_with_len}
use Rattle.std.proofs.lemmas.List.{drop-drop, get_or-drop, get_or_past, length-drop}
use Rattle.std.proofs.lemmas.List.Elements.{All-from_get_or}
use Rattle.std.proofs.lemmas.List.FromFn.{get_or-map-range_with_len, length-map-range_with_len}
use Rattle.std.proofs.lemmas.Nat.{div-mul-add, mod-mul-add}
use Rattle.std.proofs.Math.Seq.{drop-append_seam}
use Rattle.be_tree_reading.specs.Page.{bytes_after, words_for, key_len, payload_len, IsItem, IsPadded}
use Rattle.be_tree_reading.proofs.Codec.{flat_map_length, flat_map_range_append, flat_map_stored, map_same, maps_along}

-- past its end, a list reads as zeros
zeros_past : (bs : List ℕ) (m : ℕ) → All (λ byte. byte ≡ 0) (drop (length bs) (map (λ k. get_or bs k 0) (range_with_len 0 m)))
zeros_past bs m =
    let b = λ (k : ℕ). get_or bs k 0 in
    let all = map b (range_with_len 0 m) in
    All-from_get_or (λ byte. byte ≡ 0) (drop (length bs) all) 0 (λ i lt.
    get_or-drop (length bs) all i 0
    ∙ get_or-map-range_with_len b 0 m (length bs + i) (length bs + i) 0 (omega (arith, lt, length-drop (length bs) all, length-map-range_with_len b 0 m)) (omega arith)
    ∙ get_or_past bs (length bs + i) 0 (omega arith))

-- what was written by words that read past the end
pub after_stored : (words : ℕ → ℕ) (at : ℕ) (bs : List ℕ)
    → ((i : ℕ) → i < words_for (length bs) → to_be_bytes w64 (words (at + i)) ≡ map (λ k. get_or bs k 0) (range_with_len (8 * i) 8))
    → IsPadded words at (length bs)
after_stored words at bs h =
    subst (λ (xs : List ℕ). All (λ byte. byte ≡ 0) (drop (length bs) xs)) (sym (flat_map_stored words at bs (words_for (length bs)) h)) (zeros_past bs (8 * words_for (length bs)))

-- the same from a later word on
pub after_later : (words : ℕ → ℕ) (at i m : ℕ) → IsPadded words (at + i) m → IsPadded words at (8 * i + m)
after_later words at i m zeros = subst (λ (xs : List ℕ). All (λ byte. byte ≡ 0) xs) (sym later) zeros
  where
    later : bytes_after words at (8 * i + m) ≡ bytes_after words (at + i) m
    later =
        let f = λ (j : ℕ). words (at + j) in
        let front = flat_map (to_be_bytes w64) (map f (range_with_len 0 i)) in
        let back = flat_map (to_be_bytes w64) (map f (range_with_len (0 + i) (words_for m))) in
        let count : words_for (8 * i + m) ≡ i + words_for m = omega arith in
        let len : 8 * i ≡ length front = sym (flat_map_length f i) in
        ap (λ (n : ℕ). drop (8 * i + m) (flat_map (to_be_bytes w64) (map f (range_with_len 0 n)))) count
        ∙ ap (drop (8 * i + m)) (flat_map_range_append f i (words_for m))
        ∙ sym (drop-drop m (8 * i) (front ++ back))
        ∙ ap (λ (n : ℕ). drop m (drop n (front ++ back))) len
        ∙ ap (drop m) (drop-append_seam front back)
        ∙ ap (λ ws. drop m (flat_map (to_be_bytes w64) ws)) (maps_along f (λ (j : ℕ). words (at + i + j)) (0 + i) 0 (words_for m)
        (λ k. let e : at + (0 + i + k) ≡ at + i + (0 + k) = omega arith in ap words e))

-- an item by its header and its bytes
pub IsItem_stored : (words : ℕ → ℕ) (at k p : ℕ) → words at ≡ k * 2 ^ 32 + p → p < 2 ^ 32 → k ≤ 264 → k + p ≤ 328 → IsPadded words (at + 1) (k + p) → IsItem words at
IsItem_stored words at k p header small key_fits fits zeros =
    let ek : key_len words at ≡ k = ap (λ (h : ℕ). h / 2 ^ 32) header ∙ div-mul-add k (2 ^ 32) p small in
    let ep : payload_len words at ≡ p = ap (λ (h : ℕ). h % 2 ^ 32) header ∙ mod-mul-add k (2 ^ 32) p small in
    let all : key_len words at + payload_len words at ≡ k + p = omega (arith, ek, ep) in
    record {
      key_fits = subst (λ (n : ℕ). n ≤ 264) (sym ek) key_fits;
      fits = subst (λ (n : ℕ). n ≤ 328) (sym all) fits;
      padded = subst (λ (n : ℕ). IsPadded words (at + 1) n) (sym all) zeros;
    }

-- an item whose header and used words were copied from another place
pub IsItem_copied : (v w : ℕ → ℕ) (from at : ℕ) → IsItem v from → w at ≡ v from → ((j : ℕ) → j < words_for (key_len v from + payload_len v from) → w (at + 1 + j) ≡ v (from + 1 + j)) → IsItem w at
IsItem_copied v w from at item header same =
    let n = key_len v from + payload_len v from in
    let beyond : bytes_after w (at + 1) n ≡ bytes_after v (from + 1) n =
    ap (λ ws. drop n (flat_map (to_be_bytes w64) ws)) (map_same (λ i. w (at + 1 + i)) (λ i. v (from + 1 + i)) 0 (words_for n) (λ k ge lt. same k (omega (arith, lt)))) in
    let zeros : IsPadded w (at + 1) n = subst (λ (xs : List ℕ). All (λ byte. byte ≡ 0) xs) (sym beyond) item.padded in
    record {
      key_fits = subst (λ (h : ℕ). h / 2 ^ 32 ≤ 264) (sym header) item.key_fits;
      fits = subst (λ (h : ℕ). h / 2 ^ 32 + h % 2 ^ 32 ≤ 328) (sym header) item.fits;
      padded = subst (λ (h : ℕ). IsPadded w (at + 1) (h / 2 ^ 32 + h % 2 ^ 32)) (sym header) zeros;
    }

-- an item in words that agree
pub IsItem_same : (v w : ℕ → ℕ) (at : ℕ) → IsItem v at → ((j : ℕ) → at ≤ j → j < at + 42 → w j ≡ v j) → IsItem w at
IsItem_same v w at item same =
    let most = item.fits in
    IsItem_copied v w at at item (same at (omega arith) (omega arith)) (λ j lt. same (at + 1 + j) (omega arith) (omega (arith, lt, most)))
