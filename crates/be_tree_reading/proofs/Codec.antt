-- The bytes in words, and the items on pages.
use Rattle.std.proofs.Common.{◌≡◌, ℕ, zero, suc, ◌+◌, ◌*◌, ◌/◌, ◌%◌, ◌^◌, ◌<◌, ◌≤◌, ◌-◌, List, [], ◌∷◌, ◌++◌, length, map, take, drop, get_or, ap, sym, ◌∙◌, refl, arith, zero-add, add-zero}
use Rattle.std.specs.Int.{to_be_bytes, w64}
use Rattle.std.specs.List.{flat_map, range_with_len}
use Rattle.std.proofs.lemmas.List.FromFn.{map-range_with_len_more, take-map-range_with_len, fill_by_all}
use Rattle.std.proofs.lemmas.List.Concat.{flat_map-append}
use Rattle.std.proofs.lemmas.List.{append-nil, drop-drop, drop-take, length-append, length-drop, length-take-le, take-append-drop, take-append-le}
use Rattle.std.proofs.Math.Seq.{take-append_seam, drop-append_seam}
use Rattle.std.proofs.lemmas.Nat.{div-mul-add, mod-mul-add}
use Rattle.be_tree_reading.specs.Pair.{Pair}
use Rattle.be_tree_reading.specs.Page.{item_at, bytes_at, words_for, key_len, payload_len, IsItem}

-- one more word
pub flat_map_more : {A B : Type 0} (w : B → List A) (f : ℕ → B) (i : ℕ) → flat_map w (map f (range_with_len 0 (i + 1))) ≡ flat_map w (map f (range_with_len 0 i)) ++ w (f i)
flat_map_more w f i =
    ap (flat_map w) (map-range_with_len_more f 0 i i (omega arith)) ∙ flat_map-append w (map f (range_with_len 0 i)) (f i ∷ []) ∙ ap (λ x. flat_map w (map f (range_with_len 0 i)) ++ x) (append-nil (w (f i)))

-- functions that agree on a range give the same list for it
pub map_same : {A : Type 0} (f g : ℕ → A) (a n : ℕ) → ((k : ℕ) → a ≤ k → k < a + n → f k ≡ g k) → map f (range_with_len a n) ≡ map g (range_with_len a n)
map_same f g a zero h = refl
map_same f g a (suc n) h = ap2 (h a (omega arith) (omega arith)) (map_same f g (a + 1) n (λ k le lt. h k (omega arith) (omega arith)))
  where
    ap2 : {A : Type 0} {x y : A} {xs ys : List A} → x ≡ y → xs ≡ ys → x ∷ xs ≡ y ∷ ys
    ap2 p q = cc

-- a range split in two
pub map_range_append : {A : Type 0} (f : ℕ → A) (a n m : ℕ) → map f (range_with_len a (n + m)) ≡ map f (range_with_len a n) ++ map f (range_with_len (a + n) m)
map_range_append f a zero m = rw (zero-add, add-zero) refl
map_range_append f a (suc n) m =
    let e : suc n + m ≡ suc (n + m) = omega arith in
    let b : (a + 1) + n ≡ a + suc n = omega arith in
    rw e (ap (λ xs. f a ∷ xs) (map_range_append f (a + 1) n m ∙ ap (λ b. map f (range_with_len (a + 1) n) ++ map f (range_with_len b m)) b))

-- the words whose bytes are a list's, eight at a time
pub flat_map_stored : (words : ℕ → ℕ) (at : ℕ) (bs : List ℕ) (m : ℕ)
    → ((i : ℕ) → i < m → to_be_bytes w64 (words (at + i)) ≡ map (λ k. get_or bs k 0) (range_with_len (8 * i) 8))
    → flat_map (to_be_bytes w64) (map (λ i. words (at + i)) (range_with_len 0 m)) ≡ map (λ k. get_or bs k 0) (range_with_len 0 (8 * m))
flat_map_stored words at bs zero h = refl
flat_map_stored words at bs (suc m) h =
    let front = flat_map_stored words at bs m (λ i lt. h i (omega arith)) in
    let more = flat_map_more (to_be_bytes w64) (λ (i : ℕ). words (at + i)) m in
    let e : suc m ≡ m + 1 = omega arith in
    let f : 8 * m + 8 ≡ 8 * suc m = omega arith in
    let z : 0 + 8 * m ≡ 8 * m = omega arith in
    let b = λ (k : ℕ). get_or bs k 0 in
    ap (λ (j : ℕ). flat_map (to_be_bytes w64) (map (λ i. words (at + i)) (range_with_len 0 j))) e
    ∙ more ∙ ap (λ x. x ++ to_be_bytes w64 (words (at + m))) front ∙ ap (λ x. map b (range_with_len 0 (8 * m)) ++ x) (h m (omega arith))
    ∙ sym (map_range_append b 0 (8 * m) 8 ∙ ap (λ a. map b (range_with_len 0 (8 * m)) ++ map b (range_with_len a 8)) z)
    ∙ ap (λ (j : ℕ). map b (range_with_len 0 j)) f

-- what was stored is what is read back
pub bytes_at_stored : (words : ℕ → ℕ) (at : ℕ) (bs : List ℕ)
    → ((i : ℕ) → i < words_for (length bs) → to_be_bytes w64 (words (at + i)) ≡ map (λ k. get_or bs k 0) (range_with_len (8 * i) 8))
    → bytes_at words at (length bs) ≡ bs
bytes_at_stored words at bs h =
    let m = words_for (length bs) in
    let b = λ (k : ℕ). get_or bs k 0 in
    ap (take (length bs)) (flat_map_stored words at bs m h)
    ∙ take-map-range_with_len b 0 (8 * m) (length bs) (omega arith)
    ∙ sym (fill_by_all b bs (length bs) 0 refl (λ k lt. refl))

-- bytes in words that agree
pub bytes_at_same : (v w : ℕ → ℕ) (at n : ℕ) → n ≤ 328 → ((j : ℕ) → at ≤ j → j < at + 41 → w j ≡ v j) → bytes_at w at n ≡ bytes_at v at n
bytes_at_same v w at n le same =
    ap (λ ws. take n (flat_map (to_be_bytes w64) ws)) (map_same (λ i. w (at + i)) (λ i. v (at + i)) 0 (words_for n) (λ k ge lt. same (at + k) (omega arith) (omega arith)))

-- an item in words that agree
pub item_at_same : (v w : ℕ → ℕ) (at : ℕ) → IsItem v at → ((j : ℕ) → at ≤ j → j < at + 42 → w j ≡ v j) → item_at w at ≡ item_at v at
unfolding item_at
item_at_same v w at fits same =
    let header = same at (omega arith) (omega arith) in
    let bytes = bytes_at_same v w (at + 1) (key_len v at + payload_len v at) fits.fits (λ j ge lt. same j (omega arith) (omega arith)) in
    rw header (rw bytes refl)

-- an item, read back from its header and its bytes
pub item_at_stored : (words : ℕ → ℕ) (at : ℕ) (item : Pair) → words at ≡ length item.key * 2 ^ 32 + length item.payload → length item.payload < 2 ^ 32
    → bytes_at words (at + 1) (length (item.key ++ item.payload)) ≡ item.key ++ item.payload → item_at words at ≡ item
unfolding item_at
item_at_stored words at item header small bytes =
    let k : key_len words at ≡ length item.key = ap (λ (h : ℕ). h / 2 ^ 32) header ∙ div-mul-add (length item.key) (2 ^ 32) (length item.payload) small in
    let p : payload_len words at ≡ length item.payload = ap (λ (h : ℕ). h % 2 ^ 32) header ∙ mod-mul-add (length item.key) (2 ^ 32) (length item.payload) small in
    let n : key_len words at + payload_len words at ≡ length (item.key ++ item.payload) = omega (arith, length-append item.key item.payload) in
    let read : bytes_at words (at + 1) (key_len words at + payload_len words at) ≡ item.key ++ item.payload = ap (bytes_at words (at + 1)) n ∙ bytes in
    pair_same (ap2 take k read ∙ take-append_seam item.key item.payload) (ap2 drop k read ∙ drop-append_seam item.key item.payload)
  where
    ap2 : (f : ℕ → List ℕ → List ℕ) {x y : ℕ} {xs ys : List ℕ} → x ≡ y → xs ≡ ys → f x xs ≡ f y ys
    ap2 f p q = cc

    pair_same : {a b c d : List ℕ} → a ≡ c → b ≡ d → ◌≡◌ {A = Pair} (record { key = a; payload = b }) (record { key = c; payload = d })
    pair_same p q = cc

-- an item whose header and used words were copied from another place
pub item_at_copied : (v w : ℕ → ℕ) (from at : ℕ) → w at ≡ v from → ((j : ℕ) → j < words_for (key_len v from + payload_len v from) → w (at + 1 + j) ≡ v (from + 1 + j)) → item_at w at ≡ item_at v from
unfolding item_at
item_at_copied v w from at header same =
    let bytes : bytes_at w (at + 1) (key_len v from + payload_len v from) ≡ bytes_at v (from + 1) (key_len v from + payload_len v from) =
    ap (λ ws. take (key_len v from + payload_len v from) (flat_map (to_be_bytes w64) ws))
    (map_same (λ i. w (at + 1 + i)) (λ i. v (from + 1 + i)) 0 (words_for (key_len v from + payload_len v from)) (λ k ge lt. same k (omega (arith, lt)))) in
    rw header (rw bytes refl)

-- the first of some bytes
pub flat_map_length : (words : ℕ → ℕ) (n : ℕ) → length (flat_map (to_be_bytes w64) (map words (range_with_len 0 n))) ≡ 8 * n
flat_map_length words zero = refl
flat_map_length words (suc n) =
    let e : suc n ≡ n + 1 = omega arith in
    let more = ap (length {A = ℕ}) (ap (λ (j : ℕ). flat_map (to_be_bytes w64) (map words (range_with_len 0 j))) e ∙ flat_map_more (to_be_bytes w64) words n) in
    omega (arith, more, length-append (flat_map (to_be_bytes w64) (map words (range_with_len 0 n))) (to_be_bytes w64 (words n)), eight (words n), flat_map_length words n)
  where
    eight : (n : ℕ) → length (to_be_bytes w64 n) ≡ 8
    eight n = refl

pub flat_map_range_append : (f : ℕ → ℕ) (n m : ℕ) → flat_map (to_be_bytes w64) (map f (range_with_len 0 (n + m))) ≡ flat_map (to_be_bytes w64) (map f (range_with_len 0 n)) ++ flat_map (to_be_bytes w64) (map f (range_with_len (0 + n) m))
flat_map_range_append f n m = ap (flat_map (to_be_bytes w64)) (map_range_append f 0 n m) ∙ flat_map-append (to_be_bytes w64) (map f (range_with_len 0 n)) (map f (range_with_len (0 + n) m))

pub bytes_at_prefix : (words : ℕ → ℕ) (at k n : ℕ) → k ≤ n → take k (bytes_at words at n) ≡ bytes_at words at k
bytes_at_prefix words at k n le =
    let f = λ (i : ℕ). words (at + i) in
    let front = flat_map (to_be_bytes w64) (map f (range_with_len 0 (words_for k))) in
    let more : words_for k + (words_for n - words_for k) ≡ words_for n = omega (arith, le) in
    take_take k n (flat_map (to_be_bytes w64) (map f (range_with_len 0 (words_for n)))) le
    ∙ ap (λ (m : ℕ). take k (flat_map (to_be_bytes w64) (map f (range_with_len 0 m)))) (sym more)
    ∙ ap (take k) (flat_map_range_append f (words_for k) (words_for n - words_for k))
    ∙ take-append-le k front (flat_map (to_be_bytes w64) (map f (range_with_len (0 + words_for k) (words_for n - words_for k)))) (omega (arith, flat_map_length f (words_for k)))
  where
    take_take : {A : Type 0} (k n : ℕ) (xs : List A) → k ≤ n → take k (take n xs) ≡ take k xs
    take_take zero n xs le = refl
    take_take (suc k) zero xs le = absurd (omega (arith, le))
    take_take (suc k) (suc n) [] le = refl
    take_take (suc k) (suc n) (x ∷ xs) le = ap (λ ys. x ∷ ys) (take_take k n xs (omega (arith, le)))

-- an item's key, read without its payload
pub key_at : (words : ℕ → ℕ) (at : ℕ) → (item_at words at).key ≡ bytes_at words (at + 1) (key_len words at)
unfolding item_at
key_at words at = bytes_at_prefix words (at + 1) (key_len words at) (key_len words at + payload_len words at) (omega arith)

-- the same words, counted from another index
pub maps_along : {A : Type 0} (g h : ℕ → A) (a b n : ℕ) → ((k : ℕ) → g (a + k) ≡ h (b + k)) → map g (range_with_len a n) ≡ map h (range_with_len b n)
maps_along g h a b zero same = refl
maps_along g h a b (suc n) same =
    let ea : a + 0 ≡ a = omega arith in
    let eb : b + 0 ≡ b = omega arith in
    ap2 (ap g (sym ea) ∙ same 0 ∙ ap h eb)
    (maps_along g h (a + 1) (b + 1) n (λ k. let e : a + 1 + k ≡ a + suc k = omega arith in let f : b + suc k ≡ b + 1 + k = omega arith in ap g e ∙ same (suc k) ∙ ap h f))
  where
    ap2 : {A : Type 0} {x y : A} {xs ys : List A} → x ≡ y → xs ≡ ys → x ∷ xs ≡ y ∷ ys
    ap2 p q = cc

-- bytes from a later word on
pub bytes_at_later : (words : ℕ → ℕ) (at i m : ℕ) → drop (8 * i) (bytes_at words at (8 * i + m)) ≡ bytes_at words (at + i) m
bytes_at_later words at i m =
    let f = λ (j : ℕ). words (at + j) in
    let front = flat_map (to_be_bytes w64) (map f (range_with_len 0 i)) in
    let back = flat_map (to_be_bytes w64) (map f (range_with_len (0 + i) (words_for m))) in
    let count : words_for (8 * i + m) ≡ i + words_for m = omega arith in
    let len : 8 * i ≡ length front = sym (flat_map_length f i) in
    drop-take (8 * i) m (flat_map (to_be_bytes w64) (map f (range_with_len 0 (words_for (8 * i + m)))))
    ∙ ap (λ (n : ℕ). take m (drop (8 * i) (flat_map (to_be_bytes w64) (map f (range_with_len 0 n))))) count
    ∙ ap (λ xs. take m (drop (8 * i) xs)) (flat_map_range_append f i (words_for m))
    ∙ ap (λ (n : ℕ). take m (drop n (front ++ back))) len
    ∙ ap (take m) (drop-append_seam front back)
    ∙ ap (λ ws. take m (flat_map (to_be_bytes w64) ws)) (maps_along f (λ (j : ℕ). words (at + i + j)) (0 + i) 0 (words_for m)
    (λ k. let e : at + (0 + i + k) ≡ at + i + (0 + k) = omega arith in ap words e))

-- bytes in two parts, the second beginning at a word
pub bytes_at_split : (words : ℕ → ℕ) (at i m : ℕ) → bytes_at words at (8 * i + m) ≡ bytes_at words at (8 * i) ++ bytes_at words (at + i) m
bytes_at_split words at i m =
    sym (take-append-drop (8 * i) (bytes_at words at (8 * i + m)))
    ∙ ap (λ (xs : List ℕ). xs ++ drop (8 * i) (bytes_at words at (8 * i + m))) (bytes_at_prefix words at (8 * i) (8 * i + m) (omega arith))
    ∙ ap (λ (xs : List ℕ). bytes_at words at (8 * i) ++ xs) (bytes_at_later words at i m)

-- whole words that were copied
pub bytes_at_copied : (v w : ℕ → ℕ) (from at i : ℕ) → ((j : ℕ) → j < i → w (at + j) ≡ v (from + j)) → bytes_at w at (8 * i) ≡ bytes_at v from (8 * i)
bytes_at_copied v w from at i same =
    ap (λ ws. take (8 * i) (flat_map (to_be_bytes w64) ws))
    (map_same (λ j. w (at + j)) (λ j. v (from + j)) 0 (words_for (8 * i)) (λ k ge lt. same k (omega (arith, lt))))

-- an item's payload, read from the word where it begins
pub payload_from : (words : ℕ → ℕ) (at : ℕ) → (item_at words at).payload ≡ drop (key_len words at % 8) (bytes_at words (at + 1 + key_len words at / 8) (key_len words at % 8 + payload_len words at))
unfolding item_at
payload_from words at =
    let k = key_len words at in
    let p = payload_len words at in
    let i = k / 8 in
    let r = k % 8 in
    let e : k ≡ 8 * i + r = omega arith in
    let f : k + p ≡ 8 * i + (r + p) = omega arith in
    ap (λ (n : ℕ). drop k (bytes_at words (at + 1) n)) f
    ∙ ap (λ (n : ℕ). drop n (bytes_at words (at + 1) (8 * i + (r + p)))) e
    ∙ sym (drop-drop r (8 * i) (bytes_at words (at + 1) (8 * i + (r + p))))
    ∙ ap (drop r) (bytes_at_later words (at + 1) i (r + p))

-- the length of a payload
pub item_payload_length : (words : ℕ → ℕ) (at : ℕ) → length (item_at words at).payload ≡ payload_len words at
unfolding item_at
item_payload_length words at =
    let n = key_len words at + payload_len words at in
    omega (
      arith,
      length-drop (key_len words at) (bytes_at words (at + 1) n),
      length-take-le n (flat_map (to_be_bytes w64) (map (λ i. words (at + 1 + i)) (range_with_len 0 (words_for n)))) (omega (arith, flat_map_length (λ i. words (at + 1 + i)) (words_for n))),
    )

-- a slice from an index on
pub rest_from : (xs : List ℕ) (i : ℕ) → take (length xs - i) (drop i xs) ≡ drop i xs
rest_from xs i = all_taken (drop i xs) (length xs - i) (omega (arith, length-drop i xs))
  where
    all_taken : (ys : List ℕ) (n : ℕ) → length ys ≤ n → take n ys ≡ ys
    all_taken [] zero le = refl
    all_taken [] (suc n) le = refl
    all_taken (y ∷ ys) zero le = absurd (omega (arith, le))
    all_taken (y ∷ ys) (suc n) le = ap (λ zs. y ∷ zs) (all_taken ys n (omega (arith, le)))

-- a word's bytes
pub word_bytes : (words : ℕ → ℕ) (at : ℕ) → bytes_at words at 8 ≡ to_be_bytes w64 (words at)
word_bytes words at = let e : at + 0 ≡ at = omega arith in ap (λ (i : ℕ). to_be_bytes w64 (words i)) e
