-- A number whose eight bytes are in two words.
use Rattle.std.proofs.Common.{◌≡◌, ℕ, zero, suc, ◌+◌, ◌-◌, ◌*◌, ◌/◌, ◌%◌, ◌^◌, ◌<◌, ◌≤◌, List, [], ◌∷◌, ◌++◌, length, map, take, drop, get_or, ap, sym, subst, ◌∙◌, refl, arith, pow-add}
use Rattle.std.specs.Int.{byte_at, bytes_high_first, from_be_bytes, to_be_bytes, w32, w64}
use Rattle.std.specs.List.{flat_map, range_with_len}
use Rattle.std.proofs.Math.Nat.{add-mul-div_right, add-mul-mod_self_right, add-mul, div-add-mod, div-div-eq-div-mul, div-lt_iff_lt-mul, mul_assoc, mul_comm, pow-suc, zero-div}
use Rattle.std.proofs.Math.Seq.{drop-append_seam, take-append-add}
use Rattle.std.proofs.lemmas.List.{append-nil, drop-append-le, drop-take, get_or_past, length-drop}
use Rattle.std.proofs.lemmas.List.FromFn.{length-map-range_with_len, take-map-range_with_len}
use Rattle.std.proofs.lemmas.Nat.{div-mul-add, from_be_bytes-to_be_bytes_4, from_be_bytes-to_be_bytes_8, mod-mul-add, mul-add-lt, pow_pos}
use Rattle.be_tree_reading.specs.Page.{bytes_at, words_for}
use Rattle.be_tree_reading.proofs.Bytes.Words.{byte_is, pow256}
use Rattle.be_tree_reading.proofs.Codec.{bytes_at_prefix, map_range_append, map_same, word_bytes}

pub rejoined : (n m : ℕ) → n / m * m + n % m ≡ n
rejoined n m = ap (λ (k : ℕ). k + n % m) (mul_comm (n / m) m) ∙ div-add-mod n m

pub positive : (n : ℕ) → 0 < 256 ^ n
positive n = subst (λ (m : ℕ). 0 < m) (sym (pow256 n)) (pow_pos (8 * n))

-- dropping a number's lowest bytes in two steps
div_twice : (n a b m : ℕ) → a + b ≡ m → n / 256 ^ m ≡ n / 256 ^ b / 256 ^ a
div_twice n a b m e =
    let turned : m ≡ b + a = omega (arith, e) in
    ap (λ (p : ℕ). n / p) (ap (λ (k : ℕ). 256 ^ k) turned ∙ pow-add 256 b a) ∙ sym (div-div-eq-div-mul n (256 ^ b) (256 ^ a))

same_digit : (j d m u v : ℕ) → suc d + j ≡ m → byte_at j (u * 256 ^ m + v) ≡ byte_at j v
same_digit j d m u v e =
    let high = u * 256 ^ d in
    let split : u * 256 ^ m + v ≡ v + high * 256 * 256 ^ j =
    ap (λ (k : ℕ). u * 256 ^ k + v) (sym e) ∙ ap (λ (p : ℕ). u * p + v) (pow-add 256 (suc d) j ∙ ap (λ (p : ℕ). p * 256 ^ j) (pow-suc 256 d)) ∙ regroup u (256 ^ d) (256 ^ j) v in
    byte_is j (u * 256 ^ m + v)
    ∙ ap (λ (n : ℕ). n / 256 ^ j % 256) split
    ∙ ap (λ (n : ℕ). n % 256) (add-mul-div_right v (high * 256) (positive j))
    ∙ add-mul-mod_self_right (v / 256 ^ j) high 256
    ∙ sym (byte_is j v)
  where
    regroup : (u p q v : ℕ) → u * (p * 256 * q) + v ≡ v + u * p * 256 * q
    regroup u p q v = omega (arith, sym (mul_assoc u (p * 256) q), ap (λ (n : ℕ). n * q) (sym (mul_assoc u p 256)))

-- the lowest bytes don't depend on those above them
pub low_bytes : (b d m u v : ℕ) → d + b ≡ m → bytes_high_first b (u * 256 ^ m + v) ≡ bytes_high_first b v
low_bytes zero d m u v e = refl
low_bytes (suc b) d m u v e =
    let next : suc d + b ≡ m = omega (arith, e) in
    ap2 (same_digit b d m u v next) (low_bytes b (suc d) m u v next)
  where
    ap2 : {x y : ℕ} {xs ys : List ℕ} → x ≡ y → xs ≡ ys → x ∷ xs ≡ y ∷ ys
    ap2 p q = cc

-- the bytes of two numbers, the first shifted up past the second
pub high_append : (a b m u v : ℕ) → a + b ≡ m → v < 256 ^ b → bytes_high_first m (u * 256 ^ b + v) ≡ bytes_high_first a u ++ bytes_high_first b v
high_append zero b m u v e lt =
    let same : b ≡ m = omega (arith, e) in
    ap (λ (k : ℕ). bytes_high_first k (u * 256 ^ b + v)) (sym same) ∙ low_bytes b 0 b u v (omega arith)
high_append (suc a) b zero u v e lt = absurd (omega (arith, e))
high_append (suc a) b (suc m) u v e lt =
    let down : a + b ≡ m = omega (arith, e) in
    let n = u * 256 ^ b + v in
    ap2 (byte_is m n ∙ ap (λ (k : ℕ). k % 256) (div_twice n a b m down ∙ ap (λ (k : ℕ). k / 256 ^ a) (div-mul-add u (256 ^ b) v lt)) ∙ sym (byte_is a u)) (high_append a b m u v down lt)
  where
    ap2 : {x y : ℕ} {xs ys : List ℕ} → x ≡ y → xs ≡ ys → x ∷ xs ≡ y ∷ ys
    ap2 p q = cc

pub high_dropped : (s k m n : ℕ) → s + k ≡ m → drop s (bytes_high_first m n) ≡ bytes_high_first k n
high_dropped zero k m n e =
    let same : m ≡ k = omega (arith, e) in
    ap (λ (j : ℕ). bytes_high_first j n) same
high_dropped (suc s) k zero n e = absurd (omega (arith, e))
high_dropped (suc s) k (suc m) n e = high_dropped s k m n (omega (arith, e))

pub high_taken : (s k m n : ℕ) → s + k ≡ m → take s (bytes_high_first m n) ≡ bytes_high_first s (n / 256 ^ k)
high_taken zero k m n e = refl
high_taken (suc s) k zero n e = absurd (omega (arith, e))
high_taken (suc s) k (suc m) n e =
    let down : s + k ≡ m = omega (arith, e) in
    ap2 (byte_is m n ∙ ap (λ (j : ℕ). j % 256) (div_twice n s k m down) ∙ sym (byte_is s (n / 256 ^ k))) (high_taken s k m n down)
  where
    ap2 : {x y : ℕ} {xs ys : List ℕ} → x ≡ y → xs ≡ ys → x ∷ xs ≡ y ∷ ys
    ap2 p q = cc

module _ (x y s t : ℕ) (e : s + t ≡ 8) (ly : y < 2 ^ 64) where
  pub second_fits : y / 256 ^ t < 256 ^ s
  second_fits =
      let whole : 256 ^ s * 256 ^ t ≡ 2 ^ 64 = sym (pow-add 256 s t) ∙ ap (λ (n : ℕ). 256 ^ n) e in
      (div-lt_iff_lt-mul {k = 256 ^ t} {x = y} {y = 256 ^ s} (positive t)).1 (subst (λ (n : ℕ). y < n) (sym whole) ly)

  both_fits : x % 256 ^ t * 256 ^ s + y / 256 ^ t < 2 ^ 64
  both_fits =
      let whole : 256 ^ s * 256 ^ t ≡ 2 ^ 64 = sym (pow-add 256 s t) ∙ ap (λ (n : ℕ). 256 ^ n) e in
      let some = positive t in
      let low : x % 256 ^ t < 256 ^ t = omega (arith, some) in
      subst (λ (n : ℕ). x % 256 ^ t * 256 ^ s + y / 256 ^ t < n) whole (mul-add-lt (x % 256 ^ t) (256 ^ s) (y / 256 ^ t) (256 ^ t) low second_fits)

  -- when shifted within a word, the first loses its highest bytes
  pub shifted : x * 256 ^ s % 2 ^ 64 ≡ x % 256 ^ t * 256 ^ s
  shifted =
      let p = 256 ^ t in
      let q = 256 ^ s in
      let whole : p * q ≡ 2 ^ 64 = mul_comm p q ∙ sym (pow-add 256 s t) ∙ ap (λ (n : ℕ). 256 ^ n) e in
      let some = positive t in
      let low : x % p * q < 2 ^ 64 = omega (arith, both_fits) in
      let all : x * q ≡ x / p * 2 ^ 64 + x % p * q =
      ap (λ (n : ℕ). n * q) (sym (rejoined x p)) ∙ add-mul (x / p * p) (x % p) q ∙ ap (λ (n : ℕ). n + x % p * q) (mul_assoc (x / p) p q ∙ ap (λ (n : ℕ). x / p * n) whole) in
      ap (λ (n : ℕ). n % 2 ^ 64) all ∙ mod-mul-add (x / p) (2 ^ 64) (x % p * q) low

  pub two_words : take 8 (drop s (to_be_bytes w64 x ++ to_be_bytes w64 y)) ≡ to_be_bytes w64 (x % 256 ^ t * 256 ^ s + y / 256 ^ t)
  two_words =
      let xs = to_be_bytes w64 x in
      let ys = to_be_bytes w64 y in
      let turned : t + s ≡ 8 = omega (arith, e) in
      let len : length (drop s xs) + s ≡ 8 = omega (arith, length-drop s xs, e) in
      let first : bytes_high_first t x ≡ bytes_high_first t (x % 256 ^ t) =
      ap (bytes_high_first t) (sym (rejoined x (256 ^ t))) ∙ low_bytes t 0 t (x / 256 ^ t) (x % 256 ^ t) (omega arith) in
      ap (take 8) (drop-append-le s xs ys (omega (arith, e)))
      ∙ ap (λ (n : ℕ). take n (drop s xs ++ ys)) (sym len)
      ∙ take-append-add (drop s xs) ys s
      ∙ ap (λ (zs : List ℕ). zs ++ take s ys) (high_dropped s t 8 x e ∙ first)
      ∙ ap (λ (zs : List ℕ). bytes_high_first t (x % 256 ^ t) ++ zs) (high_taken s t 8 y e)
      ∙ sym (high_append t s 8 (x % 256 ^ t) (y / 256 ^ t) turned second_fits)

-- the same in bits
module _ (x y r : ℕ) (lt : r < 8) (ly : y < 2 ^ 64) where
  in_eight : r + (8 - r) ≡ 8
  in_eight = omega (arith, lt)

  bits : 256 ^ (8 - r) ≡ 2 ^ (64 - 8 * r)
  bits = let e : 8 * (8 - r) ≡ 64 - 8 * r = omega (arith, lt) in pow256 (8 - r) ∙ ap (λ (n : ℕ). 2 ^ n) e

  in_bits : x % 256 ^ (8 - r) * 256 ^ r + y / 256 ^ (8 - r) ≡ x * 2 ^ (8 * r) % 2 ^ 64 + y / 2 ^ (64 - 8 * r)
  in_bits =
      ap (λ (n : ℕ). n + y / 256 ^ (8 - r)) (sym (shifted x y r (8 - r) in_eight ly))
      ∙ ap (λ (p : ℕ). x * p % 2 ^ 64 + y / 256 ^ (8 - r)) (pow256 r)
      ∙ ap (λ (p : ℕ). x * 2 ^ (8 * r) % 2 ^ 64 + y / p) bits

  pub straddled_fits : x * 2 ^ (8 * r) % 2 ^ 64 + y / 2 ^ (64 - 8 * r) < 2 ^ 64
  straddled_fits = subst (λ (n : ℕ). n < 2 ^ 64) in_bits (both_fits x y r (8 - r) in_eight ly)

  pub straddled_is : take 8 (drop r (to_be_bytes w64 x ++ to_be_bytes w64 y)) ≡ to_be_bytes w64 (x * 2 ^ (8 * r) % 2 ^ 64 + y / 2 ^ (64 - 8 * r))
  straddled_is = two_words x y r (8 - r) in_eight ly ∙ ap (to_be_bytes w64) in_bits

-- as the code reads it
pub straddling_bytes : (w : ℕ → ℕ) (from r : ℕ) → 0 < r → r < 8 → w (from + 1) < 2 ^ 64
    → drop r (bytes_at w from (r + 8)) ≡ to_be_bytes w64 (w from * 2 ^ (8 * r) % 2 ^ 64 + w (from + 1) / 2 ^ (64 - 8 * r))
straddling_bytes w from r some lt small =
    let count : words_for (r + 8) ≡ 2 = omega (arith, some, lt) in
    let here : from + 0 ≡ from = omega arith in
    let xs = to_be_bytes w64 (w from) in
    let ys = to_be_bytes w64 (w (from + 1)) in
    let read : flat_map (to_be_bytes w64) (map (λ i. w (from + i)) (range_with_len 0 (words_for (r + 8)))) ≡ xs ++ ys =
    ap (λ (n : ℕ). flat_map (to_be_bytes w64) (map (λ i. w (from + i)) (range_with_len 0 n))) count
    ∙ ap (λ (n : ℕ). to_be_bytes w64 (w n) ++ (ys ++ [])) here ∙ ap (λ (zs : List ℕ). xs ++ zs) (append-nil ys) in
    drop-take r 8 (flat_map (to_be_bytes w64) (map (λ i. w (from + i)) (range_with_len 0 (words_for (r + 8)))))
    ∙ ap (λ (zs : List ℕ). take 8 (drop r zs)) read
    ∙ straddled_is (w from) (w (from + 1)) r lt small

pub straddling : (w : ℕ → ℕ) (from r : ℕ) → 0 < r → r < 8 → w (from + 1) < 2 ^ 64
    → from_be_bytes w64 (drop r (bytes_at w from (r + 8))) ≡ w from * 2 ^ (8 * r) % 2 ^ 64 + w (from + 1) / 2 ^ (64 - 8 * r)
straddling w from r some lt small =
    ap (from_be_bytes w64) (straddling_bytes w from r some lt small)
    ∙ from_be_bytes-to_be_bytes_8 (w from * 2 ^ (8 * r) % 2 ^ 64 + w (from + 1) / 2 ^ (64 - 8 * r)) (straddled_fits (w from) (w (from + 1)) r lt small)

-- a number's upper half
upper : (n k m : ℕ) → n < 2 ^ 64 → 4 + k ≡ 8 → m ≡ n / 2 ^ 32 → from_be_bytes w32 (take 4 (to_be_bytes w64 n)) ≡ m
upper n k m small e is =
    let four : k ≡ 4 = omega (arith, e) in
    let shift : n / 256 ^ k ≡ n / 2 ^ 32 = ap (λ (j : ℕ). n / 256 ^ j) four in
    let fits : n / 2 ^ 32 < 2 ^ 32 = omega (arith, small) in
    ap (from_be_bytes w32) (high_taken 4 k 8 n e ∙ ap (bytes_high_first 4) shift) ∙ from_be_bytes-to_be_bytes_4 (n / 2 ^ 32) fits ∙ sym is

-- four bytes of two words
pub four_of_two : (w : ℕ → ℕ) (from r : ℕ) → 0 < r → r < 8 → w (from + 1) < 2 ^ 64
    → from_be_bytes w32 (drop r (bytes_at w from (r + 4))) ≡ (w from * 2 ^ (8 * r) % 2 ^ 64 + w (from + 1) / 2 ^ (64 - 8 * r)) / 2 ^ 32
four_of_two w from r some lt small =
    let n = w from * 2 ^ (8 * r) % 2 ^ 64 + w (from + 1) / 2 ^ (64 - 8 * r) in
    ap (from_be_bytes w32)
    (ap (drop r) (sym (bytes_at_prefix w from (r + 4) (r + 8) (omega arith)))
    ∙ drop-take r 4 (bytes_at w from (r + 8))
    ∙ ap (take 4) (straddling_bytes w from r some lt small))
    ∙ upper n 4 (n / 2 ^ 32) (straddled_fits (w from) (w (from + 1)) r lt small) refl refl

-- four bytes of one word
pub four_of_one : (w : ℕ → ℕ) (from r : ℕ) → r ≤ 4 → from_be_bytes w32 (drop r (bytes_at w from (r + 4))) ≡ w from / 2 ^ (32 - 8 * r) % 2 ^ 32
four_of_one w from r le =
    let x = w from in
    let t = 4 - r in
    let eight : r + (t + 4) ≡ 8 = omega (arith, le) in
    let four : 4 + t ≡ t + 4 = omega arith in
    let bits : 8 * t ≡ 32 - 8 * r = omega (arith, le) in
    let shift : x / 256 ^ t ≡ x / 2 ^ (32 - 8 * r) = ap (λ (p : ℕ). x / p) (pow256 t ∙ ap (λ (n : ℕ). 2 ^ n) bits) in
    let y = x / 256 ^ t in
    let low : bytes_high_first 4 y ≡ bytes_high_first 4 (y % 2 ^ 32) = ap (bytes_high_first 4) (sym (rejoined y (2 ^ 32))) ∙ low_bytes 4 0 4 (y / 2 ^ 32) (y % 2 ^ 32) refl in
    let fits : y % 2 ^ 32 < 2 ^ 32 = omega arith in
    ap (from_be_bytes w32)
    (ap (drop r) (sym (bytes_at_prefix w from (r + 4) 8 (omega (arith, le))) ∙ ap (take (r + 4)) (word_bytes w from))
    ∙ drop-take r 4 (to_be_bytes w64 x)
    ∙ ap (take 4) (high_dropped r (t + 4) 8 x eight)
    ∙ high_taken 4 t (t + 4) x four
    ∙ low)
    ∙ from_be_bytes-to_be_bytes_4 (y % 2 ^ 32) fits
    ∙ ap (λ (n : ℕ). n % 2 ^ 32) shift

-- a range without its first indices
drop_map_range : (f : ℕ → ℕ) (a s n : ℕ) → drop s (map f (range_with_len a (s + n))) ≡ map f (range_with_len (a + s) n)
drop_map_range f a s n =
    let front = map f (range_with_len a s) in
    let len : s ≡ length front = sym (length-map-range_with_len f a s) in
    ap (drop s) (map_range_append f a s n)
    ∙ ap (λ (k : ℕ). drop k (front ++ map f (range_with_len (a + s) n))) len
    ∙ drop-append_seam front (map f (range_with_len (a + s) n))

past_zeros : (bs : List ℕ) (a n : ℕ) → length bs ≤ a → map (λ (k : ℕ). get_or bs k 0) (range_with_len a n) ≡ map (λ (k : ℕ). 0) (range_with_len a n)
past_zeros bs a n le = map_same (λ (k : ℕ). get_or bs k 0) (λ (k : ℕ). 0) a n (λ k ge lt. get_or_past bs k 0 (omega (arith, le, ge)))

-- the last eight bytes, shifted up with zeros after them
pub moved_up : (bs : List ℕ) (x from s last : ℕ) → last + 8 ≡ length bs → last + s ≡ from → 0 < s → s < 8 → to_be_bytes w64 x ≡ map (λ (k : ℕ). get_or bs k 0) (range_with_len last 8)
    → to_be_bytes w64 (x * 2 ^ (8 * s) % 2 ^ 64) ≡ map (λ (k : ℕ). get_or bs k 0) (range_with_len from 8)
moved_up bs x from s last end place some lt bytes =
    let b = λ (k : ℕ). get_or bs k 0 in
    let sixteen : 8 + 8 ≡ s + (16 - s) = omega (arith, lt) in
    let none : x * 2 ^ (8 * s) % 2 ^ 64 ≡ x * 2 ^ (8 * s) % 2 ^ 64 + 0 / 2 ^ (64 - 8 * s) = omega (arith, zero-div (2 ^ (64 - 8 * s))) in
    let zeros : to_be_bytes w64 0 ≡ map b (range_with_len (last + 8) 8) = sym (past_zeros bs (last + 8) 8 (omega (arith, end))) in
    ap (to_be_bytes w64) none
    ∙ sym (straddled_is x 0 s lt (omega arith))
    ∙ ap (λ (xs : List ℕ). take 8 (drop s (xs ++ to_be_bytes w64 0))) bytes
    ∙ ap (λ (ys : List ℕ). take 8 (drop s (map b (range_with_len last 8) ++ ys))) zeros
    ∙ ap (λ (zs : List ℕ). take 8 (drop s zs)) (sym (map_range_append b last 8 8))
    ∙ ap (λ (n : ℕ). take 8 (drop s (map b (range_with_len last n)))) sixteen
    ∙ ap (take 8) (drop_map_range b last s (16 - s))
    ∙ take-map-range_with_len b (last + s) (16 - s) 8 (omega (arith, lt))
    ∙ ap (λ (a : ℕ). map b (range_with_len a 8)) place
