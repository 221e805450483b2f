-- Bytes have the same order as their big-endian words.
use Rattle.std.proofs.Common.{◌≡◌, ℕ, zero, suc, ◌+◌, ◌-◌, ◌*◌, ◌/◌, ◌%◌, ◌^◌, ◌<◌, ◌≤◌, ◌⊎◌, List, [], ◌∷◌, ◌++◌, length, map, take, drop, get_or, ap, sym, subst, ◌∙◌, refl, inl, inr, arith, zero-add, drop-cons, pow-add}
use Rattle.std.specs.declared.cmp.Ordering.{Ordering}
use Rattle.std.specs.declared.cmp.Ordering.TheVariants.{Less, Equal, Greater}
use Rattle.std.specs.Ordering.{nat_cmp, ordering_then}
use Rattle.std.specs.Cmp.{nat_cmp_is}
use Rattle.std.specs.Cmp.Lexicographic.{slice_cmp}
use Rattle.std.specs.Int.{to_be_bytes, bytes_high_first, byte_at, w64}
use Rattle.std.specs.List.{flat_map, range_with_len}
use Rattle.std.proofs.Math.Nat.{div-div-eq-div-mul, div-one, pow-suc}
use Rattle.std.proofs.Math.Seq.{drop-append_seam}
use Rattle.std.proofs.lemmas.List.{drop-take, drop-drop, take-append-drop, take_all, length-take-le}
use Rattle.std.proofs.lemmas.List.FromFn.{take-map-range_with_len}
use Rattle.be_tree_reading.specs.Key.{key_cmp}
use Rattle.be_tree_reading.specs.Page.{bytes_at, item_at, key_len, words_for}
use Rattle.be_tree_reading.proofs.Codec.{flat_map_more, flat_map_length, bytes_at_prefix, key_at}
use Rattle.std.proofs.lemmas.Bool.{cases_lt, cases_eq}

-- a number without its lowest bytes
high_suc : (n j : ℕ) → n / 256 ^ suc j ≡ n / 256 ^ j / 256
high_suc n j = ap (λ (m : ℕ). n / m) (pow-suc 256 j) ∙ sym (div-div-eq-div-mul n (256 ^ j) 256)

pub byte_is : (j n : ℕ) → byte_at j n ≡ n / 256 ^ j % 256
byte_is zero n = ap (λ (m : ℕ). m % 256) (sym (div-one n))
byte_is (suc j) n = refl

pub less_cmp : (x y : ℕ) → x < y → nat_cmp x y ≡ Less
less_cmp x y lt = sym (nat_cmp_is x y Less lt)

pub same_cmp : (x y : ℕ) → x ≡ y → nat_cmp x y ≡ Equal
same_cmp x y e = sym (nat_cmp_is x y Equal e)

pub more_cmp : (x y : ℕ) → y < x → nat_cmp x y ≡ Greater
more_cmp x y gt = sym (nat_cmp_is x y Greater gt)

less_below : (a b i d : ℕ) → a / 256 ^ (d + i) < b / 256 ^ (d + i) → a / 256 ^ i < b / 256 ^ i
less_below a b i zero lt = subst (λ n. a / 256 ^ n < b / 256 ^ n) (zero-add i) lt
less_below a b i (suc d) lt =
    let e : suc d + i ≡ suc (d + i) = omega arith in
    let up = subst (λ n. a / 256 ^ n < b / 256 ^ n) e lt in
    less_below a b i d (coarse (a / 256 ^ (d + i)) (b / 256 ^ (d + i)) (subst (λ m. m < b / 256 ^ (d + i) / 256) (high_suc a (d + i)) (subst (λ m. a / 256 ^ suc (d + i) < m) (high_suc b (d + i)) up)))
  where
    coarse : (x y : ℕ) → x / 256 < y / 256 → x < y
    coarse x y lt = omega (arith, lt)

-- the first r bytes of two numbers that agree above them
pub bytes_cmp : (i r k a b : ℕ) (x y : List ℕ) → r + i ≡ k → a / 256 ^ k ≡ b / 256 ^ k
    → slice_cmp nat_cmp (take r (bytes_high_first k a) ++ x) (take r (bytes_high_first k b) ++ y) ≡ ordering_then (nat_cmp (a / 256 ^ i) (b / 256 ^ i)) (slice_cmp nat_cmp x y)
bytes_cmp i zero k a b x y e high =
    ap (λ o. ordering_then o (slice_cmp nat_cmp x y)) (sym (same_cmp (a / 256 ^ i) (b / 256 ^ i) (subst (λ n. a / 256 ^ n ≡ b / 256 ^ n) (sym (sym (zero-add i) ∙ e)) high)))
bytes_cmp i (suc r) zero a b x y e high = absurd (omega (arith, e))
bytes_cmp i (suc r) (suc k) a b x y e high =
    let down : r + i ≡ k = omega (arith, e) in
    let rest = bytes_cmp i r k a b x y down in
    let ha = high_suc a k in
    let hb = high_suc b k in
    let top : a / 256 ^ k / 256 ≡ b / 256 ^ k / 256 = sym ha ∙ high ∙ hb in
    ap (λ o. ordering_then o (slice_cmp nat_cmp (take r (bytes_high_first k a) ++ x) (take r (bytes_high_first k b) ++ y))) (ap2 (byte_is k a) (byte_is k b))
    ∙ by_byte _ (slice_cmp nat_cmp x y) (a / 256 ^ k) (b / 256 ^ k) top (cases_lt (a / 256 ^ k % 256) (b / 256 ^ k % 256)) (cases_eq (a / 256 ^ k % 256) (b / 256 ^ k % 256))
    (λ lt. less_below a b i r (subst (λ n. a / 256 ^ n < b / 256 ^ n) (sym down) lt)) (λ gt. less_below b a i r (subst (λ n. b / 256 ^ n < a / 256 ^ n) (sym down) gt)) rest
  where
    ap2 : {p q s t : ℕ} → p ≡ s → q ≡ t → nat_cmp p q ≡ nat_cmp s t
    ap2 p q = cc

    by_byte : (u v : Ordering) (p q : ℕ) → p / 256 ≡ q / 256 → ((p % 256 < q % 256) ⊎ (q % 256 ≤ p % 256)) → ((p % 256 ≡ q % 256) ⊎ (p % 256 ≡ q % 256 → ⊥))
        → (p < q → a / 256 ^ i < b / 256 ^ i) → (q < p → b / 256 ^ i < a / 256 ^ i) → (p ≡ q → u ≡ ordering_then (nat_cmp (a / 256 ^ i) (b / 256 ^ i)) v)
        → ordering_then (nat_cmp (p % 256) (q % 256)) u ≡ ordering_then (nat_cmp (a / 256 ^ i) (b / 256 ^ i)) v
    by_byte u v p q top (inl lt) eq less more same =
        ap (λ o. ordering_then o u) (less_cmp (p % 256) (q % 256) lt) ∙ sym (ap (λ o. ordering_then o v) (less_cmp (a / 256 ^ i) (b / 256 ^ i) (less (omega (arith, lt, top)))))
    by_byte u v p q top (inr ge) (inl e) less more same =
        ap (λ o. ordering_then o u) (same_cmp (p % 256) (q % 256) e) ∙ same (omega (arith, e, top))
    by_byte u v p q top (inr ge) (inr ne) less more same =
        ap (λ o. ordering_then o u) (more_cmp (p % 256) (q % 256) (omega (arith, ge, ne))) ∙ sym (ap (λ o. ordering_then o v) (more_cmp (a / 256 ^ i) (b / 256 ^ i) (more (omega (arith, ge, ne, top)))))

    div_same : (a b : ℕ) → a < 2 ^ 64 → b < 2 ^ 64 → a / 256 ^ 8 ≡ b / 256 ^ 8
    div_same a b la lb = omega (arith, la, lb)

-- the first bytes of words, compared by comparing the words without the other bytes
pub part_cmp : (r a b : ℕ) (x y : List ℕ) → r ≤ 8 → a < 2 ^ 64 → b < 2 ^ 64
    → slice_cmp nat_cmp (take r (to_be_bytes w64 a) ++ x) (take r (to_be_bytes w64 b) ++ y) ≡ ordering_then (nat_cmp (a / 256 ^ (8 - r)) (b / 256 ^ (8 - r))) (slice_cmp nat_cmp x y)
part_cmp r a b x y le la lb = bytes_cmp (8 - r) r 8 a b x y (omega (arith, le)) (div_same a b la lb)
  where
    div_same : (a b : ℕ) → a < 2 ^ 64 → b < 2 ^ 64 → a / 256 ^ 8 ≡ b / 256 ^ 8
    div_same a b la lb = omega (arith, la, lb)

-- the bytes at eight indices of a list
take_drop_range : (bs : List ℕ) (a r : ℕ) → a + r ≤ length bs → take r (drop a bs) ≡ map (λ k. get_or bs k 0) (range_with_len a r)
take_drop_range bs a zero le = refl
take_drop_range bs a (suc r) le =
    let e : suc a ≡ a + 1 = omega arith in
    ap (take (suc r)) (drop-cons bs a 0 (omega (arith, le))) ∙ ap (λ ys. get_or bs a 0 ∷ ys) (ap (λ n. take r (drop n bs)) e ∙ take_drop_range bs (a + 1) r (omega (arith, le)))

pub key_chunk : (bs : List ℕ) (w i r : ℕ) → r ≤ 8 → 8 * i + r ≤ length bs → to_be_bytes w64 w ≡ map (λ k. get_or bs k 0) (range_with_len (8 * i) 8) → take r (drop (8 * i) bs) ≡ take r (to_be_bytes w64 w)
key_chunk bs w i r le in_range bytes =
    take_drop_range bs (8 * i) r in_range ∙ sym (ap (take r) bytes ∙ take-map-range_with_len (λ k. get_or bs k 0) (8 * i) 8 r le)

pub item_chunk : (words : ℕ → ℕ) (at n i r : ℕ) → r ≤ 8 → 8 * i + r ≤ n → take r (drop (8 * i) (bytes_at words at n)) ≡ take r (to_be_bytes w64 (words (at + i)))
item_chunk words at n i zero le in_range = refl
item_chunk words at n i (suc r) le in_range =
    let m = 8 * i + suc r in
    let f = λ (j : ℕ). words (at + j) in
    let front = flat_map (to_be_bytes w64) (map f (range_with_len 0 i)) in
    let word = to_be_bytes w64 (f i) in
    let count : words_for m ≡ i + 1 = omega (arith, le) in
    let len : 8 * i ≡ length front = sym (flat_map_length f i) in
    sym (drop-take (8 * i) (suc r) (bytes_at words at n))
    ∙ ap (drop (8 * i)) (bytes_at_prefix words at m n in_range)
    ∙ drop-take (8 * i) (suc r) (flat_map (to_be_bytes w64) (map f (range_with_len 0 (words_for m))))
    ∙ ap (λ (j : ℕ). take (suc r) (drop (8 * i) (flat_map (to_be_bytes w64) (map f (range_with_len 0 j))))) count
    ∙ ap (λ xs. take (suc r) (drop (8 * i) xs)) (flat_map_more (to_be_bytes w64) f i)
    ∙ ap (λ (j : ℕ). take (suc r) (drop j (front ++ word))) len
    ∙ ap (take (suc r)) (drop-append_seam front word)

-- keys whose next bytes are the bytes of two words
pub cmp_part : (xs ys : List ℕ) (c d r a b : ℕ) → c + r ≡ d → r ≤ 8 → a < 2 ^ 64 → b < 2 ^ 64 → take r (drop c xs) ≡ take r (to_be_bytes w64 a) → take r (drop c ys) ≡ take r (to_be_bytes w64 b)
    → key_cmp (drop c xs) (drop c ys) ≡ ordering_then (nat_cmp (a / 256 ^ (8 - r)) (b / 256 ^ (8 - r))) (key_cmp (drop d xs) (drop d ys))
unfolding key_cmp
cmp_part xs ys c d r a b e le la lb ex ey =
    ap2 (parts xs (to_be_bytes w64 a) ex) (parts ys (to_be_bytes w64 b) ey) ∙ part_cmp r a b (drop d xs) (drop d ys) le la lb
  where
    ap2 : {p q s t : List ℕ} → p ≡ s → q ≡ t → slice_cmp nat_cmp p q ≡ slice_cmp nat_cmp s t
    ap2 p q = cc

    parts : (xs w : List ℕ) → take r (drop c xs) ≡ take r w → drop c xs ≡ take r w ++ drop d xs
    parts xs w same = sym (take-append-drop r (drop c xs)) ∙ ap (λ zs. zs ++ drop r (drop c xs)) same ∙ ap (λ zs. take r w ++ zs) (drop-drop r c xs ∙ ap (λ (n : ℕ). drop n xs) e)

pub cmp_word : (xs ys : List ℕ) (i a b : ℕ) → a < 2 ^ 64 → b < 2 ^ 64 → take 8 (drop (8 * i) xs) ≡ take 8 (to_be_bytes w64 a) → take 8 (drop (8 * i) ys) ≡ take 8 (to_be_bytes w64 b)
    → key_cmp (drop (8 * i) xs) (drop (8 * i) ys) ≡ ordering_then (nat_cmp a b) (key_cmp (drop (8 * (i + 1)) xs) (drop (8 * (i + 1)) ys))
cmp_word xs ys i a b la lb ex ey =
    cmp_part xs ys (8 * i) (8 * (i + 1)) 8 a b (omega arith) (omega arith) la lb ex ey ∙ ap (λ o. ordering_then o (key_cmp (drop (8 * (i + 1)) xs) (drop (8 * (i + 1)) ys))) (ap2 (div-one a) (div-one b))
  where
    ap2 : {p q s t : ℕ} → p ≡ s → q ≡ t → nat_cmp p q ≡ nat_cmp s t
    ap2 p q = cc

pub then_same : (a b : ℕ) (o : Ordering) → a ≡ b → ordering_then (nat_cmp a b) o ≡ o
then_same a b o e = ap (λ r. ordering_then r o) (same_cmp a b e)

pub then_other : (a b : ℕ) (o : Ordering) → (a ≡ b → ⊥) → ordering_then (nat_cmp a b) o ≡ nat_cmp a b
then_other a b o ne = by_order (cases_lt a b)
  where
    by_order : (a < b) ⊎ (b ≤ a) → ordering_then (nat_cmp a b) o ≡ nat_cmp a b
    by_order (inl lt) = ap (λ r. ordering_then r o) (less_cmp a b lt) ∙ sym (less_cmp a b lt)
    by_order (inr ge) = ap (λ r. ordering_then r o) (more_cmp a b (omega (arith, ge, ne))) ∙ sym (more_cmp a b (omega (arith, ge, ne)))

pub cmp_suc : (n m : ℕ) → nat_cmp n m ≡ nat_cmp (suc n) (suc m)
cmp_suc n m = by_order (cases_lt n m) (cases_eq n m)
  where
    by_order : ((n < m) ⊎ (m ≤ n)) → ((n ≡ m) ⊎ (n ≡ m → ⊥)) → nat_cmp n m ≡ nat_cmp (suc n) (suc m)
    by_order (inl lt) eq = less_cmp n m lt ∙ sym (less_cmp (suc n) (suc m) (omega (arith, lt)))
    by_order (inr ge) (inl e) = same_cmp n m e ∙ sym (same_cmp (suc n) (suc m) (ap suc e))
    by_order (inr ge) (inr ne) = more_cmp n m (omega (arith, ge, ne)) ∙ sym (more_cmp (suc n) (suc m) (omega (arith, ge, ne)))

-- if one key ends, the lengths decide
pub cmp_end : (xs ys : List ℕ) (c : ℕ) → c ≤ length xs → c ≤ length ys → ((c ≡ length xs) ⊎ (c ≡ length ys)) → key_cmp (drop c xs) (drop c ys) ≡ nat_cmp (length xs) (length ys)
unfolding key_cmp
cmp_end xs ys zero lx ly (inl e) = empty_first xs ys (sym e)
  where
    empty_first : (xs ys : List ℕ) → length xs ≡ 0 → slice_cmp nat_cmp xs ys ≡ nat_cmp (length xs) (length ys)
    empty_first [] [] e = sym (same_cmp 0 0 refl)
    empty_first [] (y ∷ ys) e = sym (less_cmp 0 (suc (length ys)) (omega arith))
    empty_first (x ∷ xs) ys e = absurd (omega (arith, e))
cmp_end xs ys zero lx ly (inr e) = empty_last xs ys (sym e)
  where
    empty_last : (xs ys : List ℕ) → length ys ≡ 0 → slice_cmp nat_cmp xs ys ≡ nat_cmp (length xs) (length ys)
    empty_last [] [] e = sym (same_cmp 0 0 refl)
    empty_last (x ∷ xs) [] e = sym (more_cmp (suc (length xs)) 0 (omega arith))
    empty_last xs (y ∷ ys) e = absurd (omega (arith, e))
cmp_end [] ys (suc c) lx ly h = absurd (omega (arith, lx))
cmp_end (x ∷ xs) [] (suc c) lx ly h = absurd (omega (arith, ly))
cmp_end (x ∷ xs) (y ∷ ys) (suc c) lx ly h = cmp_end xs ys c (omega (arith, lx)) (omega (arith, ly)) (less h) ∙ cmp_suc (length xs) (length ys)
  where
    less : (suc c ≡ length (x ∷ xs)) ⊎ (suc c ≡ length (y ∷ ys)) → (c ≡ length xs) ⊎ (c ≡ length ys)
    less (inl e) = inl (omega (arith, e))
    less (inr e) = inr (omega (arith, e))

-- powers of 256 as powers of 2
pub pow256 : (m : ℕ) → 256 ^ m ≡ 2 ^ (8 * m)
pow256 zero = refl
pow256 (suc m) =
    let e : 8 * suc m ≡ 8 * m + 8 = omega arith in
    pow-suc 256 m ∙ ap (λ (n : ℕ). n * 256) (pow256 m) ∙ sym (ap (λ (n : ℕ). 2 ^ n) e ∙ pow-add 2 (8 * m) 8)

-- a shift by whole bytes
pub byte_shift : (a r : ℕ) → r ≤ 8 → a / 256 ^ (8 - r) ≡ a / 2 ^ (64 - 8 * r)
byte_shift a r le =
    let e : 8 * (8 - r) ≡ 64 - 8 * r = omega (arith, le) in
    ap (λ (m : ℕ). a / m) (pow256 (8 - r) ∙ ap (λ (m : ℕ). 2 ^ m) e)

pub item_key_length : (w : ℕ → ℕ) (at : ℕ) → length (item_at w at).key ≡ key_len w at
item_key_length w at =
    ap length (key_at w at) ∙ length-take-le (key_len w at) (flat_map (to_be_bytes w64) (map (λ i. w (at + 1 + i)) (range_with_len 0 (words_for (key_len w at))))) (omega (arith, flat_map_length (λ i. w (at + 1 + i)) (words_for (key_len w at))))

-- an item's key and a key, compared by words that hold their bytes
module _ (w : ℕ → ℕ) (at : ℕ) (k : List ℕ) where
  mine_is : (i r : ℕ) → r ≤ 8 → 8 * i + r ≤ key_len w at → take r (drop (8 * i) (item_at w at).key) ≡ take r (to_be_bytes w64 (w (at + 1 + i)))
  mine_is i r le in_range = ap (λ xs. take r (drop (8 * i) xs)) (key_at w at) ∙ item_chunk w (at + 1) (key_len w at) i r le in_range

  pub next_word : (i mine other : ℕ) → mine ≡ w (at + 1 + i) → mine < 2 ^ 64 → other < 2 ^ 64 → to_be_bytes w64 other ≡ map (λ j. get_or k j 0) (range_with_len (8 * i) 8) → 8 * i + 8 ≤ key_len w at → 8 * i + 8 ≤ length k
      → key_cmp (drop (8 * i) (item_at w at).key) (drop (8 * i) k) ≡ ordering_then (nat_cmp mine other) (key_cmp (drop (8 * (i + 1)) (item_at w at).key) (drop (8 * (i + 1)) k))
  next_word i mine other em small fits bytes lm lo =
      cmp_word (item_at w at).key k i mine other small fits
      (mine_is i 8 (omega arith) lm ∙ ap (λ n. take 8 (to_be_bytes w64 n)) (sym em))
      (key_chunk k other i 8 (omega arith) lo bytes)

  pub last_word : (i r mine other : ℕ) → mine ≡ w (at + 1 + i) → mine < 2 ^ 64 → other < 2 ^ 64 → to_be_bytes w64 other ≡ map (λ j. get_or k j 0) (range_with_len (8 * i) 8) → r ≤ 8 → 8 * i + r ≤ key_len w at → 8 * i + r ≤ length k
      → key_cmp (drop (8 * i) (item_at w at).key) (drop (8 * i) k) ≡ ordering_then (nat_cmp (mine / 2 ^ (64 - 8 * r)) (other / 2 ^ (64 - 8 * r))) (key_cmp (drop (8 * i + r) (item_at w at).key) (drop (8 * i + r) k))
  last_word i r mine other em small fits bytes le lm lo =
      cmp_part (item_at w at).key k (8 * i) (8 * i + r) r mine other refl le small fits
      (mine_is i r le lm ∙ ap (λ n. take r (to_be_bytes w64 n)) (sym em))
      (key_chunk k other i r le lo bytes)
      ∙ ap (λ o. ordering_then o (key_cmp (drop (8 * i + r) (item_at w at).key) (drop (8 * i + r) k))) (ap2 (byte_shift mine r le) (byte_shift other r le))
    where
      ap2 : {p q s t : ℕ} → p ≡ s → q ≡ t → nat_cmp p q ≡ nat_cmp s t
      ap2 p q = cc

  pub at_end : (c : ℕ) → c ≤ key_len w at → c ≤ length k → ((c ≡ key_len w at) ⊎ (c ≡ length k)) → key_cmp (drop c (item_at w at).key) (drop c k) ≡ nat_cmp (key_len w at) (length k)
  at_end c lm lo h =
      let len = item_key_length w at in
      cmp_end (item_at w at).key k c (omega (arith, len, lm)) lo (either h) ∙ ap (λ n. nat_cmp n (length k)) len
    where
      either : (c ≡ key_len w at) ⊎ (c ≡ length k) → (c ≡ length (item_at w at).key) ⊎ (c ≡ length k)
      either (inl e) = inl (e ∙ sym (item_key_length w at))
      either (inr e) = inr e

  -- if both begin with the same word, the bytes after those that both have in that word decide
  pub beyond_first : (r first : ℕ) → first ≡ w (at + 1) → first < 2 ^ 64 → to_be_bytes w64 first ≡ map (λ j. get_or k j 0) (range_with_len 0 8) → r ≤ 8 → r ≤ key_len w at → r ≤ length k
      → key_cmp (item_at w at).key k ≡ key_cmp (drop r (item_at w at).key) (drop r k)
  beyond_first r first same small bytes le lm lo =
      let e : at + 1 ≡ at + 1 + 0 = omega arith in
      let z : 8 * 0 + r ≡ r = omega arith in
      let after = λ (n : ℕ). key_cmp (drop n (item_at w at).key) (drop n k) in
      last_word 0 r first first (same ∙ ap w e) small small bytes le (omega (arith, lm)) (omega (arith, lo))
      ∙ then_same (first / 2 ^ (64 - 8 * r)) (first / 2 ^ (64 - 8 * r)) (after (8 * 0 + r)) refl ∙ ap after z

-- a long key's first word
pub first_bytes : (w : ℕ → ℕ) (at : ℕ) → 8 ≤ key_len w at → to_be_bytes w64 (w (at + 1)) ≡ map (λ j. get_or (item_at w at).key j 0) (range_with_len 0 8)
first_bytes w at long =
    let e : at + 1 + 0 ≡ at + 1 = omega arith in
    sym (sym (take_drop_range (item_at w at).key 0 8 (omega (arith, item_key_length w at, long)))
    ∙ mine_is w at [] 0 8 (omega arith) (omega (arith, long))
    ∙ ap (λ (n : ℕ). take 8 (to_be_bytes w64 (w n))) e)

-- a short key
pub short_bytes : (w : ℕ → ℕ) (at : ℕ) → key_len w at ≤ 8 → take (key_len w at) (to_be_bytes w64 (w (at + 1))) ≡ (item_at w at).key
short_bytes w at short =
    let n = key_len w at in
    let e : at + 1 + 0 ≡ at + 1 = omega arith in
    sym (sym (take_all n (item_at w at).key (omega (arith, item_key_length w at)))
    ∙ mine_is w at [] 0 n short (omega arith)
    ∙ ap (λ (m : ℕ). take n (to_be_bytes w64 (w m))) e)
