-- Bytes compared by words padded with zeros: the first word that differs decides, otherwise the
-- lengths do.
use Rattle.std.proofs.Common.{◌≡◌, ℕ, zero, suc, ◌+◌, ◌-◌, ◌*◌, ◌/◌, ◌^◌, ◌<◌, ◌≤◌, ◌⊎◌, List, [], ◌∷◌, ◌++◌, length, map, take, drop, get_or, ap, sym, subst, ◌∙◌, refl, inl, inr, arith}
use Rattle.std.specs.declared.cmp.Ordering.{Ordering}
use Rattle.std.specs.declared.cmp.Ordering.TheVariants.{Less, Equal, Greater}
use Rattle.std.specs.Ordering.{nat_cmp, ordering_then}
use Rattle.std.specs.Cmp.Lexicographic.{slice_cmp}
use Rattle.std.specs.Int.{to_be_bytes, w64}
use Rattle.std.specs.List.{range_with_len}
use Rattle.std.proofs.Math.Nat.{div-one}
use Rattle.std.proofs.lemmas.Bool.{cases_lt}
use Rattle.std.proofs.lemmas.List.{drop-drop, take-append-drop}
use Rattle.be_tree_reading.proofs.Codec.{map_range_append}
use Rattle.be_tree_reading.proofs.Bytes.Words.{first_bytes, short_bytes, part_cmp, less_cmp, more_cmp, same_cmp, cmp_suc, then_other, then_same}
use Rattle.be_tree_reading.specs.Key.{key_cmp}
use Rattle.be_tree_reading.specs.Page.{item_at, key_len}

-- the bytes from an index on, with zeros past the end
abbrev pub padded : List ℕ → (from n : ℕ) → List ℕ
padded xs from n = map (λ k. get_or xs k 0) (range_with_len from n)

abbrev pad : ℕ → List ℕ → List ℕ
pad zero xs = []
pad (suc n) xs = get_or xs 0 0 ∷ pad n (drop 1 xs)

is_pad : (xs : List ℕ) (c n : ℕ) → padded xs c n ≡ pad n (drop c xs)
is_pad xs c zero = refl
is_pad xs c (suc n) = ap2 (head xs c) (is_pad xs (c + 1) n ∙ ap (pad n) (sym (drop-drop 1 c xs)))
  where
    ap2 : {x y : ℕ} {us vs : List ℕ} → x ≡ y → us ≡ vs → x ∷ us ≡ y ∷ vs
    ap2 p q = cc

    head : (xs : List ℕ) (c : ℕ) → get_or xs c 0 ≡ get_or (drop c xs) 0 0
    head xs zero = refl
    head [] (suc c) = refl
    head (x ∷ xs) (suc c) = head xs c

then_then : (o p q : Ordering) → ordering_then o (ordering_then p q) ≡ ordering_then (ordering_then o p) q
then_then Less p q = refl
then_then Equal p q = refl
then_then Greater p q = refl

-- zeros are never above bytes
zeros_last : (n : ℕ) (xs : List ℕ) → ordering_then (slice_cmp nat_cmp (pad n xs) (pad n [])) Greater ≡ Greater
zeros_last zero xs = refl
zeros_last (suc n) xs = by (cases_lt 0 (get_or xs 0 0)) (zeros_last n (drop 1 xs))
  where
    by : (0 < get_or xs 0 0) ⊎ (get_or xs 0 0 ≤ 0) → ordering_then (slice_cmp nat_cmp (pad n (drop 1 xs)) (pad n [])) Greater ≡ Greater → ordering_then (ordering_then (nat_cmp (get_or xs 0 0) 0) (slice_cmp nat_cmp (pad n (drop 1 xs)) (pad n []))) Greater ≡ Greater
    by (inl lt) low = ap (λ (o : Ordering). ordering_then (ordering_then o (slice_cmp nat_cmp (pad n (drop 1 xs)) (pad n []))) Greater) (more_cmp (get_or xs 0 0) 0 lt)
    by (inr le) low = ap (λ (o : Ordering). ordering_then (ordering_then o (slice_cmp nat_cmp (pad n (drop 1 xs)) (pad n []))) Greater) (same_cmp (get_or xs 0 0) 0 (omega (arith, le))) ∙ low

zeros_first : (n : ℕ) (ys : List ℕ) → ordering_then (slice_cmp nat_cmp (pad n []) (pad n ys)) Less ≡ Less
zeros_first zero ys = refl
zeros_first (suc n) ys = by (cases_lt 0 (get_or ys 0 0)) (zeros_first n (drop 1 ys))
  where
    by : (0 < get_or ys 0 0) ⊎ (get_or ys 0 0 ≤ 0) → ordering_then (slice_cmp nat_cmp (pad n []) (pad n (drop 1 ys))) Less ≡ Less → ordering_then (ordering_then (nat_cmp 0 (get_or ys 0 0)) (slice_cmp nat_cmp (pad n []) (pad n (drop 1 ys)))) Less ≡ Less
    by (inl lt) low = ap (λ (o : Ordering). ordering_then (ordering_then o (slice_cmp nat_cmp (pad n []) (pad n (drop 1 ys)))) Less) (less_cmp 0 (get_or ys 0 0) lt)
    by (inr le) low = ap (λ (o : Ordering). ordering_then (ordering_then o (slice_cmp nat_cmp (pad n []) (pad n (drop 1 ys)))) Less) (same_cmp 0 (get_or ys 0 0) (omega (arith, le))) ∙ low

-- lists are ordered by their bytes padded with zeros, then by their lengths
pad_cmp : (n : ℕ) (xs ys : List ℕ) → length ys ≤ n → slice_cmp nat_cmp xs ys ≡ ordering_then (slice_cmp nat_cmp (pad n xs) (pad n ys)) (nat_cmp (length xs) (length ys))
pad_cmp zero [] [] le = sym (same_cmp 0 0 refl)
pad_cmp (suc n) [] [] le =
    pad_cmp n [] [] (omega arith)
    ∙ ap (λ (o : Ordering). ordering_then o (nat_cmp 0 0)) (sym (then_same 0 0 (slice_cmp nat_cmp (pad n []) (pad n [])) refl))
pad_cmp n (x ∷ xs) [] le =
    sym (ap (λ (o : Ordering). ordering_then (slice_cmp nat_cmp (pad n (x ∷ xs)) (pad n [])) o) (more_cmp (suc (length xs)) 0 (omega arith)) ∙ zeros_last n (x ∷ xs))
pad_cmp zero xs (y ∷ ys) le = absurd (omega (arith, le))
pad_cmp (suc n) [] (y ∷ ys) le =
    sym (ap (λ (o : Ordering). ordering_then (slice_cmp nat_cmp (pad (suc n) []) (pad (suc n) (y ∷ ys))) o) (less_cmp 0 (suc (length ys)) (omega arith)) ∙ zeros_first (suc n) (y ∷ ys))
pad_cmp (suc n) (x ∷ xs) (y ∷ ys) le =
    let rest = slice_cmp nat_cmp (pad n xs) (pad n ys) in
    ap (ordering_then (nat_cmp x y)) (pad_cmp n xs ys (omega (arith, le)))
    ∙ ap (λ (o : Ordering). ordering_then (nat_cmp x y) (ordering_then rest o)) (cmp_suc (length xs) (length ys))
    ∙ then_then (nat_cmp x y) rest (nat_cmp (suc (length xs)) (suc (length ys)))

-- the words of two lists before number j are equal: what follows decides, within the words that
-- hold the second list and one zero
abbrev pub AreAlike : (xs ys : List ℕ) (j : ℕ) → Type 0
AreAlike xs ys j =
    slice_cmp nat_cmp xs ys ≡ ordering_then (slice_cmp nat_cmp (padded xs (8 * j) (8 * (length ys / 8 + 1 - j))) (padded ys (8 * j) (8 * (length ys / 8 + 1 - j)))) (nat_cmp (length xs) (length ys))

pub alike_first : (xs ys : List ℕ) → AreAlike xs ys 0
alike_first xs ys =
    let n = 8 * (length ys / 8 + 1 - 0) in
    pad_cmp n xs ys (omega arith)
    ∙ ap (λ (us : List ℕ). ordering_then (slice_cmp nat_cmp us (pad n ys)) (nat_cmp (length xs) (length ys))) (sym (is_pad xs 0 n))
    ∙ ap (λ (vs : List ℕ). ordering_then (slice_cmp nat_cmp (padded xs 0 n) vs) (nat_cmp (length xs) (length ys))) (sym (is_pad ys 0 n))

pub alike_end : (xs ys : List ℕ) (j : ℕ) → length ys / 8 + 1 ≤ j → AreAlike xs ys j → slice_cmp nat_cmp xs ys ≡ nat_cmp (length xs) (length ys)
alike_end xs ys j end so_far =
    let none : 8 * (length ys / 8 + 1 - j) ≡ 0 = omega (arith, end) in
    so_far ∙ ap (λ (n : ℕ). ordering_then (slice_cmp nat_cmp (padded xs (8 * j) n) (padded ys (8 * j) n)) (nat_cmp (length xs) (length ys))) none

-- the words at number j
module _ (xs ys : List ℕ) (j a b : ℕ) (lt : j < length ys / 8 + 1) (la : a < 2 ^ 64) (lb : b < 2 ^ 64)
    (ea : to_be_bytes w64 a ≡ padded xs (8 * j) 8) (eb : to_be_bytes w64 b ≡ padded ys (8 * j) 8) (so_far : AreAlike xs ys j) where
  abbrev m : ℕ
  m = length ys / 8 + 1 - (j + 1)

  chunk : (zs : List ℕ) (w : ℕ) → to_be_bytes w64 w ≡ padded zs (8 * j) 8 → padded zs (8 * j) (8 * (length ys / 8 + 1 - j)) ≡ to_be_bytes w64 w ++ padded zs (8 * (j + 1)) (8 * m)
  chunk zs w e =
      let count : 8 * (length ys / 8 + 1 - j) ≡ 8 + 8 * m = omega (arith, lt) in
      let next : 8 * j + 8 ≡ 8 * (j + 1) = omega arith in
      ap (padded zs (8 * j)) count
      ∙ map_range_append (λ k. get_or zs k 0) (8 * j) 8 (8 * m)
      ∙ ap (λ (us : List ℕ). us ++ padded zs (8 * j + 8) (8 * m)) (sym e)
      ∙ ap (λ (c : ℕ). to_be_bytes w64 w ++ padded zs c (8 * m)) next

  abbrev rest : Ordering
  rest = slice_cmp nat_cmp (padded xs (8 * (j + 1)) (8 * m)) (padded ys (8 * (j + 1)) (8 * m))

  by_word : slice_cmp nat_cmp xs ys ≡ ordering_then (ordering_then (nat_cmp a b) rest) (nat_cmp (length xs) (length ys))
  by_word =
      so_far
      ∙ ap (λ (o : Ordering). ordering_then o (nat_cmp (length xs) (length ys)))
      (ap2 (chunk xs a ea) (chunk ys b eb)
      ∙ part_cmp 8 a b (padded xs (8 * (j + 1)) (8 * m)) (padded ys (8 * (j + 1)) (8 * m)) (omega arith) la lb
      ∙ ap (λ (o : Ordering). ordering_then o rest) (ap3 (div-one a) (div-one b)))
    where
      ap2 : {p q s t : List ℕ} → p ≡ s → q ≡ t → slice_cmp nat_cmp p q ≡ slice_cmp nat_cmp s t
      ap2 p q = cc

      ap3 : {p q s t : ℕ} → p ≡ s → q ≡ t → nat_cmp p q ≡ nat_cmp s t
      ap3 p q = cc

  pub alike_next : a ≡ b → AreAlike xs ys (j + 1)
  alike_next e = by_word ∙ ap (λ (o : Ordering). ordering_then o (nat_cmp (length xs) (length ys))) (then_same a b rest e)

  pub alike_differ : (a ≡ b → ⊥) → slice_cmp nat_cmp xs ys ≡ nat_cmp a b
  alike_differ ne =
      by_word ∙ ap (λ (o : Ordering). ordering_then o (nat_cmp (length xs) (length ys))) (then_other a b rest ne) ∙ then_other a b (nat_cmp (length xs) (length ys)) ne

-- if the first words of an item's key and of another key differ, they decide
pub key_differs : (w : ℕ → ℕ) (at : ℕ) (k : List ℕ) (mine first : ℕ) → 8 ≤ key_len w at → mine ≡ w (at + 1) → mine < 2 ^ 64 → first < 2 ^ 64 → to_be_bytes w64 first ≡ padded k 0 8
    → (mine ≡ first → ⊥) → key_cmp (item_at w at).key k ≡ nat_cmp mine first
unfolding key_cmp
key_differs w at k mine first long is lm lf bytes ne =
    let xs = (item_at w at).key in
    alike_differ xs k 0 mine first (omega arith) lm lf (ap (to_be_bytes w64) is ∙ first_bytes w at long) bytes (alike_first xs k) ne

-- bytes are never below zeros
not_below : (xs : List ℕ) → slice_cmp nat_cmp xs (pad (length xs) []) ≡ Less → ⊥
not_below [] e = cc
not_below (x ∷ xs) e = by (cases_lt 0 x) (not_below xs)
  where
    zeros : Ordering
    zeros = slice_cmp nat_cmp xs (pad (length xs) [])

    never : Greater ≡ Less → ⊥
    never e = cc

    by : (0 < x) ⊎ (x ≤ 0) → (zeros ≡ Less → ⊥) → ⊥
    by (inl lt) low = never (sym (ap (λ (o : Ordering). ordering_then o zeros) (more_cmp x 0 lt)) ∙ e)
    by (inr le) low = low (sym (ap (λ (o : Ordering). ordering_then o zeros) (same_cmp x 0 (omega (arith, le)))) ∙ e)

-- a list is below another if it is below it after bytes are added to the first and zeros to the
-- other
below_pad : (xs more ys : List ℕ) → slice_cmp nat_cmp (xs ++ more) (pad (length (xs ++ more)) ys) ≡ Less → slice_cmp nat_cmp xs ys ≡ Less
below_pad [] more [] e = absurd (not_below more e)
below_pad [] more (y ∷ ys) e = refl
below_pad (x ∷ xs) more [] e = absurd (not_below (x ∷ xs ++ more) e)
below_pad (x ∷ xs) more (y ∷ ys) e = by (nat_cmp x y) (slice_cmp nat_cmp (xs ++ more) (pad (length (xs ++ more)) ys)) (slice_cmp nat_cmp xs ys) (below_pad xs more ys) e
  where
    by : (o p q : Ordering) → (p ≡ Less → q ≡ Less) → ordering_then o p ≡ Less → ordering_then o q ≡ Less
    by Less p q low e = refl
    by Equal p q low e = low e
    by Greater p q low e = e

-- an item whose first word is lower than a key's has a lower key, even if that word extends past
-- the item's key
pub key_below : (w : ℕ → ℕ) (at : ℕ) (k : List ℕ) (mine first : ℕ) → mine ≡ w (at + 1) → mine < first → first < 2 ^ 64 → to_be_bytes w64 first ≡ padded k 0 8
    → key_cmp (item_at w at).key k ≡ Less
unfolding key_cmp
key_below w at k mine first is lt lf bytes = by (cases_lt (key_len w at) 8)
  where
    lm : mine < 2 ^ 64
    lm = omega (arith, lt, lf)

    words_less : slice_cmp nat_cmp (to_be_bytes w64 mine) (pad 8 k) ≡ Less
    words_less =
        ap (slice_cmp nat_cmp (to_be_bytes w64 mine)) (sym (bytes ∙ is_pad k 0 8))
        ∙ part_cmp 8 mine first [] [] (omega arith) lm lf
        ∙ ap (λ (o : Ordering). ordering_then o Equal) (ap2 (div-one mine) (div-one first) ∙ less_cmp mine first lt)
      where
        ap2 : {p q s t : ℕ} → p ≡ s → q ≡ t → nat_cmp p q ≡ nat_cmp s t
        ap2 p q = cc

    by : (key_len w at < 8) ⊎ (8 ≤ key_len w at) → slice_cmp nat_cmp (item_at w at).key k ≡ Less
    by (inl short) =
        let n = key_len w at in
        let more = drop n (to_be_bytes w64 mine) in
        let parts : to_be_bytes w64 mine ≡ (item_at w at).key ++ more =
        sym (take-append-drop n (to_be_bytes w64 mine)) ∙ ap (λ (xs : List ℕ). xs ++ more) (ap (λ (m : ℕ). take n (to_be_bytes w64 m)) is ∙ short_bytes w at (omega (arith, short))) in
        below_pad (item_at w at).key more k (subst (λ (xs : List ℕ). slice_cmp nat_cmp xs (pad (length xs) k) ≡ Less) parts words_less)
    by (inr long) = key_differs w at k mine first long is lm lf bytes (λ e. absurd (omega (arith, e, lt))) ∙ less_cmp mine first lt
