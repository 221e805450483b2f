-- The order of keys is the order of their pairs.
use Rattle.std.proofs.Common.{◌≡◌, ℕ, ◌+◌, ◌*◌, ◌%◌, ◌<◌, ◌≤◌, ◌^◌, List, [], ◌∷◌, ◌++◌, Bool, true, false, arith, refl, sym, ap, ◌∙◌, IsTrue, pos, negsuc, if◌then◌else◌, append_assoc, zero, suc, ◌||◌, length, drop, length-append}
use Rattle.std.proofs.Math.Nat.{pow-succ', one-le-pow, mul-le-mul_right, suc-mul}
use Rattle.std.proofs.Math.Arith.{mod-mul}
use Rattle.std.proofs.lemmas.Int.{ints}
use Rattle.std.proofs.Math.Seq.{drop-append_seam}
use Rattle.std.specs.FinMap.{nat_cmp-IsAntisymmetric}
use Rattle.std.specs.Int.{byte_at, bytes_high_first, to_be_bytes, w32, w64}
use Rattle.std.specs.Ordering.{nat_cmp, int_cmp, ordering_then, MatchOrdering}
use Rattle.std.specs.declared.cmp.Ordering.{Ordering}
use Rattle.std.specs.declared.cmp.Ordering.TheVariants.{Less, Equal, Greater}
use Rattle.std.specs.declared.result.Result.{Result}
use Rattle.std.specs.declared.result.Result.TheVariants.{Ok, Err}
use Rattle.std.specs.Cmp.{ranked, nat_cmp_is, int_ranks}
use Rattle.std.specs.Cmp.Lexicographic.{slice_cmp}
use lib.IntN.{ℤ}
use lib.Signed.{◌<ℤ◌}
use Rattle.std.specs.Int.Signed.{mag}
use Rattle.be_value.specs.Name.{has_nul}
use Rattle.be_value.specs.Key.{key, counted, IsValue, pair_cmp}
use Rattle.be_value.specs.Value.{kind_of, is_indexable}
use Rattle.be_value.specs.declared.refusals.Refusal.{Refusal}
use Rattle.be_value.specs.declared.refusals.Refusal.TheVariants.{DataLength, HasNul}
use Rattle.be_value.specs.declared.values.Value.{Value}
use Rattle.be_value.specs.declared.values.Value.TheVariants.{Cstr, Long, Llng, Mims, Rawt, Ulng, Ullg}

-- successive comparisons may be grouped either way
then_assoc : (a b c : Ordering) → ordering_then (ordering_then a b) c ≡ ordering_then a (ordering_then b c)
then_assoc Less b c = refl
then_assoc Equal b c = refl
then_assoc Greater b c = refl

-- the last k + 1 bytes are byte k and the last k bytes
last_bytes : (k a : ℕ) → a % 256 ^ suc k ≡ byte_at k a * 256 ^ k + a % 256 ^ k
last_bytes zero a = omega arith
last_bytes (suc i) a = ap (λ w. a % w) (pow-succ' 256 (suc i)) ∙ mod-mul a {m = 256} {c = 256 ^ suc i} (omega arith) (pow_positive (suc i))
  where
    pow_positive : (k : ℕ) → 0 < 256 ^ k
    pow_positive k = omega (arith, one-le-pow k 256 (omega arith))

-- numbers with two parts are compared by the high part, then by the low one
two_parts : (w p q r s : ℕ) → r < w → s < w → nat_cmp (p * w + r) (q * w + s) ≡ ordering_then (nat_cmp p q) (nat_cmp r s)
two_parts w p q r s h g = sym (nat_cmp_is (p * w + r) (q * w + s) _ (by (nat_cmp p q) (nat_cmp r s) (ranked p q _ refl) (ranked r s _ refl)))
  where
    ahead : (a b : ℕ) → a < b → a * w + w ≤ b * w
    ahead a b lt = omega (arith, mul-le-mul_right {m = suc a} {n = b} w (omega arith), suc-mul a w)

    by : (a b : Ordering) → MatchOrdering a (p < q) (p ≡ q) (q < p) → MatchOrdering b (r < s) (r ≡ s) (s < r) →
        MatchOrdering (ordering_then a b) (p * w + r < q * w + s) (p * w + r ≡ q * w + s) (q * w + s < p * w + r)
    by Less b lt _ = omega (arith, ahead p q lt)
    by Greater b gt _ = omega (arith, ahead q p gt)
    by Equal Less eq lt = let same : p * w ≡ q * w = ap (λ n. n * w) eq in omega (arith, same, lt)
    by Equal Equal eq same_low = let same : p * w ≡ q * w = ap (λ n. n * w) eq in omega (arith, same, same_low)
    by Equal Greater eq gt = let same : p * w ≡ q * w = ap (λ n. n * w) eq in omega (arith, same, gt)

-- k bytes of two numbers, each followed by a text
pub bytes_order : (k a b : ℕ) (xs ys : List ℕ) →
    slice_cmp nat_cmp (bytes_high_first k a ++ xs) (bytes_high_first k b ++ ys) ≡ ordering_then (nat_cmp (a % 256 ^ k) (b % 256 ^ k)) (slice_cmp nat_cmp xs ys)
bytes_order zero a b xs ys =
    let low : a % 1 ≡ b % 1 = omega arith in
    let tied : Equal ≡ nat_cmp (a % 1) (b % 1) = nat_cmp_is _ _ Equal low in
    ap (λ o. ordering_then o (slice_cmp nat_cmp xs ys)) tied
bytes_order (suc k) a b xs ys =
    ap (ordering_then (nat_cmp (byte_at k a) (byte_at k b))) (bytes_order k a b xs ys)
    ∙ sym (then_assoc (nat_cmp (byte_at k a) (byte_at k b)) (nat_cmp (a % 256 ^ k) (b % 256 ^ k)) (slice_cmp nat_cmp xs ys))
    ∙ ap (λ o. ordering_then o (slice_cmp nat_cmp xs ys))
    (sym (two_parts (256 ^ k) (byte_at k a) (byte_at k b) (a % 256 ^ k) (b % 256 ^ k) (below a) (below b))
    ∙ ap (λ n. nat_cmp n (byte_at k b * 256 ^ k + b % 256 ^ k)) (sym (last_bytes k a))
    ∙ ap (nat_cmp (a % 256 ^ suc k)) (sym (last_bytes k b)))
  where
    below : (n : ℕ) → n % 256 ^ k < 256 ^ k
    below n = let positive : 1 ≤ 256 ^ k = one-le-pow k 256 (omega arith) in omega (arith, positive)

neither : (b c : Bool) → (b || c) ≡ false → c ≡ false
neither true c h = cc
neither false c h = h

-- two texts without zero bytes, each followed by a zero byte
text_order : (s t xs ys : List ℕ) → has_nul s ≡ false → has_nul t ≡ false →
    slice_cmp nat_cmp (s ++ 0 ∷ xs) (t ++ 0 ∷ ys) ≡ ordering_then (slice_cmp nat_cmp s t) (slice_cmp nat_cmp xs ys)
text_order [] [] xs ys h g = refl
text_order [] (zero ∷ t) xs ys h g = cc
text_order [] (suc n ∷ t) xs ys h g = ap (λ o. ordering_then o (slice_cmp nat_cmp xs (t ++ 0 ∷ ys))) (sym (nat_cmp_is 0 (suc n) Less (omega arith)))
text_order (zero ∷ s) [] xs ys h g = cc
text_order (suc n ∷ s) [] xs ys h g = ap (λ o. ordering_then o (slice_cmp nat_cmp (s ++ 0 ∷ xs) ys)) (sym (nat_cmp_is (suc n) 0 Greater (omega arith)))
text_order (zero ∷ s) (y ∷ t) xs ys h g = cc
text_order (suc n ∷ s) (zero ∷ t) xs ys h g = cc
text_order (suc n ∷ s) (suc m ∷ t) xs ys h g =
    ap (ordering_then (nat_cmp (suc n) (suc m))) (text_order s t xs ys (neither _ _ h) (neither _ _ g))
    ∙ sym (then_assoc (nat_cmp (suc n) (suc m)) (slice_cmp nat_cmp s t) (slice_cmp nat_cmp xs ys))

-- a value's text has no zero byte
abbrev chosen : Bool → Bool → List ℕ → Result (List ℕ) Refusal
chosen b c t = if b then Err DataLength else if c then Err HasNul else Ok t

no_nul : (b c : Bool) (t : List ℕ) → chosen b c t ≡ Ok t → c ≡ false
no_nul true c t h = cc
no_nul false true t h = cc
no_nul false false t h = refl

-- numbers are in the same order as their distances from the lowest
counted_order : (half : ℕ) (x y : ℤ) → mag x < half → mag y < half → nat_cmp (counted half x) (counted half y) ≡ int_cmp x y
counted_order half x y h g = sym (nat_cmp_is (counted half x) (counted half y) (int_cmp x y) (by (int_cmp x y) (int_ranks x y)))
  where
    rises : (x y : ℤ) → mag x < half → mag y < half → x <ℤ y → counted half x < counted half y
    rises (pos a) (pos b) h g lt = omega (arith, ints)
    rises (pos a) (negsuc b) h g lt = omega (arith, ints)
    rises (negsuc a) (pos b) h g lt = omega (arith, ints)
    rises (negsuc a) (negsuc b) h g lt = omega (arith, ints)

    by : (r : Ordering) → MatchOrdering r (x <ℤ y) (x ≡ y) (y <ℤ x) →
        MatchOrdering r (counted half x < counted half y) (counted half x ≡ counted half y) (counted half y < counted half x)
    by Less lt = rises x y h g lt
    by Equal eq = ap (counted half) eq
    by Greater gt = rises y x g h gt

-- the distance of a number that fits is below twice the half
counted_below : (half : ℕ) (x : ℤ) → mag x < half → counted half x < half + half
counted_below half (pos n) h = omega arith
counted_below half (negsuc n) h = omega arith

then_equal : (a : Ordering) → ordering_then a Equal ≡ a
then_equal Less = refl
then_equal Equal = refl
then_equal Greater = refl

-- numbers of 64 bits, and of 32, each followed by a text
number_order64 : (a b : ℕ) (xs ys : List ℕ) → a < 2 ^ 64 → b < 2 ^ 64 →
    slice_cmp nat_cmp (to_be_bytes w64 a ++ xs) (to_be_bytes w64 b ++ ys) ≡ ordering_then (nat_cmp a b) (slice_cmp nat_cmp xs ys)
number_order64 a b xs ys h g =
    let low : a % 256 ^ 8 ≡ a = omega arith in
    let high : b % 256 ^ 8 ≡ b = omega arith in
    bytes_order 8 a b xs ys ∙ ap (λ n. ordering_then (nat_cmp n (b % 256 ^ 8)) (slice_cmp nat_cmp xs ys)) low
    ∙ ap (λ n. ordering_then (nat_cmp a n) (slice_cmp nat_cmp xs ys)) high

number_order32 : (a b : ℕ) (xs ys : List ℕ) → a < 2 ^ 32 → b < 2 ^ 32 →
    slice_cmp nat_cmp (to_be_bytes w32 a ++ xs) (to_be_bytes w32 b ++ ys) ≡ ordering_then (nat_cmp a b) (slice_cmp nat_cmp xs ys)
number_order32 a b xs ys h g =
    let low : a % 256 ^ 4 ≡ a = omega arith in
    let high : b % 256 ^ 4 ≡ b = omega arith in
    bytes_order 4 a b xs ys ∙ ap (λ n. ordering_then (nat_cmp n (b % 256 ^ 4)) (slice_cmp nat_cmp xs ys)) low
    ∙ ap (λ n. ordering_then (nat_cmp a n) (slice_cmp nat_cmp xs ys)) high

-- the node's eight bytes at the end
node_order : (m n : ℕ) → m < 2 ^ 64 → n < 2 ^ 64 → slice_cmp nat_cmp (to_be_bytes w64 m) (to_be_bytes w64 n) ≡ nat_cmp m n
node_order m n h g = number_order64 m n [] [] h g ∙ then_equal (nat_cmp m n)

-- keys that end with two nodes are equal only if the nodes are
pub same_node : (xs ys : List ℕ) (m n : ℕ) → m < 2 ^ 64 → n < 2 ^ 64 → xs ++ to_be_bytes w64 m ≡ ys ++ to_be_bytes w64 n → m ≡ n
same_node xs ys m n h g e =
    let lengths : length xs ≡ length ys = omega (arith, length-append xs (to_be_bytes w64 m), length-append ys (to_be_bytes w64 n), ap length e) in
    let ends : to_be_bytes w64 m ≡ to_be_bytes w64 n =
    sym (drop-append_seam xs _) ∙ ap (drop (length xs)) e ∙ ap (λ k. drop k (ys ++ to_be_bytes w64 n)) lengths ∙ drop-append_seam ys _ in
    nat_cmp-IsAntisymmetric m n (sym (node_order m n h g) ∙ ap (λ b. slice_cmp nat_cmp b (to_be_bytes w64 n)) ends ∙ node_order n n g g ∙ sym (nat_cmp_is n n Equal refl))

pub key_order_of : (v w : Value) (m n : ℕ) → IsValue v → IsValue w → m < 2 ^ 64 → n < 2 ^ 64 →
    IsTrue (is_indexable (kind_of v)) → kind_of v ≡ kind_of w → slice_cmp nat_cmp (key v m) (key w n) ≡ pair_cmp v m w n
key_order_of (Cstr s) (Cstr t) m n p q h g i k =
    ap (λ a. slice_cmp nat_cmp a (key (Cstr t) n)) (append_assoc s (0 ∷ []) (to_be_bytes w64 m))
    ∙ ap (λ a. slice_cmp nat_cmp (s ++ 0 ∷ to_be_bytes w64 m) a) (append_assoc t (0 ∷ []) (to_be_bytes w64 n))
    ∙ text_order s t (to_be_bytes w64 m) (to_be_bytes w64 n) (no_nul _ _ s p.0) (no_nul _ _ t q.0)
    ∙ ap (ordering_then (slice_cmp nat_cmp s t)) (node_order m n h g)
key_order_of (Long a) (Long b) m n p q h g i k =
    number_order32 (counted (2 ^ 31) a) (counted (2 ^ 31) b) (to_be_bytes w64 m) (to_be_bytes w64 n)
    (counted_below (2 ^ 31) a p.sfits) (counted_below (2 ^ 31) b q.sfits)
    ∙ ap (λ o. ordering_then o (slice_cmp nat_cmp (to_be_bytes w64 m) (to_be_bytes w64 n))) (counted_order (2 ^ 31) a b p.sfits q.sfits)
    ∙ ap (ordering_then (int_cmp a b)) (node_order m n h g)
key_order_of (Llng a) (Llng b) m n p q h g i k =
    number_order64 (counted (2 ^ 63) a) (counted (2 ^ 63) b) (to_be_bytes w64 m) (to_be_bytes w64 n)
    (counted_below (2 ^ 63) a p.sfits) (counted_below (2 ^ 63) b q.sfits)
    ∙ ap (λ o. ordering_then o (slice_cmp nat_cmp (to_be_bytes w64 m) (to_be_bytes w64 n))) (counted_order (2 ^ 63) a b p.sfits q.sfits)
    ∙ ap (ordering_then (int_cmp a b)) (node_order m n h g)
key_order_of (Ulng a) (Ulng b) m n p q h g i k =
    number_order32 a b (to_be_bytes w64 m) (to_be_bytes w64 n) p q ∙ ap (ordering_then (nat_cmp a b)) (node_order m n h g)
key_order_of (Ullg a) (Ullg b) m n p q h g i k =
    number_order64 a b (to_be_bytes w64 m) (to_be_bytes w64 n) p q ∙ ap (ordering_then (nat_cmp a b)) (node_order m n h g)
key_order_of (Mims s) w m n p q h g i k = cc
key_order_of (Rawt s) w m n p q h g i k = cc
key_order_of (Cstr s) w m n p q h g i k = cc
key_order_of (Long a) w m n p q h g i k = cc
key_order_of (Llng a) w m n p q h g i k = cc
key_order_of (Ulng a) w m n p q h g i k = cc
key_order_of (Ullg a) w m n p q h g i k = cc
