-- A number that was written is read back, and so are bytes that follow their count.
use Rattle.std.proofs.Common.{◌≡◌, ℕ, ◌^◌, ◌<◌, Bool, true, false, nat_lt, nat_eq, List, ◌++◌, length, Some, refl, ap, ◌∙◌, append_assoc, arith}
use Rattle.std.specs.Int.{Width, w16, w32, w64, byte_len, from_be_bytes, to_be_bytes}
use Rattle.std.proofs.lemmas.Bool.{ltb-true, le-ltb, lt-ltb}
use Rattle.std.proofs.lemmas.Bool.Decides.{nat_tests}
use Rattle.std.proofs.lemmas.List.{take_at, drop_at, length-append}
use Rattle.std.proofs.lemmas.Nat.{from_be_bytes-to_be_bytes_2, from_be_bytes-to_be_bytes_4, from_be_bytes-to_be_bytes_8}
use Rattle.be_entry_bytes.specs.Encoding.{number_bytes, counted_bytes}
use Rattle.be_entry_bytes.specs.Decoding.{fixed_at, number_at, below_at, counted_at}

-- a proof by cases on the result of a test
pub choose : {P : Type 0} (b : Bool) → (b ≡ true → P) → (b ≡ false → P) → P
choose true holds fails = holds refl
choose false holds fails = fails refl

-- numbers of this width below the limit take the width's number of bytes, and are read back from
-- them
record Holds (w : Width) (limit : ℕ) : Type 0 where
  len : (n : ℕ) → length (to_be_bytes w n) ≡ byte_len w
  back : (n : ℕ) → n < limit → from_be_bytes w (to_be_bytes w n) ≡ n

holds16 : Holds w16 (2 ^ 16)
holds16 = record { len = λ n. refl; back = from_be_bytes-to_be_bytes_2 }

holds32 : Holds w32 (2 ^ 32)
holds32 = record { len = λ n. refl; back = from_be_bytes-to_be_bytes_4 }

holds64 : Holds w64 (2 ^ 64)
holds64 = record { len = λ n. refl; back = from_be_bytes-to_be_bytes_8 }

fixed_again : (w : Width) (limit : ℕ) → Holds w limit → (n : ℕ) (rest : List ℕ) → n < limit → fixed_at w (to_be_bytes w n ++ rest) ≡ Some (n, rest)
fixed_again w limit holds n rest fits =
    let len : length (to_be_bytes w n) ≡ byte_len w = holds.len n in
    let long : nat_lt (length (to_be_bytes w n ++ rest)) (byte_len w) ≡ false = le-ltb _ _ (omega (arith, length-append (to_be_bytes w n) rest)) in
    rw (long, take_at (to_be_bytes w n) rest (byte_len w) len, drop_at (to_be_bytes w n) rest (byte_len w) len, holds.back n fits) refl

in_one : (n : ℕ) (rest : List ℕ) → nat_lt n 253 ≡ true → number_at (number_bytes n ++ rest) ≡ Some (n, rest)
unfolding number_bytes number_at
in_one n rest h =
    let a : nat_eq n 253 ≡ false = grind (arith, nat_tests, h) in
    let b : nat_eq n 254 ≡ false = grind (arith, nat_tests, h) in
    let c : nat_eq n 255 ≡ false = grind (arith, nat_tests, h) in
    rw (h, a, b, c) refl

in_two : (n : ℕ) (rest : List ℕ) → nat_lt n 253 ≡ false → nat_lt n (2 ^ 16) ≡ true → number_at (number_bytes n ++ rest) ≡ Some (n, rest)
unfolding number_bytes number_at
in_two n rest h k = rw (h, k) (fixed_again w16 (2 ^ 16) holds16 n rest (ltb-true n (2 ^ 16) k))

in_four : (n : ℕ) (rest : List ℕ) → nat_lt n 253 ≡ false → nat_lt n (2 ^ 16) ≡ false → nat_lt n (2 ^ 32) ≡ true → number_at (number_bytes n ++ rest) ≡ Some (n, rest)
unfolding number_bytes number_at
in_four n rest h k l = rw (h, k, l) (fixed_again w32 (2 ^ 32) holds32 n rest (ltb-true n (2 ^ 32) l))

in_eight : (n : ℕ) (rest : List ℕ) → nat_lt n 253 ≡ false → nat_lt n (2 ^ 16) ≡ false → nat_lt n (2 ^ 32) ≡ false → n < 2 ^ 64 → number_at (number_bytes n ++ rest) ≡ Some (n, rest)
unfolding number_bytes number_at
in_eight n rest h k l fits = rw (h, k, l) (fixed_again w64 (2 ^ 64) holds64 n rest fits)

pub number_again : (n : ℕ) (rest : List ℕ) → n < 2 ^ 64 → number_at (number_bytes n ++ rest) ≡ Some (n, rest)
number_again n rest fits =
    choose (nat_lt n 253) (in_one n rest)
    (λ h. choose (nat_lt n (2 ^ 16)) (in_two n rest h)
    (λ k. choose (nat_lt n (2 ^ 32)) (in_four n rest h k) (λ l. in_eight n rest h k l fits)))

pub below_again : (limit n : ℕ) (rest : List ℕ) → n < limit → n < 2 ^ 64 → below_at limit (number_bytes n ++ rest) ≡ Some (n, rest)
unfolding below_at
below_again limit n rest below fits = rw (number_again n rest fits, lt-ltb n limit below) refl

pub counted_again : (bytes rest : List ℕ) → length bytes < 2 ^ 64 → counted_at (counted_bytes bytes ++ rest) ≡ Some (bytes, rest)
unfolding counted_bytes counted_at
counted_again bytes rest fits =
    let long : nat_lt (length (bytes ++ rest)) (length bytes) ≡ false = le-ltb _ _ (omega (arith, length-append bytes rest)) in
    ap counted_at (append_assoc (number_bytes (length bytes)) bytes rest)
    ∙ rw (number_again (length bytes) (bytes ++ rest) fits, long, take_at bytes rest (length bytes) refl, drop_at bytes rest (length bytes) refl) refl
