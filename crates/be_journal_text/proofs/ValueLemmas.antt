-- Printed kinds and values are read back unchanged.
use Rattle.std.proofs.Common.{◌≡◌, ℕ, suc, ◌+◌, ◌*◌, ◌-◌, ◌/◌, ◌%◌, ◌^◌, ◌<◌, ◌≤◌, Bool, true, false, List, [], ◌∷◌, length, nat_lt, nat_le, All, Some, Ok, pos, negsuc, refl, ap, ◌∙◌, arith}
use Rattle.std.proofs.lemmas.Bool.Decides.{nat_tests}
use Rattle.std.proofs.lemmas.Bool.{and_parts}
use Rattle.std.proofs.lemmas.Fmt.{decimal_nonempty, length-decimal-le}
use Rattle.std.proofs.lemmas.List.Elements.{All-head, All-tail}
use Rattle.std.specs.Char.{is_ascii_digit}
use Rattle.std.specs.Fmt.{decimal}
use Rattle.std.specs.Str.{all_ascii_digits}
use Rattle.be_journal.specs.Text.{hex, hex_digit}
use Rattle.be_script_language.specs.Values.{byte_in, hex_digit_in, hex_in, kind_in, signed_in, unsigned_part, value_in}
use Rattle.be_value.specs.Key.{IsValue}
use Rattle.be_value.specs.Number.{digits_in, number_in, positive}
use Rattle.be_value.specs.Value.{kind_name, kind_of}
use Rattle.be_value.specs.declared.values.Kind.{Kind}
use Rattle.be_value.specs.declared.values.Kind.TheVariants as kinds
use Rattle.be_value.specs.declared.values.Value.{Value}
use Rattle.be_value.specs.declared.values.Value.TheVariants.{Cstr, Long, Llng, Mims, Rawt, Ulng, Ullg}
use Rattle.be_journal_text.specs.History.{HasBytes}
use Rattle.be_journal_text.proofs.LineLemmas.{differs}
use Rattle.be_journal_text.proofs.NumberLemmas.{are_decimal, decimal_digits, decimal_valued, word_of_decimal}

pub kind_read : (k : Kind) → kind_in (kind_name k) ≡ Some k
kind_read kinds.Cstr = refl
kind_read kinds.Long = refl
kind_read kinds.Llng = refl
kind_read kinds.Mims = refl
kind_read kinds.Rawt = refl
kind_read kinds.Ulng = refl
kind_read kinds.Ullg = refl

digits_read : (n : ℕ) → n < 2 ^ 64 → digits_in (decimal n) ≡ Some n
digits_read n h = rw (are_decimal n h) (ap Some (decimal_valued n h))

-- a text of digits has no sign
no_sign : (ds : List ℕ) → all_ascii_digits ds ≡ true → 1 ≤ length ds → (unsigned_part ds ≡ ds) × (number_in ds ≡ positive ds)
no_sign [] h some = absurd (omega (arith, some))
no_sign (d ∷ ds) h some =
    let other = differs d 45 (and_parts (is_ascii_digit d) (all_ascii_digits ds) h).0 refl in
    (rw other refl, rw other refl)

short : (n : ℕ) → n ≤ 2 ^ 63 → nat_le (length (decimal n)) 19 ≡ true
short n h =
    let few : length (decimal n) ≤ 19 = length-decimal-le 19 n (omega arith) (omega (arith, h)) (omega (arith, h)) in
    grind (arith, nat_tests, few)

-- a number with a sign, within 64 bits
positive_read : (n : ℕ) → n < 2 ^ 63 → signed_in (decimal n) ≡ Some (pos n)
positive_read n h =
    let small : n < 2 ^ 64 = omega (arith, h) in
    let plain = no_sign (decimal n) (decimal_digits n small) (decimal_nonempty n small) in
    let few : nat_le (length (unsigned_part (decimal n))) 19 ≡ true = ap (λ l. nat_le (length l) 19) plain.0 ∙ short n (omega (arith, h)) in
    let fits : nat_lt n (2 ^ 64) ≡ true = grind (arith, nat_tests, small) in
    rw few (plain.1 ∙ rw (digits_read n small) (rw fits refl))

negative_read : (n : ℕ) → n < 2 ^ 63 → signed_in (45 ∷ decimal (suc n)) ≡ Some (negsuc n)
negative_read n h =
    let most : suc n ≤ 2 ^ 63 = omega (arith, h) in
    let fits : nat_le (suc n) (2 ^ 63) ≡ true = grind (arith, nat_tests, most) in
    rw (short (suc n) most) (rw (digits_read (suc n) (omega (arith, h))) (rw fits refl))

digit_back : (n : ℕ) → n < 16 → hex_digit_in (hex_digit n) ≡ Some n
digit_back n h = by (nat_lt n 10) refl
  where
    by : (b : Bool) → nat_lt n 10 ≡ b → hex_digit_in (hex_digit n) ≡ Some n
    by true e =
        let least : nat_le 48 (48 + n) ≡ true = grind (arith, nat_tests) in
        let most : nat_le (48 + n) 57 ≡ true = grind (arith, nat_tests, e) in
        let back : 48 + n - 48 ≡ n = omega arith in
        rw e (rw least (rw most (ap Some back)))
    by false e =
        let high : nat_le (87 + n) 57 ≡ false = grind (arith, nat_tests, e) in
        let over : nat_le 48 (87 + n) ≡ true = grind (arith, nat_tests) in
        let least : nat_le 97 (87 + n) ≡ true = grind (arith, nat_tests, e) in
        let most : nat_le (87 + n) 102 ≡ true = grind (arith, nat_tests, h) in
        let back : 87 + n - 87 ≡ n = omega arith in
        rw e (rw over (rw high (rw least (rw most (ap Some back)))))

byte_back : (b : ℕ) → b < 256 → byte_in (hex_digit (b / 16)) (hex_digit (b % 16)) ≡ Some b
byte_back b h =
    let high : b / 16 < 16 = omega (arith, h) in
    let low : b % 16 < 16 = omega arith in
    let back : 16 * (b / 16) + b % 16 ≡ b = omega arith in
    rw (digit_back (b / 16) high) (rw (digit_back (b % 16) low) (ap Some back))

-- raw bytes
hex_back : (bytes : List ℕ) → All (λ b. b < 2 ^ 8) bytes → hex_in (hex bytes) ≡ Some bytes
hex_back [] h = refl
hex_back (b ∷ bytes) h =
    let small : b < 256 = All-head (λ b. b < 2 ^ 8) b bytes h in
    rw (byte_back b small) (rw (hex_back bytes (All-tail (λ b. b < 2 ^ 8) b bytes h)) refl)

-- the word that encodes a value
abbrev pub value_word : Value → List ℕ
value_word (Cstr text) = text
value_word (Long (pos n)) = decimal n
value_word (Long (negsuc n)) = 45 ∷ decimal (suc n)
value_word (Llng (pos n)) = decimal n
value_word (Llng (negsuc n)) = 45 ∷ decimal (suc n)
value_word (Mims text) = text
value_word (Rawt bytes) = hex bytes
value_word (Ulng n) = decimal n
value_word (Ullg n) = decimal n

pub value_read : (v : Value) → IsValue v → HasBytes v → value_in (kind_of v) (value_word v) ≡ Some (Ok v)
value_read (Cstr text) is bytes = rw is.0 refl
value_read (Long (pos n)) is bytes =
    let fits : nat_lt n (2 ^ 31) ≡ true = grind (arith, nat_tests, is) in
    rw (positive_read n (omega (arith, is))) (rw fits refl)
value_read (Long (negsuc n)) is bytes =
    let fits : nat_lt n (2 ^ 31) ≡ true = grind (arith, nat_tests, is) in
    rw (negative_read n (omega (arith, is))) (rw fits refl)
value_read (Llng (pos n)) is bytes =
    let fits : nat_lt n (2 ^ 63) ≡ true = grind (arith, nat_tests, is) in
    rw (positive_read n (omega (arith, is))) (rw fits refl)
value_read (Llng (negsuc n)) is bytes =
    let fits : nat_lt n (2 ^ 63) ≡ true = grind (arith, nat_tests, is) in
    rw (negative_read n (omega (arith, is))) (rw fits refl)
value_read (Mims text) is bytes = rw is.0 refl
value_read (Rawt raw) is bytes =
    let fits : nat_lt 255 (length raw) ≡ false = grind (arith, nat_tests, is) in
    rw (hex_back raw bytes) (rw fits refl)
value_read (Ulng n) is bytes =
    let fits : nat_lt n (2 ^ 32) ≡ true = grind (arith, nat_tests, is) in
    rw (word_of_decimal n (omega (arith, is))) (rw fits refl)
value_read (Ullg n) is bytes = rw (word_of_decimal n is) refl
