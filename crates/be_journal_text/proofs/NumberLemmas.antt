-- Printed numbers are read back unchanged.
use Rattle.std.proofs.Common.{◌≡◌, ℕ, ◌+◌, ◌*◌, ◌-◌, ◌^◌, ◌<◌, ◌≤◌, true, List, [], ◌∷◌, length, fold, nat_lt, nat_le, Some, refl, ◌∙◌, rules, arith}
use Rattle.std.proofs.lemmas.Bool.Decides.{nat_tests}
use Rattle.std.proofs.lemmas.Fmt.{decimal_nonempty, digits_decimal, digits_value-decimal, length-decimal-le}
use Rattle.std.proofs.lemmas.Str.Parse.{IsNumeralModel, numerals_by_fold}
use Rattle.std.specs.Fmt.{decimal}
use Rattle.std.specs.Str.{all_ascii_digits}
use Rattle.be_value.specs.Number.{decimal_value, are_digits, word_in}

abbrev read_on : ℕ → List ℕ → ℕ
read_on n [] = n
read_on n (c ∷ cs) = read_on (10 * n + (c - 48)) cs

own : IsNumeralModel (λ ds. all_ascii_digits ds ≡ true) (read_on 0)
own = numerals_by_fold _ (search rules) read_on (search rules)

same_value : (n : ℕ) (cs : List ℕ) → fold (λ n digit. 10 * n + (digit - 48)) n cs ≡ read_on n cs
same_value n [] = refl
same_value n (c ∷ cs) = same_value (10 * n + (c - 48)) cs

pub decimal_digits : (n : ℕ) → n < 2 ^ 64 → all_ascii_digits (decimal n) ≡ true
decimal_digits n h = digits_decimal own n h

pub decimal_valued : (n : ℕ) → n < 2 ^ 64 → decimal_value (decimal n) ≡ n
decimal_valued n h = same_value 0 (decimal n) ∙ digits_value-decimal own n h

decimal_length : (n : ℕ) → n < 2 ^ 64 → length (decimal n) ≤ 20
decimal_length n h = length-decimal-le 20 n (omega arith) (omega (arith, h)) h

pub are_decimal : (n : ℕ) → n < 2 ^ 64 → are_digits (decimal n) ≡ true
are_decimal n h =
    let some : nat_le 1 (length (decimal n)) ≡ true = grind (arith, nat_tests, decimal_nonempty n h) in
    let few : nat_le (length (decimal n)) 20 ≡ true = grind (arith, nat_tests, decimal_length n h) in
    rw some (rw few (decimal_digits n h))

-- a printed number of 64 bits is read back unchanged
pub word_of_decimal : (n : ℕ) → n < 2 ^ 64 → word_in (decimal n) ≡ Some n
word_of_decimal n h =
    let small : nat_lt n (2 ^ 64) ≡ true = grind (arith, nat_tests, h) in
    rw (are_decimal n h) (rw (decimal_valued n h) (rw small refl))
