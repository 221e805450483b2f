-- The numbers that digits encode.
use Rattle.std.proofs.Common.{◌≡◌, ◌<◌, ◌≤◌, ◌^◌, ◌+◌, ◌*◌, ◌-◌, ℕ, suc, pos, Bool, true, false, List, [], ◌∷◌, Some, None, nat_lt, nat_le, length, take, drop, get_or, refl, sym, ap, ◌∙◌, ap₂, ◌&&◌, arith, cond, drop-cons}
use Rattle.std.specs.List.{fold}
use Rattle.std.specs.Option.{option_and_then, option_map}
use Rattle.std.specs.declared.option.Option.{Option}
use Rattle.std.proofs.lemmas.Bool.Decides.{nat_tests}
use Rattle.std.specs.Str.{all_ascii_digits}
use Rattle.std.proofs.lemmas.List.{drop_all, take_all, take-append-drop}
use Rattle.std.proofs.lemmas.List.Sums.{fold-append}
use Rattle.be_value.specs.Number.{are_digits, decimal_value, digits_in, negative, positive, word_in}
use lib.IntN.{neg_ℤ}

-- further digits never make a number smaller
grows : (n : ℕ) (digits : List ℕ) → n ≤ fold (λ n digit. 10 * n + (digit - 48)) n digits
grows n [] = omega arith
grows n (d ∷ digits) = omega (arith, grows (10 * n + (d - 48)) digits)

not_less : (n m : ℕ) → m ≤ n → nat_lt n m ≡ false
not_less n m h = grind (arith, nat_tests)

module _ (text : List ℕ) (i : ℕ) (h : i < length text) where
  abbrev with_next : ℕ
  with_next = 10 * decimal_value (take i text) + (get_or text i 0 - 48)

  -- the number continues after its first digits
  goes_on : decimal_value text ≡ fold (λ n digit. 10 * n + (digit - 48)) with_next (drop (suc i) text)
  goes_on =
      sym (ap decimal_value (take-append-drop i text)) ∙ fold-append (λ n digit. 10 * n + (digit - 48)) 0 (take i text) (drop i text)
      ∙ ap (fold (λ n digit. 10 * n + (digit - 48)) (decimal_value (take i text))) (drop-cons text i 0 h)

  -- if the first digits are too large, the text encodes no word, whatever follows
  pub too_large : 2 ^ 64 ≤ 10 * decimal_value (take i text) + (get_or text i 0 - 48) → None ≡ word_in text
  too_large large = none (are_digits text)
    where
      above : nat_lt (decimal_value text) (2 ^ 64) ≡ false
      above = not_less (decimal_value text) (2 ^ 64) (omega (arith, large, goes_on, grows with_next (drop (suc i) text)))

      none : (b : Bool) → None ≡ option_and_then (λ n. cond (nat_lt n (2 ^ 64)) (Some n) None) (cond b (Some (decimal_value text)) None)
      none true = sym (ap (λ t. cond t (Some (decimal_value text)) None) above)
      none false = refl

-- a text that was read to its end encodes what was read
pub encodes : (text : List ℕ) (n i : ℕ) → n ≡ decimal_value (take i text) → all_ascii_digits text ≡ all_ascii_digits (drop i text) → length text ≤ i
    → 1 ≤ length text → length text ≤ 20 → n < 2 ^ 64 → Some n ≡ word_in text
encodes text n i value digits end some few fits =
    let small : nat_lt n (2 ^ 64) ≡ true = grind (arith, nat_tests) in
    let all : all_ascii_digits text ≡ true = digits ∙ ap all_ascii_digits (drop_all i text end) in
    let whole : n ≡ decimal_value text = value ∙ ap decimal_value (take_all i text end) in
    let least : nat_le 1 (length text) ≡ true = grind (arith, nat_tests) in
    let most : nat_le (length text) 20 ≡ true = grind (arith, nat_tests) in
    let are : are_digits text ≡ true = ap₂ ◌&&◌ least (ap₂ ◌&&◌ most all) in
    let is : digits_in text ≡ Some n = ap (λ b. cond b (Some (decimal_value text)) None) are ∙ ap Some (sym whole) in
    sym (ap (option_and_then (λ m. cond (nat_lt m (2 ^ 64)) (Some m) None)) is ∙ ap (λ b. cond b (Some n) None) small)

-- an unsigned number is a word
pub positive_word : (digits : List ℕ) → positive digits ≡ option_map pos (word_in digits)
positive_word digits = by (digits_in digits)
  where
    each : (n : ℕ) (b : Bool) → cond b (Some (pos n)) None ≡ option_map pos (cond b (Some n) None)
    each n true = refl
    each n false = refl

    by : (o : Option ℕ) → option_and_then (λ n. cond (nat_lt n (2 ^ 64)) (Some (pos n)) None) o ≡ option_map pos (option_and_then (λ n. cond (nat_lt n (2 ^ 64)) (Some n) None) o)
    by None = refl
    by (Some n) = each n (nat_lt n (2 ^ 64))

-- a number after a sign is a word of at most 2^63
pub negative_word : (digits : List ℕ) → negative digits ≡ option_and_then (λ n. cond (nat_le n (2 ^ 63)) (Some (neg_ℤ (pos n))) None) (word_in digits)
negative_word digits = by (digits_in digits)
  where
    larger : (n : ℕ) → nat_lt n (2 ^ 64) ≡ false → nat_le n (2 ^ 63) ≡ false
    larger n h = grind (arith, nat_tests)

    each : (n : ℕ) (b : Bool) → nat_lt n (2 ^ 64) ≡ b → cond (nat_le n (2 ^ 63)) (Some (neg_ℤ (pos n))) None
        ≡ option_and_then (λ n. cond (nat_le n (2 ^ 63)) (Some (neg_ℤ (pos n))) None) (cond b (Some n) None)
    each n true e = refl
    each n false e = ap (λ t. cond t (Some (neg_ℤ (pos n))) None) (larger n e)

    by : (o : Option ℕ) → option_and_then (λ n. cond (nat_le n (2 ^ 63)) (Some (neg_ℤ (pos n))) None) o
        ≡ option_and_then (λ n. cond (nat_le n (2 ^ 63)) (Some (neg_ℤ (pos n))) None) (option_and_then (λ n. cond (nat_lt n (2 ^ 64)) (Some n) None) o)
    by None = refl
    by (Some n) = each n (nat_lt n (2 ^ 64)) refl
