-- The numbers at the ends of keys.
use Rattle.std.proofs.Common.{◌≡◌, ℕ, suc, ◌+◌, ◌-◌, ◌*◌, ◌/◌, ◌%◌, ◌≤◌, true, false, List, [], ◌∷◌, ◌++◌, length, drop, map, Some, ap, sym, subst, ◌∙◌, arith, append_assoc, if◌then◌else◌}
use Rattle.std.specs.List.{slice_get}
use Rattle.std.specs.declared.option.Option.{Option}
use Rattle.std.proofs.lemmas.List.{append-nil, drop-drop}
use Rattle.std.proofs.lemmas.Option.{same_Some}
use Rattle.be_tree_reading.specs.Pair.{Pair}
use Rattle.be_tree_reading.specs.Page.{bytes_at, item_at, key_len}
use Rattle.be_tree_reading.specs.Range.{AreLong, HasGot, is_past, number_of, numbers_to, pairs_to}
use Rattle.be_tree_reading.proofs.Codec.{bytes_at_later, key_at}
use Rattle.be_tree_reading.proofs.Bytes.Words.{item_key_length}

-- where a key's last eight bytes are
pub last_bytes : (w : ℕ → ℕ) (at : ℕ) → 8 ≤ key_len w at
    → drop (length (item_at w at).key - 8) (item_at w at).key ≡ drop (key_len w at % 8) (bytes_at w (at + key_len w at / 8) (key_len w at % 8 + 8))
last_bytes w at long =
    let k = key_len w at in
    let i = k / 8 - 1 in
    let r = k % 8 in
    let all : k ≡ 8 * i + (r + 8) = omega (arith, long) in
    let skip : k - 8 ≡ 8 * i + r = omega (arith, long) in
    let from : at + 1 + i ≡ at + k / 8 = omega (arith, long) in
    ap (λ (n : ℕ). drop (n - 8) (item_at w at).key) (item_key_length w at)
    ∙ ap (drop (k - 8)) (key_at w at ∙ ap (bytes_at w (at + 1)) all)
    ∙ ap (λ (n : ℕ). drop n (bytes_at w (at + 1) (8 * i + (r + 8)))) skip
    ∙ sym (drop-drop r (8 * i) (bytes_at w (at + 1) (8 * i + (r + 8))))
    ∙ ap (drop r) (bytes_at_later w (at + 1) i (r + 8))
    ∙ ap (λ (n : ℕ). drop r (bytes_at w n (r + 8))) from

-- what the pairs from the first one on contribute
in_bound : (x : Pair) (xs : List Pair) (high : Option (List ℕ)) → is_past high x.key ≡ false → numbers_to (x ∷ xs) high ≡ number_of x.key ∷ numbers_to xs high
in_bound x xs high h = ap (λ b. map (λ (y : Pair). number_of y.key) (if b then [] else x ∷ pairs_to xs high)) h

pub past_bound : (rest : List Pair) (high : Option (List ℕ)) (x : Pair) → slice_get rest 0 ≡ Some x → is_past high x.key ≡ true → numbers_to rest high ≡ []
past_bound [] high x first h = cc
past_bound (y ∷ ys) high x first h =
    let same : y ≡ x = same_Some y x first in
    ap (λ b. map (λ (z : Pair). number_of z.key) (if b then [] else y ∷ pairs_to ys high)) (ap (λ (z : Pair). is_past high z.key) same ∙ h)

-- one more number
pub got_one : (before numbers after now : List ℕ) (rest next : List Pair) (high : Option (List ℕ)) (x : Pair) (n : ℕ) → slice_get rest 0 ≡ Some x → next ≡ drop 1 rest
    → is_past high x.key ≡ false → n ≡ number_of x.key → now ≡ after ++ n ∷ [] → HasGot before numbers (numbers_to rest high) after → HasGot before numbers (numbers_to next high) now
got_one before numbers after now [] next high x n first e h is push has = cc
got_one before numbers after now (y ∷ ys) next high x n first e h is push has =
    let same : y ≡ x = same_Some y x first in
    let here : numbers_to (y ∷ ys) high ≡ n ∷ numbers_to next high =
    in_bound y ys high (ap (λ (z : Pair). is_past high z.key) same ∙ h)
    ∙ ap (λ (z : Pair). number_of z.key ∷ numbers_to ys high) same
    ∙ ap (λ m. m ∷ numbers_to ys high) (sym is)
    ∙ ap (λ zs. n ∷ numbers_to zs high) (sym e) in
    record {
      got = has.got ++ n ∷ [];
      parts = has.parts ∙ ap (λ l. has.got ++ l) here ∙ sym (append_assoc has.got (n ∷ []) (numbers_to next high));
      is = push ∙ ap (λ l. l ++ n ∷ []) has.is ∙ append_assoc before has.got (n ∷ []);
    }

-- all of the numbers
pub got_all : (before numbers left after : List ℕ) → left ≡ [] → HasGot before numbers left after → after ≡ before ++ numbers
got_all before numbers left after e has = has.is ∙ ap (λ l. before ++ l) (sym (has.parts ∙ ap (λ l. has.got ++ l) e ∙ append-nil has.got))

-- the first key and the others
pub first_long : (rest : List Pair) (x : Pair) → AreLong rest → slice_get rest 0 ≡ Some x → 8 ≤ length x.key
first_long [] x long first = cc
first_long (y ∷ ys) x long first = subst (λ (z : Pair). 8 ≤ length z.key) (same_Some y x first) (long 0 y (omega arith))

pub others_long : (rest next : List Pair) → next ≡ drop 1 rest → AreLong rest → AreLong next
others_long [] next e long = subst AreLong (sym e) long
others_long (y ∷ ys) next e long = subst AreLong (sym e) (λ i d lt. long (suc i) d (omega (arith, lt)))

pub fewer : (rest next : List Pair) (x : Pair) → slice_get rest 0 ≡ Some x → next ≡ drop 1 rest → suc (length next) ≤ length rest
fewer [] next x first e = cc
fewer (y ∷ ys) next x first e = omega (arith, ap length e)
