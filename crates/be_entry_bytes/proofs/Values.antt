-- A name and a value that were written are read back.
use Rattle.std.proofs.Common.{◌≡◌, ℕ, zero, suc, ◌^◌, ◌≤◌, List, ◌∷◌, ◌++◌, length, Some, None, Ok, Result, refl, sym, ap, ◌∙◌, arith}
use Rattle.std.specs.Prelude.{pos, negsuc, IsUtf8, IfSome, IfNone}
use Rattle.std.specs.Result.{result_ok}
use Rattle.std.specs.Str.{is_utf8}
use Rattle.std.specs.declared.option.Option.{Option}
use Rattle.std.proofs.lemmas.Bool.{le-ltb}
use Rattle.std.proofs.lemmas.Bool.Decides.{nat_tests}
use Rattle.std.proofs.lemmas.Str.{is_utf8-from_IsUtf8, IsUtf8-from_is_utf8}
use Rattle.be_value.specs.Key.{IsValue}
use Rattle.be_value.specs.Name.{name_from, text_from}
use Rattle.be_value.specs.Value.{kind_number}
use Rattle.be_value.specs.declared.refusals.Refusal.{Refusal}
use Rattle.be_value.specs.declared.values.Kind.{Kind}
use Rattle.be_value.specs.declared.values.Kind.TheVariants as kinds
use Rattle.be_value.specs.declared.values.Value.{Value}
use Rattle.be_value.specs.declared.values.Value.TheVariants.{Cstr, Long, Llng, Mims, Rawt, Ulng, Ullg}
use Rattle.be_volume.specs.Sound.{IsName}
use Rattle.be_entry_bytes.specs.Encoding.{counted_bytes, value_bytes}
use Rattle.be_entry_bytes.specs.Decoding.{◌>>=◌, text_in, name_at, text_at, raw_at, kind_numbered, kind_at, number_value_at, value_at}
use Rattle.be_entry_bytes.proofs.Numbers.{choose, number_again, below_again, counted_again}

pub name_short : (name : List ℕ) → name_from name ≡ Ok name → length name ≤ 63
name_short name is = grind (arith, nat_tests)

pub text_short : (text : List ℕ) → text_from text ≡ Ok text → length text ≤ 255
text_short text is = grind (arith, nat_tests)

-- the text that bytes encode, if they are valid UTF-8
pub encodes : (bytes text : List ℕ) → text ≡ bytes → IsUtf8 bytes → Some text ≡ text_in bytes
encodes bytes text same is = rw (is_utf8-from_IsUtf8 bytes is) (ap (λ (t : List ℕ). Some t) same)

pub encodes_none : (bytes : List ℕ) → (IsUtf8 bytes → ⊥) → None ≡ text_in bytes
encodes_none bytes isnt = choose (is_utf8 bytes) (λ h. absurd (isnt (IsUtf8-from_is_utf8 bytes h))) (λ h. rw h refl)

pub name_again : (name rest : List ℕ) → IsName name → name_at (counted_bytes name ++ rest) ≡ Some (name, rest)
unfolding name_at
name_again name rest is =
    let short : length name ≤ 63 = name_short name is.0 in
    rw (counted_again name rest (omega (arith, short)), is_utf8-from_IsUtf8 name is.1)
    (ap (λ (r : Result (List ℕ) Refusal). result_ok r >>= (λ x. Some (x, rest))) is.0)

pub text_again : (text rest : List ℕ) → text_from text ≡ Ok text → IsUtf8 text → text_at (counted_bytes text ++ rest) ≡ Some (text, rest)
unfolding text_at
text_again text rest is utf8 =
    let short : length text ≤ 255 = text_short text is in
    rw (counted_again text rest (omega (arith, short)), is_utf8-from_IsUtf8 text utf8)
    (ap (λ (r : Result (List ℕ) Refusal). result_ok r >>= (λ x. Some (x, rest))) is)

pub raw_again : (raw rest : List ℕ) → length raw ≤ 255 → raw_at (counted_bytes raw ++ rest) ≡ Some (raw, rest)
unfolding raw_at
raw_again raw rest short = rw (counted_again raw rest (omega (arith, short)), le-ltb 255 (length raw) short) refl

kind_back : (kind : Kind) → kind_numbered (kind_number kind) ≡ Some kind
unfolding kind_numbered
kind_back kinds.Cstr = refl
kind_back kinds.Long = refl
kind_back kinds.Llng = refl
kind_back kinds.Mims = refl
kind_back kinds.Rawt = refl
kind_back kinds.Ulng = refl
kind_back kinds.Ullg = refl

none_numbered : (n : ℕ) → ((kind : Kind) → kind_number kind ≡ n → ⊥) → None ≡ kind_numbered n
unfolding kind_numbered
none_numbered zero none = refl
none_numbered (suc zero) none = absurd (none kinds.Cstr refl)
none_numbered (suc (suc zero)) none = absurd (none kinds.Long refl)
none_numbered (suc (suc (suc zero))) none = absurd (none kinds.Llng refl)
none_numbered (suc (suc (suc (suc zero)))) none = absurd (none kinds.Mims refl)
none_numbered (suc (suc (suc (suc (suc zero))))) none = absurd (none kinds.Rawt refl)
none_numbered (suc (suc (suc (suc (suc (suc zero)))))) none = absurd (none kinds.Ulng refl)
none_numbered (suc (suc (suc (suc (suc (suc (suc zero))))))) none = absurd (none kinds.Ullg refl)
none_numbered (suc (suc (suc (suc (suc (suc (suc (suc n)))))))) none = refl

-- the kind with a number is the kind that be_value finds
pub kind_found : (found : Option Kind) (n : ℕ) → IfSome found (λ kind. kind_number kind ≡ n) → IfNone found ((kind : Kind) → kind_number kind ≡ n → ⊥) → found ≡ kind_numbered n
kind_found None n some none = none_numbered n none
kind_found (Some kind) n some none = sym (kind_back kind) ∙ ap kind_numbered some

pub kind_again : (kind : Kind) (rest : List ℕ) → kind_at (kind_number kind ∷ rest) ≡ Some (kind, rest)
unfolding kind_at
kind_again kind rest = rw (kind_back kind) refl

pub value_again : (v : Value) (rest : List ℕ) → IsValue v → value_at (value_bytes v ++ rest) ≡ Some (v, rest)
unfolding value_bytes value_at number_value_at
value_again (Cstr text) rest is = rw (text_again text rest is.0 is.1) refl
value_again (Long (pos n)) rest is = rw (below_again (2 ^ 31) n rest (omega (arith, is)) (omega (arith, is))) refl
value_again (Long (negsuc n)) rest is = rw (below_again (2 ^ 31) n rest (omega (arith, is)) (omega (arith, is))) refl
value_again (Llng (pos n)) rest is = rw (below_again (2 ^ 63) n rest (omega (arith, is)) (omega (arith, is))) refl
value_again (Llng (negsuc n)) rest is = rw (below_again (2 ^ 63) n rest (omega (arith, is)) (omega (arith, is))) refl
value_again (Mims text) rest is = rw (text_again text rest is.0 is.1) refl
value_again (Rawt raw) rest is = rw (raw_again raw rest is) refl
value_again (Ulng n) rest is = rw (below_again (2 ^ 32) n rest is (omega (arith, is))) refl
value_again (Ullg n) rest is = rw (number_again n rest is) refl
