-- The values that payloads encode: the byte of a kind, followed by the data.
use Rattle.std.proofs.Common.{◌≡◌, ℕ, suc, ◌<◌, ◌≤◌, ◌^◌, List, ◌∷◌, length, take, drop, get_or, Some, None, Ok, unwrap_or, ap, sym, ◌∙◌, refl, arith}
use Rattle.std.specs.Prelude.{IsUtf8}
use Rattle.std.specs.Int.{cast_signed, cast_unsigned, from_be_bytes, to_be_bytes, w32, w64}
use Rattle.std.specs.Option.{IfSome, IfNone, option_map, option_map_or}
use Rattle.std.specs.declared.option.Option.{Option}
use Rattle.std.proofs.Math.Facts.{Fits-lt-pow, Fits-of_z}
use Rattle.std.proofs.lemmas.Bool.Decides.{nat_tests}
use Rattle.std.proofs.lemmas.Int.{to_z-of_z}
use Rattle.std.proofs.lemmas.Nat.{from_be_bytes-to_be_bytes_4, from_be_bytes-to_be_bytes_8}
use Rattle.be_value.specs.Key.{IsValue}
use Rattle.be_value.specs.Name.{text_from}
use Rattle.be_value.specs.Value.{kind_number, kind_of}
use Rattle.be_value.specs.declared.values.Kind.{Kind}
use Rattle.be_value.specs.declared.values.Kind.TheVariants as kinds
use Rattle.be_value.specs.declared.values.Value.{Value}
use Rattle.be_value.specs.declared.values.Value.TheVariants.{Cstr, Long, Llng, Mims, Rawt, Ulng, Ullg}
use Rattle.be_paged_reading.specs.Catalog.{payload_of}

-- Numbers that are read after the first byte.
pub number32 : (payload : List ℕ) (k n r : ℕ) → n < 2 ^ 32 → payload ≡ k ∷ to_be_bytes w32 n → r ≡ from_be_bytes w32 (take 4 (drop 1 payload)) → r ≡ n
number32 payload k n r lt is e = e ∙ ap (λ p. from_be_bytes w32 (take 4 (drop 1 p))) is ∙ from_be_bytes-to_be_bytes_4 n lt

pub number64 : (payload : List ℕ) (k n r : ℕ) → n < 2 ^ 64 → payload ≡ k ∷ to_be_bytes w64 n → r ≡ from_be_bytes w64 (take 8 (drop 1 payload)) → r ≡ n
number64 payload k n r lt is e = e ∙ ap (λ p. from_be_bytes w64 (take 8 (drop 1 p))) is ∙ from_be_bytes-to_be_bytes_8 n lt

pub length32 : (payload : List ℕ) (k n : ℕ) → payload ≡ k ∷ to_be_bytes w32 n → length payload ≡ 5
length32 payload k n is = ap length is

pub length64 : (payload : List ℕ) (k n : ℕ) → payload ≡ k ∷ to_be_bytes w64 n → length payload ≡ 9
length64 payload k n is = ap length is

-- The maximum length of a string.
pub text_short : (t : List ℕ) → text_from t ≡ Ok t → length t ≤ 255
text_short t e = grind (arith, nat_tests)

-- The first byte of a payload.
pub first_of : (v : Value) → get_or (payload_of v) 0 0 ≡ kind_number (kind_of v)
first_of (Cstr t) = refl
first_of (Long n) = refl
first_of (Llng n) = refl
first_of (Mims t) = refl
first_of (Rawt t) = refl
first_of (Ulng n) = refl
first_of (Ullg n) = refl

pub some_of : (v : Value) → length (payload_of v) ≡ suc (length (drop 1 (payload_of v)))
some_of (Cstr t) = refl
some_of (Long n) = refl
some_of (Llng n) = refl
some_of (Mims t) = refl
some_of (Rawt t) = refl
some_of (Ulng n) = refl
some_of (Ullg n) = refl

numbers_differ : (a b : Kind) → kind_number a ≡ kind_number b → a ≡ b
numbers_differ kinds.Cstr kinds.Cstr e = refl
numbers_differ kinds.Long kinds.Long e = refl
numbers_differ kinds.Llng kinds.Llng e = refl
numbers_differ kinds.Mims kinds.Mims e = refl
numbers_differ kinds.Rawt kinds.Rawt e = refl
numbers_differ kinds.Ulng kinds.Ulng e = refl
numbers_differ kinds.Ullg kinds.Ullg e = refl
numbers_differ a b e = absurd (omega (arith, e))

-- The kind whose number is the first byte is the kind of the value.
pub kind_read : (payload : List ℕ) (byte : ℕ) (kind : Kind) (v : Value) → byte ≡ get_or payload 0 0 → kind_number kind ≡ byte → payload ≡ payload_of v → kind ≡ kind_of v
kind_read payload byte kind v is number e = numbers_differ kind (kind_of v) (number ∙ is ∙ ap (λ p. get_or p 0 0) e ∙ first_of v)

pub kind_reported : (r : Option Kind) (payload : List ℕ) (byte : ℕ) (v : Value) → IfSome r (λ k. kind_number k ≡ byte) → IfNone r ((k : Kind) → kind_number k ≡ byte → ⊥) → byte ≡ get_or payload 0 0 → payload ≡ payload_of v
    → r ≡ Some (kind_of v)
kind_reported None payload byte v some none is e = absurd (none (kind_of v) (sym (is ∙ ap (λ p. get_or p 0 0) e ∙ first_of v)))
kind_reported (Some k) payload byte v some none is e = ap (λ (x : Kind). Some x) (kind_read payload byte k v is some e)

pub some_kind : (a b : Kind) → Some a ≡ Some b → a ≡ b
some_kind a b e = ap (λ o. unwrap_or o a) e

module _ (payload : List ℕ) where
  -- `read` is the value with this payload.
  abbrev pub IsRead : Option Value → Type 0
  IsRead read = (v : Value) → IsValue v → payload ≡ payload_of v → read ≡ Some v

  abbrev pub IsKind : Kind → Type 0
  IsKind kind = (v : Value) → payload ≡ payload_of v → kind ≡ kind_of v

  abbrev pub ReadsText : Option (List ℕ) → Type 0
  ReadsText text = (k : ℕ) (t : List ℕ) → text_from t ≡ Ok t → IsUtf8 t → payload ≡ k ∷ t → text ≡ Some t

  abbrev pub ReadsBytes : Option (List ℕ) → Type 0
  ReadsBytes bytes = (k : ℕ) (t : List ℕ) → length t ≤ 255 → payload ≡ k ∷ t → bytes ≡ Some t

  abbrev pub Reads32 : Option ℕ → Type 0
  Reads32 number = (k n : ℕ) → n < 2 ^ 32 → payload ≡ k ∷ to_be_bytes w32 n → number ≡ Some n

  abbrev pub Reads64 : Option ℕ → Type 0
  Reads64 number = (k n : ℕ) → n < 2 ^ 64 → payload ≡ k ∷ to_be_bytes w64 n → number ≡ Some n

  pub cstr : (text : Option (List ℕ)) → IsKind kinds.Cstr → ReadsText text → IsRead (option_map Cstr text)
  cstr text reported reads (Cstr t) is e = ap (option_map Cstr) (reads 1 t is.0 is.1 e)
  cstr text reported reads v is e = let h = reported v e in cc

  pub long : (number : Option ℕ) → IsKind kinds.Long → Reads32 number → IsRead (option_map (λ n. Long (cast_signed w32 n)) number)
  long number reported reads (Long n) is e = ap (option_map (λ n. Long (cast_signed w32 n))) (reads 2 (cast_unsigned w32 n) (Fits-lt-pow {w = w32} (Fits-of_z is)) e) ∙ ap (λ m. Some (Long m)) (to_z-of_z w32 n is)
  long number reported reads v is e = let h = reported v e in cc

  pub llng : (number : Option ℕ) → IsKind kinds.Llng → Reads64 number → IsRead (option_map (λ n. Llng (cast_signed w64 n)) number)
  llng number reported reads (Llng n) is e = ap (option_map (λ n. Llng (cast_signed w64 n))) (reads 3 (cast_unsigned w64 n) (Fits-lt-pow {w = w64} (Fits-of_z is)) e) ∙ ap (λ m. Some (Llng m)) (to_z-of_z w64 n is)
  llng number reported reads v is e = let h = reported v e in cc

  pub mims : (text : Option (List ℕ)) → IsKind kinds.Mims → ReadsText text → IsRead (option_map Mims text)
  mims text reported reads (Mims t) is e = ap (option_map Mims) (reads 4 t is.0 is.1 e)
  mims text reported reads v is e = let h = reported v e in cc

  pub rawt : (bytes : Option (List ℕ)) → IsKind kinds.Rawt → ReadsBytes bytes → IsRead (option_map Rawt bytes)
  rawt bytes reported reads (Rawt t) is e = ap (option_map Rawt) (reads 5 t is e)
  rawt bytes reported reads v is e = let h = reported v e in cc

  pub ulng : (number : Option ℕ) → IsKind kinds.Ulng → Reads32 number → IsRead (option_map Ulng number)
  ulng number reported reads (Ulng n) is e = ap (option_map Ulng) (reads 6 n is e)
  ulng number reported reads v is e = let h = reported v e in cc

  pub ullg : (number : Option ℕ) → IsKind kinds.Ullg → Reads64 number → IsRead (option_map Ullg number)
  ullg number reported reads (Ullg n) is e = ap (option_map Ullg) (reads 7 n is e)
  ullg number reported reads v is e = let h = reported v e in cc

  -- What is seen of `read` is what is seen of the value with this payload.
  pub seen : {A : Type 0} (f : Value → A) (none : A) (read : Option Value) → IsRead read → (v : Value) → IsValue v → payload ≡ payload_of v → option_map_or f read none ≡ f v
  seen f none read reads v is e = ap (λ r. option_map_or f r none) (reads v is e)
