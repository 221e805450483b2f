-- Values of integer kinds, and the ends of keys for values of literals.
use Rattle.std.proofs.Common.{◌≡◌, ℕ, ℤ, pos, false, List, [], ◌∷◌, ◌++◌, append_assoc, length, ◌≤◌, arith, Some, refl, sym, ap, Option}
use Rattle.std.specs.Str.{IsUtf8}
use Rattle.std.proofs.lemmas.Bool.Decides.{nat_tests}
use Rattle.be_value.specs.Key.{value_key}
use Rattle.be_value.specs.Name.{has_nul}
use Rattle.be_value.specs.Value.{kind_of, value_cmp}
use Rattle.be_query.specs.Grammar.{Exact}
use Rattle.be_query.specs.declared.tree.Cmp.{Cmp}
use Rattle.be_volume.specs.Query.{holds, is_true_of}
use Rattle.be_value.specs.declared.values.Kind.{Kind}
use Rattle.be_value.specs.declared.values.Kind.TheVariants as kinds
use Rattle.be_value.specs.declared.values.Value.{Value}
use Rattle.be_value.specs.declared.values.Value.TheVariants.{Cstr, Long, Llng, Mims, Rawt, Ulng, Ullg}
use Rattle.be_plan.specs.Narrow.{HasEnds, Represents}

-- The value of an integer kind with this number.
abbrev pub number_value : Kind → Option ℤ → Value
number_value kinds.Long (Some n) = Long n
number_value kinds.Llng (Some n) = Llng n
number_value kinds.Ulng (Some (pos n)) = Ulng n
number_value kinds.Ullg (Some (pos n)) = Ullg n
number_value _ _ = Ulng 0

-- In a key, a number is followed by the eight bytes of the node.
pub number_ends : (b : Value) (bytes : List ℕ) → bytes ≡ value_key b → HasEnds b bytes (0 ∷ 0 ∷ 0 ∷ 0 ∷ 0 ∷ 0 ∷ 0 ∷ 0 ∷ []) (255 ∷ 255 ∷ 255 ∷ 255 ∷ 255 ∷ 255 ∷ 255 ∷ 255 ∷ 0 ∷ [])
number_ends b bytes e = record {
  below = 0 ∷ 0 ∷ 0 ∷ 0 ∷ 0 ∷ 0 ∷ 0 ∷ [];
  last = 255 ∷ 255 ∷ 255 ∷ 255 ∷ 255 ∷ 255 ∷ 255 ∷ 255 ∷ [];
  first_is = refl;
  after_is = refl;
  least = ap (λ f. f ++ 0 ∷ 0 ∷ 0 ∷ 0 ∷ 0 ∷ 0 ∷ 0 ∷ 0 ∷ []) e;
  greatest = ap (λ f. f ++ 255 ∷ 255 ∷ 255 ∷ 255 ∷ 255 ∷ 255 ∷ 255 ∷ 255 ∷ []) e;
}

-- In a key, a string is followed by a zero byte and the eight bytes of the node.
pub text_ends : (text : List ℕ) → HasEnds (Cstr text) text (0 ∷ 0 ∷ 0 ∷ 0 ∷ 0 ∷ 0 ∷ 0 ∷ 0 ∷ 0 ∷ []) (0 ∷ 255 ∷ 255 ∷ 255 ∷ 255 ∷ 255 ∷ 255 ∷ 255 ∷ 255 ∷ 0 ∷ [])
text_ends text = record {
  below = 0 ∷ 0 ∷ 0 ∷ 0 ∷ 0 ∷ 0 ∷ 0 ∷ 0 ∷ [];
  last = 0 ∷ 255 ∷ 255 ∷ 255 ∷ 255 ∷ 255 ∷ 255 ∷ 255 ∷ 255 ∷ [];
  first_is = refl;
  after_is = refl;
  least = sym (append_assoc text (0 ∷ []) (0 ∷ 0 ∷ 0 ∷ 0 ∷ 0 ∷ 0 ∷ 0 ∷ 0 ∷ []));
  greatest = sym (append_assoc text (0 ∷ []) (255 ∷ 255 ∷ 255 ∷ 255 ∷ 255 ∷ 255 ∷ 255 ∷ 255 ∷ []));
}

-- A string that can be a value represents itself.
pub text_represents : (words : List ℕ) → length words ≤ 255 → has_nul words ≡ false → IsUtf8 words → Represents (Exact words) kinds.Cstr (Cstr words)
text_represents words short clean utf8 = record {
  is_value = (grind (arith, nat_tests, short, clean), utf8);
  kind_is = refl;
  indexable = refl;
  compares = compares;
}
  where
    compares : (op : Cmp) (value : Value) → kind_of value ≡ kinds.Cstr → holds op value (Exact words) ≡ is_true_of op (value_cmp value (Cstr words))
    compares op (Cstr text) k = refl
    compares op (Long n) k = cc
    compares op (Llng n) k = cc
    compares op (Mims n) k = cc
    compares op (Rawt n) k = cc
    compares op (Ulng n) k = cc
    compares op (Ullg n) k = cc
