-- What a comparison with the string in a key implies about the key's node.
use Rattle.std.proofs.Common.{◌≡◌, ◌-◌, ◌≤◌, ◌++◌, ◌∷◌, [], ℕ, Bool, false, List, Some, length, take, sym, ap, ◌∙◌, subst, arith, append_assoc}
use Rattle.std.specs.Int.{to_be_bytes, w64}
use Rattle.std.specs.Option.{option_map, option_map_or}
use Rattle.std.specs.Prelude.{IsUtf8}
use Rattle.std.proofs.Math.Seq.{take-append_seam}
use Rattle.std.proofs.lemmas.List.{length-append}
use Rattle.std.proofs.lemmas.Option.{same_Some}
use Rattle.be_value.specs.Key.{key, value_key, IsValue}
use Rattle.be_value.specs.Value.{kind_of}
use Rattle.be_value.specs.declared.values.Kind.TheVariants as kinds
use Rattle.be_value.specs.declared.values.Value.{Value}
use Rattle.be_value.specs.declared.values.Value.TheVariants.{Cstr, Long, Llng, Mims, Rawt, Ulng, Ullg}
use Rattle.be_query.specs.Grammar.{Leaf, Literal}
use Rattle.be_query.specs.declared.tree.Cmp.{Cmp}
use Rattle.be_volume.specs.Keys.{IsKey}
use Rattle.be_volume.specs.Query.{holds, holds_of_text, sat, sees, seen_in}
use Rattle.be_volume.specs.Reading.{attribute, index_kind}
use Rattle.be_volume.specs.Sound.{IsSound, IsPaired}
use Rattle.be_volume.specs.Volume.{State}
use Rattle.be_volume.specs.declared.maps.Index.{Index}
use Rattle.be_plan.specs.Texts.{text_in}

pub text_of_key : (text : List ℕ) (node : ℕ) → text_in (key (Cstr text) node) ≡ text
text_of_key text node =
    let tail = 0 ∷ to_be_bytes w64 node in
    let whole : key (Cstr text) node ≡ text ++ tail = append_assoc text (0 ∷ []) (to_be_bytes w64 node) in
    let len : length (text ++ tail) - 9 ≡ length text = omega (arith, length-append text tail) in
    ap text_in whole ∙ ap (λ n. take n (text ++ tail)) len ∙ take-append_seam text tail

-- A key is long enough to contain a node.
pub key_long : (s : State) (name bytes : List ℕ) → IsKey s name bytes → 8 ≤ length bytes
key_long s name bytes k = omega (arith, ap length k.is, length-append (value_key k.value) (to_be_bytes w64 k.node))

-- The string in the key of a string is valid UTF-8.
pub text_valid : (value : Value) (node : ℕ) → kind_of value ≡ kinds.Cstr → IsValue value → IsUtf8 (text_in (key value node))
text_valid (Cstr t) node kind valid = subst IsUtf8 (sym (text_of_key t node)) valid.1
text_valid (Long n) node kind valid = absurd (cc kind)
text_valid (Llng n) node kind valid = absurd (cc kind)
text_valid (Mims t) node kind valid = absurd (cc kind)
text_valid (Rawt bytes) node kind valid = absurd (cc kind)
text_valid (Ulng n) node kind valid = absurd (cc kind)
text_valid (Ullg n) node kind valid = absurd (cc kind)

module _ (op : Cmp) (literal : Literal) (text : List ℕ) (node : ℕ) (answer : Bool) (reported : IsUtf8 text → answer ≡ holds_of_text op text literal) where
  of_value : (value : Value) → kind_of value ≡ kinds.Cstr → IsValue value → text ≡ text_in (key value node) → answer ≡ holds op value literal
  of_value (Cstr t) kind valid e =
      let same : text ≡ t = e ∙ text_of_key t node in
      reported (subst IsUtf8 (sym same) valid.1) ∙ ap (λ x. holds_of_text op x literal) same
  of_value (Long n) kind valid e = cc
  of_value (Llng n) kind valid e = cc
  of_value (Mims t) kind valid e = cc
  of_value (Rawt bytes) kind valid e = cc
  of_value (Ulng n) kind valid e = cc
  of_value (Ullg n) kind valid e = cc

-- In a sound index of strings, a comparison has the same result for the string in a key as for the
-- key's node.
pub passed : (s : State) → IsSound s → (name bytes : List ℕ) (k : IsKey s name bytes) → index_kind s name ≡ Some kinds.Cstr
    → (op : Cmp) (literal : Literal) (text : List ℕ) (answer : Bool) → text ≡ text_in bytes → (IsUtf8 text → answer ≡ holds_of_text op text literal)
    → answer ≡ sat s (Leaf name op literal) k.node
passed s sound name bytes k is op literal text answer e reported =
    let paired : IsPaired s name k.index.kind k.node k.value = sound.pairs name k.index k.node k.value k.there k.paired in
    let texts : k.index.kind ≡ kinds.Cstr = same_Some _ _ (sym (ap (λ i. option_map (λ (i : Index). i.kind) i) k.there) ∙ is) in
    let seen : sees s k.node name ≡ Some k.value = ap (λ i. seen_in i (attribute s k.node name) k.node) k.there ∙ k.paired in
    of_value op literal text k.node answer reported k.value (paired.kind_is ∙ texts) paired.is_value (e ∙ ap text_in k.is)
    ∙ sym (ap (λ o. option_map_or (λ value. holds op value literal) o false) seen)
