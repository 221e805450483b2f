-- What a comparison sees of a node, given the keys of an index.
use Rattle.std.proofs.Common.{◌≡◌, ◌<◌, ◌^◌, ℕ, Bool, true, false, IsTrue, List, refl, sym, ap, ◌∙◌, subst, Some, None}
use Rattle.std.specs.Option.{option_map, option_map_or, IfSome, IfNone}
use Rattle.std.proofs.lemmas.Option.{same_Some}
use Rattle.std.specs.FinMap as map
use Rattle.std.specs.declared.option.Option.{Option}
use Rattle.be_value.specs.Key.{key, value_key, IsValue}
use Rattle.be_value.specs.Value.{kind_of, is_indexable}
use Rattle.be_value.specs.declared.values.Kind.{Kind}
use Rattle.be_value.specs.declared.values.Value.{Value}
use Rattle.be_value.proofs.KeyOrder.{same_node}
use Rattle.be_query.specs.Grammar.{Formula}
use Rattle.be_volume.specs.Query.{sat, sees, seen_in}
use Rattle.be_volume.specs.Volume.{State}
use Rattle.be_volume.specs.declared.maps.Index.{Index}
use Rattle.be_volume.specs.Keys.{IsKey}
use Rattle.be_volume.specs.Sound.{IsSound, IsPaired}
use Rattle.be_volume.specs.Reading.{attribute, index_kind}
use Rattle.be_plan.specs.Narrow.{LeavesRest, IsPair, Within, rest_true}

-- A key ends with exactly one node.
pub key_node : (v w : Value) (m n : ℕ) → m < 2 ^ 64 → n < 2 ^ 64 → key v m ≡ key w n → m ≡ n
key_node v w m n h g e = same_node (value_key v) (value_key w) m n h g e

module _ (s : State) (sound : IsSound s) (name : List ℕ) (node : ℕ) (fits : node < 2 ^ 64) where
  -- If the index contains the key of the node's attribute, that attribute is what is seen.
  pub seen_key : (value : Value) → attribute s node name ≡ Some value → IsKey s name (key value node) → Some value ≡ sees s node name
  seen_key value is k =
      let there : IsPaired s name k.index.kind k.node k.value = sound.pairs name k.index k.node k.value k.there k.paired in
      let same : k.node ≡ node = key_node k.value value k.node node there.node_fits fits (sym k.is) in
      let P : ℕ → Type 0 = λ n. attribute s n name ≡ Some k.value in
      let Q : ℕ → Type 0 = λ n. map.get k.index.pairs n ≡ Some k.value in
      let attr : attribute s node name ≡ Some k.value = subst P same there.attribute_is in
      let got : map.get k.index.pairs node ≡ Some k.value = subst Q same k.paired in
      sym is ∙ attr ∙ sym got ∙ ap (λ i. seen_in i (attribute s node name) node) (sym k.there)

  -- The node's pair in the index, if there is one.
  pair_of : (index : Index) (value : Value) (found : Option Value) → map.get s.indices name ≡ Some index → map.get index.pairs node ≡ found →
      attribute s node name ≡ Some value → (kind_of value ≡ index.kind → IsKey s name (key value node) → ⊥) → None ≡ found
  pair_of index value None there got is not = refl
  pair_of index value (Some v) there got is not =
      let paired : IsPaired s name index.kind node v = sound.pairs name index node v there got in
      let same : value ≡ v = same_Some value v (sym is ∙ paired.attribute_is) in
      absurd (not (ap kind_of same ∙ paired.kind_is)
      (record { index = index; node = node; value = v; there = there; paired = got; is = ap (λ w. key w node) same }))

  by_index : (found : Option Index) (value : Value) (kind : Kind) → map.get s.indices name ≡ found → index_kind s name ≡ Some kind →
      attribute s node name ≡ Some value → (kind_of value ≡ kind → IsKey s name (key value node) → ⊥) → None ≡ sees s node name
  by_index None value kind there has is not = cc
  by_index (Some index) value kind there has is not =
      let kinds : index.kind ≡ kind = same_Some _ _ (sym (ap (λ i. Rattle.std.specs.Option.option_map (λ (i : Index). i.kind) i) there) ∙ has) in
      pair_of index value _ there refl is (λ e. not (e ∙ kinds)) ∙ ap (λ i. seen_in i (attribute s node name) node) (sym there)

  -- If the index doesn't contain that key, or has another kind, nothing is seen.
  pub seen_none : (value : Value) (kind : Kind) → index_kind s name ≡ Some kind → attribute s node name ≡ Some value →
      (kind_of value ≡ kind → IsKey s name (key value node) → ⊥) → None ≡ sees s node name
  seen_none value kind has is not = by_index _ value kind refl has is not

-- The kind of an index is indexable.
pub kind_indexable : (s : State) → IsSound s → (name : List ℕ) (kind : Kind) → index_kind s name ≡ Some kind → IsTrue (is_indexable kind)
kind_indexable s sound name kind is = by (map.get s.indices name) refl is
  where
    by : (found : Option Index) → map.get s.indices name ≡ found → option_map (λ (i : Index). i.kind) found ≡ Some kind → IsTrue (is_indexable kind)
    by None there e = cc
    by (Some index) there e = let P : Kind → Type 0 = λ k. IsTrue (is_indexable k) in subst P (same_Some index.kind kind e) (sound.kinds name index there)

-- What is true of the node's attribute is true of what is seen, if and only if the index contains
-- the attribute's key.
module _ (s : State) (sound : IsSound s) (name : List ℕ) (node : ℕ) (fits : node < 2 ^ 64) (reported : Value → Bool) (value : Value) (kind : Kind) (is : index_kind s name ≡ Some kind)
    (there : attribute s node name ≡ Some value) where
  pub seen_by_key : reported value ≡ true → (has : Bool) → (has ≡ true → IsKey s name (key value node)) → (IsKey s name (key value node) → has ≡ true) → has ≡ option_map_or reported (sees s node name) false
  seen_by_key t true found finds = sym t ∙ ap (λ o. option_map_or reported o false) (seen_key s sound name node fits value there (found refl))
  seen_by_key t false found finds = ap (λ o. option_map_or reported o false) (seen_none s sound name node fits value kind is there (λ e k. let yes = finds k in cc))

  -- If no index can contain such a value, what is reported is false.
  pub not_indexable : is_indexable (kind_of value) ≡ false → false ≡ option_map_or reported (sees s node name) false
  not_indexable not = ap (λ o. option_map_or reported o false) (seen_none s sound name node fits value kind is there
      (λ e k.
      let Q : Kind → Type 0 = λ x. IsTrue (is_indexable x) in
      let yes : IsTrue (is_indexable (kind_of value)) = subst Q (sym e) (kind_indexable s sound name kind is) in
      cc))

-- The bytes are the key of no pair whose value has this kind.
abbrev pub NoPair : Kind → List ℕ → Type 0
NoPair kind bytes = (v : Value) (n : ℕ) → IsValue v → n < 2 ^ 64 → IsTrue (is_indexable kind) → kind_of v ≡ kind → bytes ≡ key v n → ⊥

-- The bytes are the key of no other pair.
abbrev pub OnlyPair : Kind → List ℕ → Value × ℕ → Type 0
OnlyPair kind bytes pair = (v : Value) (n : ℕ) → IsValue v → n < 2 ^ 64 → IsTrue (is_indexable kind) → kind_of v ≡ kind → bytes ≡ key v n → (pair.0 ≡ v) × (pair.1 ≡ n)

module _ (s : State) (sound : IsSound s) (name bytes : List ℕ) (k : IsKey s name bytes) (kind : Kind) (is : index_kind s name ≡ Some kind) where
  paired : IsPaired s name k.index.kind k.node k.value
  paired = sound.pairs name k.index k.node k.value k.there k.paired

  kinds : k.index.kind ≡ kind
  kinds = same_Some _ _ (sym (ap (λ i. option_map (λ (i : Index). i.kind) i) k.there) ∙ is)

  -- Every key of a sound index is the key of a pair with a value of the index's kind.
  pub some_pair : (found : Option (Value × ℕ)) → found ≡ None → IfNone found (NoPair kind bytes) → ⊥
  some_pair found e none =
      let P : Option (Value × ℕ) → Type 0 = λ r. IfNone r (NoPair kind bytes) in
      subst P e none k.value k.node paired.is_value paired.node_fits (kind_indexable s sound name kind is) (paired.kind_is ∙ kinds) k.is

  -- The value of this pair is seen for its node.
  pub seen_pair : (found : Option (Value × ℕ)) (value : Value) (node : ℕ) → found ≡ Some (value, node) → IfSome found (OnlyPair kind bytes) →
      (node ≡ k.node) × (sees s node name ≡ Some value)
  seen_pair found value node e only =
      let P : Option (Value × ℕ) → Type 0 = λ r. IfSome r (OnlyPair kind bytes) in
      let same : (value ≡ k.value) × (node ≡ k.node) =
      subst P e only k.value k.node paired.is_value paired.node_fits (kind_indexable s sound name kind is) (paired.kind_is ∙ kinds) k.is in
      (same.1, ap (λ n. sees s n name) same.1 ∙ ap (λ i. seen_in i (attribute s k.node name) k.node) k.there ∙ k.paired ∙ ap (λ v. Some v) (sym same.0))

  -- A key that ends with a node is a key of this node.
  pub own_node : (value : Value) (node : ℕ) → node < 2 ^ 64 → bytes ≡ key value node → k.node ≡ node
  own_node value node fits e = key_node k.value value k.node node paired.node_fits fits (sym k.is ∙ e)

  -- The value of a key is seen for the key's node, and both are a pair of the index.
  pub key_pair : IsPair kind k.value k.node
  key_pair = record { is_value = paired.is_value; kind_is = paired.kind_is ∙ kinds; node_fits = paired.node_fits }

  pub key_seen : sees s k.node name ≡ Some k.value
  key_seen = ap (λ i. seen_in i (attribute s k.node name) k.node) k.there ∙ k.paired

  -- The node of a key in the range satisfies the formula if it satisfies the remaining condition.
  pub left_key : (f : Formula) (low : List ℕ) (high : Option (List ℕ)) (rest : Option Formula) → LeavesRest f name kind low high rest →
      Within low high bytes → sat s f k.node ≡ rest_true s rest k.node
  left_key f low high rest leaves within =
      let P : List ℕ → Type 0 = Within low high in
      leaves s k.value k.node key_pair (subst P k.is within) key_seen
