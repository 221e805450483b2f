-- Whether an index has a node, decided by the key of the node's attribute.
use Rattle.std.proofs.Common.{◌≡◌, ◌<◌, ◌^◌, ℕ, Bool, true, false, IsTrue, List, refl, sym, ap, ◌∙◌, subst, Some, None, is_some}
use Rattle.std.proofs.lemmas.Option.{same_Some}
use Rattle.std.specs.Option.{option_and_then}
use Rattle.std.specs.FinMap as map
use Rattle.std.specs.declared.option.Option.{Option}
use Rattle.be_value.specs.Key.{key, value_key}
use Rattle.be_value.specs.Value.{kind_of, is_indexable}
use Rattle.be_value.specs.declared.values.Kind.{Kind}
use Rattle.be_value.specs.declared.values.Value.{Value}
use Rattle.be_value.proofs.KeyOrder.{same_node}
use Rattle.be_volume.specs.Keys.{IsKey}
use Rattle.be_volume.specs.Reading.{attribute}
use Rattle.be_volume.specs.Sound.{IsSound, IsPaired}
use Rattle.be_volume.specs.Volume.{State}
use Rattle.be_volume.specs.declared.maps.Index.{Index}
use Rattle.be_volume_state.specs.Rebuilding.{is_held}

-- a pair, and the index that has it
record Pair (s : State) (name : List ℕ) (node : ℕ) : Type 0 where
  index : Index
  value : Value
  there : map.get s.indices name ≡ Some index
  paired : map.get index.pairs node ≡ Some value

module _ (s : State) (sound : IsSound s) (node : ℕ) (name : List ℕ) where
  pair_of : is_held s node name ≡ true → Pair s name node
  pair_of h = by (map.get s.indices name) refl h
    where
      inner : (i : Index) → map.get s.indices name ≡ Some i → (v : Option Value) → map.get i.pairs node ≡ v → is_some v ≡ true → Pair s name node
      inner i there None got e = cc
      inner i there (Some v) got e = record { index = i; value = v; there = there; paired = got }

      by : (found : Option Index) → map.get s.indices name ≡ found → is_some (option_and_then (λ (i : Index). map.get i.pairs node) found) ≡ true → Pair s name node
      by None there e = cc
      by (Some i) there e = inner i there (map.get i.pairs node) refl e

  not_held : (is_held s node name ≡ true → ⊥) → false ≡ is_held s node name
  not_held h = by (is_held s node name) refl
    where
      by : (b : Bool) → is_held s node name ≡ b → false ≡ b
      by true e = absurd (h e)
      by false e = refl

  -- if the node has no such attribute, the index has no pair of it
  pub without : attribute s node name ≡ None → false ≡ is_held s node name
  without none = not_held (λ h.
      let p = pair_of h in
      let is : IsPaired s name p.index.kind node p.value = sound.pairs name p.index node p.value p.there p.paired in
      let never : None ≡ Some p.value = sym none ∙ is.attribute_is in
      cc)

  module _ (value : Value) (has : attribute s node name ≡ Some value) where
    value_is : (p : Pair s name node) → p.value ≡ value
    value_is p =
        let is : IsPaired s name p.index.kind node p.value = sound.pairs name p.index node p.value p.there p.paired in
        same_Some p.value value (sym is.attribute_is ∙ has)

    -- no index has a value that isn't indexable
    pub unfit : is_indexable (kind_of value) ≡ false → false ≡ is_held s node name
    unfit not = not_held (λ h.
        let p = pair_of h in
        let is : IsPaired s name p.index.kind node p.value = sound.pairs name p.index node p.value p.there p.paired in
        let ix : IsTrue (is_indexable p.index.kind) = sound.kinds name p.index p.there in
        let K : Kind → Type 0 = λ k. IsTrue (is_indexable k) in
        let B : Bool → Type 0 = λ b. IsTrue b in
        let both : false ≡ true = subst B not (subst K (sym is.kind_is ∙ ap kind_of (value_is p)) ix) in
        cc)

    module _ (fits : node < 2 ^ 64) where
      by_key : IsKey s name (key value node) → is_held s node name ≡ true
      by_key k =
          let there : IsPaired s name k.index.kind k.node k.value = sound.pairs name k.index k.node k.value k.there k.paired in
          let same : k.node ≡ node = same_node (value_key k.value) (value_key value) k.node node there.node_fits fits (sym k.is) in
          let Q : ℕ → Type 0 = λ n. map.get k.index.pairs n ≡ Some k.value in
          ap (λ (o : Option Index). is_some (option_and_then (λ (i : Index). map.get i.pairs node) o)) k.there ∙ ap is_some (subst Q same k.paired)

      key_of_pair : is_held s node name ≡ true → IsKey s name (key value node)
      key_of_pair h =
          let p = pair_of h in
          record { index = p.index; node = node; value = p.value; there = p.there; paired = p.paired; is = ap (λ v. key v node) (sym (value_is p)) }

      -- otherwise the key decides
      pub reported : (r : Bool) → (r ≡ true → IsKey s name (key value node)) → (IsKey s name (key value node) → r ≡ true) → r ≡ is_held s node name
      reported true found finds = sym (by_key (found refl))
      reported false found finds = not_held (λ h. let never : false ≡ true = finds (key_of_pair h) in cc)
