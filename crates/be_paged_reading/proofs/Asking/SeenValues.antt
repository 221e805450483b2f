-- What a comparison sees of a node: its attribute, if the index contains the key of that attribute.
use Rattle.std.proofs.Common.{◌≡◌, ℕ, ◌<◌, ◌^◌, Bool, true, false, ◌&&◌, IsTrue, List, Some, None, ap, sym, subst, ◌∙◌, refl, is_some}
use Rattle.std.specs.Option.{option_map_or}
use Rattle.std.specs.declared.option.Option.{Option}
use Rattle.std.specs.FinMap as fin
use Rattle.be_value.specs.Key.{key}
use Rattle.be_value.specs.Value.{kind_of, is_indexable}
use Rattle.be_value.specs.declared.values.Kind.{Kind}
use Rattle.be_value.specs.declared.values.Value.{Value}
use Rattle.be_tree_reading.specs.Key.{payload_at}
use Rattle.be_tree_reading.specs.Pair.{Pair}
use Rattle.be_volume.specs.Keys.{IsKey}
use Rattle.be_volume.specs.Query.{sees, seen_in}
use Rattle.be_volume.specs.Reading.{attribute, index_kind}
use Rattle.be_volume.specs.Sound.{IsSound}
use Rattle.be_volume.specs.Volume.{State}
use Rattle.be_volume.specs.declared.maps.Index.{Index}
use Rattle.be_plan.proofs.Seen.{seen_key, seen_none, kind_indexable}
use Rattle.be_paged_reading.specs.Source.{has_pair}

second_true : (a b : Bool) → (a && b) ≡ true → b ≡ true
second_true true b e = e
second_true false b e = cc

not_both : (a b : Bool) → IsTrue a → b ≡ true → (a && b) ≡ false → ⊥
not_both true true x y z = cc
not_both true false x y z = cc
not_both false b x y z = cc

module _ (s : State) (sound : IsSound s) (name : List ℕ) (node : ℕ) (reported : Value → Bool) where
  pair_false : (index : Index) → fin.get s.indices name ≡ Some index → option_map_or reported (attribute s node name) false ≡ false →
      (v : Option Value) → fin.get index.pairs node ≡ v → false ≡ option_map_or reported v false
  pair_false index there h None e = refl
  pair_false index there h (Some v) e = sym (ap (λ o. option_map_or reported o false) (sym ((sound.pairs name index node v there e).attribute_is)) ∙ h)

  false_in : (found : Option Index) → fin.get s.indices name ≡ found → option_map_or reported (attribute s node name) false ≡ false →
      false ≡ option_map_or reported (seen_in found (attribute s node name) node) false
  false_in None there h = sym h
  false_in (Some index) there h = pair_false index there h (fin.get index.pairs node) refl

  -- What is false of the node's attribute is false of what the comparison sees.
  pub seen_false : option_map_or reported (attribute s node name) false ≡ false → false ≡ option_map_or reported (sees s node name) false
  seen_false h = false_in (fin.get s.indices name) refl h

  -- Without an index, the comparison sees the attribute.
  pub seen_plain : fin.get s.indices name ≡ None → option_map_or reported (attribute s node name) false ≡ true → true ≡ option_map_or reported (sees s node name) false
  seen_plain none h = sym (ap (λ i. option_map_or reported (seen_in i (attribute s node name) node) false) none ∙ h)

  module _ (items : List Pair) (kind : Kind) (fits : node < 2 ^ 64) (is : index_kind s name ≡ Some kind) (found : (k : List ℕ) → is_some (payload_at items k) ≡ true → IsKey s name k)
      (finds : (k : List ℕ) → IsKey s name k → is_some (payload_at items k) ≡ true) where
    by_pair : (v : Value) → attribute s node name ≡ Some v → reported v ≡ true → (b : Bool) → has_pair items node v ≡ b → b ≡ option_map_or reported (sees s node name) false
    by_pair v e h true t =
        sym h ∙ ap (λ o. option_map_or reported o false) (seen_key s sound name node fits v e (found (key v node) (second_true (is_indexable (kind_of v)) (is_some (payload_at items (key v node))) t)))
    by_pair v e h false t =
        ap (λ o. option_map_or reported o false) (seen_none s sound name node fits v kind is e
        (λ same k.
        let Q : Kind → Type 0 = λ x. IsTrue (is_indexable x) in
        not_both (is_indexable (kind_of v)) (is_some (payload_at items (key v node))) (subst Q (sym same) (kind_indexable s sound name kind is)) (finds (key v node) k) t))

    -- With an index, the comparison sees the attribute if the index contains its key.
    pub seen_indexed : (a : Option Value) → attribute s node name ≡ a → option_map_or reported a false ≡ true → option_map_or (has_pair items node) a false ≡ option_map_or reported (sees s node name) false
    seen_indexed None e h = cc
    seen_indexed (Some v) e h = by_pair v e h (has_pair items node v) refl
