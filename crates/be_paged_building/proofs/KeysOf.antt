-- The keys of an index, as a list and as the pairs of a tree.
use Rattle.std.proofs.Common.{◌≡◌, ℕ, zero, suc, List, [], ◌∷◌, ◌++◌, get_or, Some, None, ap, sym, subst, ◌∙◌, refl, arith, inl, inr}
use Rattle.std.proofs.lemmas.Bool.{cases_eq}
use Rattle.std.proofs.lemmas.List.Elements.{All-append, All-cons, All-nil}
use Rattle.std.specs.List.{Contains}
use Rattle.std.specs.Cmp.{nat_cmp_total}
use Rattle.std.specs.FinMap as fin
use Rattle.std.specs.FinMap.{nat_cmp-IsAntisymmetric}
use Rattle.be_value.specs.Key.{key}
use Rattle.be_value.specs.declared.values.Value.{Value}
use Rattle.be_volume.specs.declared.maps.Index.{Index}
use Rattle.be_paged_reading.specs.Catalog.{IsIndexOf}
use Rattle.be_paged_reading.proofs.CatalogPairs.Items.{get_here, get_other}
use Rattle.be_tree_reading.specs.Key.{payload_at}
use Rattle.be_tree_reading.specs.Pair.{Pair}
use Rattle.be_paged_building.specs.Keys.{AreKeysOf, HaveKeys, IsKeyOf}

contains_left : {A : Type 0} (xs ys : List A) (x : A) → Contains xs x → Contains (xs ++ ys) x
contains_left [] ys x (i, lt, is) = absurd (omega (arith, lt))
contains_left (y ∷ xs) ys x (zero, lt, is) = (zero, omega arith, is)
contains_left (y ∷ xs) ys x (suc i, lt, is) =
    let rest : Contains (xs ++ ys) x = contains_left xs ys x (i, omega (arith, lt), is) in
    (suc rest.0, omega (arith, rest.1), rest.2)

contains_end : {A : Type 0} (xs : List A) (x : A) → Contains (xs ++ x ∷ []) x
contains_end [] x = (zero, omega arith, refl)
contains_end (y ∷ xs) x = let rest : Contains (xs ++ x ∷ []) x = contains_end xs x in (suc rest.0, omega (arith, rest.1), rest.2)

same_value : (a b : Value) → Some a ≡ Some b → a ≡ b
same_value a b e = cc

some_none : {A : Type 0} (v : Value) → None ≡ Some v → A
some_none v e = absurd (cc)

abbrev pub with_more : Index → ℕ → Value → Index
with_more index node value = record { kind = index.kind; pairs = fin.insert index.pairs node value }

-- the keys of an index that gains a pair
pub keys_more : (keys : List (List ℕ)) (index : Index) (node : ℕ) (value : Value) → AreKeysOf keys index → fin.get index.pairs node ≡ None
    → AreKeysOf (keys ++ key value node ∷ []) (record { kind = index.kind; pairs = fin.insert index.pairs node value })
keys_more keys index node value are none = record {
  each = λ n w there. elim (cases_eq n node) [
    | inl s ↦
        let this : value ≡ w = same_value value w (sym (ap (fin.get (fin.insert index.pairs node value)) s ∙ here) ∙ there) in
        subst (λ k. Contains (keys ++ key value node ∷ []) k) (ap (λ v. key v node) this ∙ ap (key w) (sym s)) (contains_end keys (key value node))
    | inr ne ↦ contains_left keys (key value node ∷ []) (key w n) (are.each n w (sym (other n ne) ∙ there))
  ];
  only = All-append (IsKeyOf (with_more index node value)) keys (key value node ∷ []) (λ i d lt. kept (get_or keys i d) (are.only i d lt))
      (All-cons (IsKeyOf (with_more index node value)) (key value node) [] (record { node = node; value = value; there = here; is = refl }) (All-nil (IsKeyOf (with_more index node value))));
}
  where
    here : fin.get (fin.insert index.pairs node value) node ≡ Some value
    here = get_here nat_cmp_total nat_cmp-IsAntisymmetric index.pairs node value

    other : (q : ℕ) → (q ≡ node → ⊥) → fin.get (fin.insert index.pairs node value) q ≡ fin.get index.pairs q
    other q ne = get_other nat_cmp_total nat_cmp-IsAntisymmetric index.pairs node value q ne

    kept : (k : List ℕ) → IsKeyOf index k → IsKeyOf (with_more index node value) k
    kept k p = record {
      node = p.node;
      value = p.value;
      there = other p.node (λ s. some_none p.value (sym none ∙ ap (fin.get index.pairs) (sym s) ∙ p.there)) ∙ p.there;
      is = p.is;
    }

pub keys_none : (index : Index) → ((node : ℕ) → fin.get index.pairs node ≡ None) → AreKeysOf [] index
keys_none index none = record {
  each = λ n w there. some_none w (sym (none n) ∙ there);
  only = All-nil (IsKeyOf index);
}

-- the pairs of the keys are those of the index
pub keys_indexed : (keys : List (List ℕ)) (index : Index) (pairs : List Pair) → AreKeysOf keys index → HaveKeys keys pairs → IsIndexOf pairs index
keys_indexed keys index pairs are have = record {
  each = λ node value there. have.each (key value node) (are.each node value there);
  only = λ i d lt.
      let has = have.only i d lt in
      let p = are.only has.0.0 (get_or pairs i d).key has.0.1 in
      record { node = p.node; value = p.value; there = p.there; is = sym has.0.2 ∙ p.is; empty = has.1 };
}

pub indexed_keys : (keys : List (List ℕ)) (index : Index) (pairs : List Pair) → AreKeysOf keys index → IsIndexOf pairs index → HaveKeys keys pairs
indexed_keys keys index pairs are indexed = record {
  each = λ k has.
      let p = are.only has.0 k has.1 in
      ap (payload_at pairs) (sym has.2 ∙ p.is) ∙ indexed.each p.node p.value p.there;
  only = λ i d lt.
      let p = indexed.only i d lt in
      (subst (Contains keys) (sym p.is) (are.each p.node p.value p.there), p.empty);
}
