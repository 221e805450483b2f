-- The keys of an index after the pair of a node was removed or added.
use Rattle.std.proofs.Common.{◌≡◌, ℕ, ◌<◌, ◌^◌, List, [], get_or, Some, None, ap, sym, subst, ◌∙◌, inl, inr}
use Rattle.std.proofs.lemmas.Bool.{cases_eq}
use Rattle.std.specs.Cmp.{nat_cmp_total}
use Rattle.std.specs.Ordering.{nat_cmp}
use Rattle.std.specs.FinMap as fin
use Rattle.std.specs.FinMap.{FinMap, nat_cmp-IsAntisymmetric, same_map}
use Rattle.be_value.specs.Key.{key, value_key}
use Rattle.be_value.specs.declared.values.Value.{Value}
use Rattle.be_value.proofs.KeyOrder.{same_node}
use Rattle.be_tree_reading.specs.Pair.{Pair}
use Rattle.be_tree_reading.specs.Key.{payload_at, put, without}
use Rattle.be_volume.specs.Indices.{unpaired}
use Rattle.be_volume.specs.declared.maps.Index.{Index}
use Rattle.be_paged_reading.specs.Catalog.{IsPairOf, IsIndexOf}
use Rattle.be_paged_reading.proofs.CatalogPairs.Items.{put_here, put_other, all_put, without_other, all_without, get_here, get_other, gone_here, gone_other}

-- A key determines its node.
pub key_last : (v w : Value) (m n : ℕ) → m < 2 ^ 64 → n < 2 ^ 64 → key v m ≡ key w n → m ≡ n
key_last v w m n p q e = same_node (value_key v) (value_key w) m n p q e

some_none : {A : Type 0} (v : Value) → None ≡ Some v → A
some_none v e = absurd (cc)

same_value : (a b : Value) → Some a ≡ Some b → a ≡ b
same_value a b e = cc

same_key : {a b : Value} {m n : ℕ} → a ≡ b → m ≡ n → key a m ≡ key b n
same_key {a} {b} {m} {n} p q = ap (λ (v : Value). key v m) p ∙ ap (key b) q

abbrev Pairs : Type 0
Pairs = FinMap nat_cmp Value

here : (m : Pairs) (k : ℕ) (v : Value) → fin.get (fin.insert m k v) k ≡ Some v
here m k v = get_here nat_cmp_total nat_cmp-IsAntisymmetric m k v

other : (m : Pairs) (k q : ℕ) (v : Value) → (q ≡ k → ⊥) → fin.get (fin.insert m k v) q ≡ fin.get m q
other m k q v ne = get_other nat_cmp_total nat_cmp-IsAntisymmetric m k v q ne

gone : (m : Pairs) (k : ℕ) → fin.get (fin.remove m k) k ≡ None
gone m k = gone_here nat_cmp_total nat_cmp-IsAntisymmetric m k

left : (m : Pairs) (k q : ℕ) → (q ≡ k → ⊥) → fin.get (fin.remove m k) q ≡ fin.get m q
left m k q ne = gone_other nat_cmp_total nat_cmp-IsAntisymmetric m k q ne

abbrev pub Fits : Index → Type 0
Fits index = (n : ℕ) (value : Value) → fin.get index.pairs n ≡ Some value → n < 2 ^ 64

abbrev with_value : Index → ℕ → Value → Index
with_value index node value = record { kind = index.kind; pairs = fin.insert index.pairs node value }

-- Removing a key, which is that of the node if the node has one.
pub index_without : (items : List Pair) (index : Index) (node : ℕ) (old : Value) (k : List ℕ) → node < 2 ^ 64 → Fits index → ((w : Value) → fin.get index.pairs node ≡ Some w → w ≡ old)
    → k ≡ key old node → IsIndexOf items index → IsIndexOf (without k items) (unpaired index node)
index_without items index node old k fits small only is h = record {
  each = λ n w e. elim (cases_eq n node) [
    | inl same ↦ some_none w (sym (ap (fin.get (fin.remove index.pairs node)) same ∙ gone index.pairs node) ∙ e)
    | inr ne ↦
        let f = sym (left index.pairs node n ne) ∙ e in
        without_other k (key w n) items (λ s. ne (sym (key_last old w node n fits (small n w f) (sym is ∙ s)))) ∙ h.each n w f
  ];
  only = all_without (IsPairOf index) (IsPairOf (unpaired index node)) k items (λ x ne p. record {
    node = p.node;
    value = p.value;
    there = left index.pairs node p.node (λ s. ne (p.is ∙ same_key (only p.value (sym (ap (fin.get index.pairs) s) ∙ p.there)) s ∙ sym is)) ∙ p.there;
    is = p.is;
    empty = p.empty;
  }) h.only;
}

-- Nothing changes for a node without a pair.
pub index_bare : (items : List Pair) (index : Index) (node : ℕ) → fin.get index.pairs node ≡ None → IsIndexOf items index → IsIndexOf items (unpaired index node)
index_bare items index node none h = record {
  each = λ n w e. h.each n w (keeps n ∙ e);
  only = λ i d lt. let p = h.only i d lt in record { node = p.node; value = p.value; there = sym (keeps p.node) ∙ p.there; is = p.is; empty = p.empty };
}
  where
    keeps : (n : ℕ) → fin.get index.pairs n ≡ fin.get (fin.remove index.pairs node) n
    keeps n = elim (cases_eq n node) [
      | inl s ↦ ap (fin.get index.pairs) s ∙ none ∙ sym (ap (fin.get (fin.remove index.pairs node)) s ∙ gone index.pairs node)
      | inr ne ↦ sym (left index.pairs node n ne)
    ]

-- Adding a key for a node without a pair.
pub index_with : (items : List Pair) (index : Index) (node : ℕ) (v : Value) (pair : Pair) → node < 2 ^ 64 → Fits index → pair.key ≡ key v node → pair.payload ≡ [] → IsIndexOf items (unpaired index node)
    → IsIndexOf (put pair items) (with_value index node v)
index_with items index node v pair fits small is empty h = record {
  each = λ n w e. elim (cases_eq n node) [
    | inl s ↦
        let this = same_value v w (sym (ap (fin.get (fin.insert index.pairs node v)) s ∙ here index.pairs node v) ∙ e) in
        ap (payload_at (put pair items)) (ap (key w) s ∙ ap (λ x. key x node) (sym this) ∙ sym is) ∙ put_here pair items ∙ ap Some empty
    | inr ne ↦
        let f = sym (other index.pairs node n v ne) ∙ e in
        put_other pair (key w n) items (λ s. ne (sym (key_last v w node n fits (small n w f) (sym is ∙ s)))) ∙ h.each n w (left index.pairs node n ne ∙ f)
  ];
  only = all_put (IsPairOf (with_value index node v)) pair items
      (record { node = node; value = v; there = here index.pairs node v; is = is; empty = empty })
      (λ i d lt. moved (get_or items i d) (h.only i d lt));
}
  where
    moved : (x : Pair) → IsPairOf (unpaired index node) x → IsPairOf (with_value index node v) x
    moved x p =
        let ne : p.node ≡ node → ⊥ = λ s. some_none p.value (sym (gone index.pairs node) ∙ ap (fin.get (fin.remove index.pairs node)) (sym s) ∙ p.there) in
        record {
          node = p.node;
          value = p.value;
          there = other index.pairs node p.node v ne ∙ sym (left index.pairs node p.node ne) ∙ p.there;
          is = p.is;
          empty = p.empty;
        }

-- A pair that is already there doesn't have to be added.
pub index_still : (items : List Pair) (index : Index) (node : ℕ) (v : Value) → fin.get index.pairs node ≡ Some v → IsIndexOf items index → IsIndexOf items (with_value index node v)
index_still items index node v at h = subst (λ (m : Pairs). IsIndexOf items (record { kind = index.kind; pairs = m })) (same_map nat_cmp_total nat_cmp-IsAntisymmetric index.pairs (fin.insert index.pairs node v) same) h
  where
    same : (q : ℕ) → fin.get index.pairs q ≡ fin.get (fin.insert index.pairs node v) q
    same q = elim (cases_eq q node) [
      | inl s ↦ ap (fin.get index.pairs) s ∙ at ∙ sym (ap (fin.get (fin.insert index.pairs node v)) s ∙ here index.pairs node v)
      | inr ne ↦ sym (other index.pairs node q v ne)
    ]
