-- The keys of an index as an index reader sees them.
use Rattle.std.proofs.Common.{◌≡◌, ℕ, zero, suc, ◌<◌, Bool, true, false, cond, not, List, [], ◌∷◌, length, map, drop, get_or, Some, None, ap, sym, subst, ◌∙◌, refl, arith, is_some}
use Rattle.std.specs.List.{slice_get}
use Rattle.std.specs.Option.{option_map}
use Rattle.std.specs.Ordering.{is_eq, is_lt, is_ge}
use Rattle.std.specs.Cmp.{tied_itself}
use Rattle.std.specs.declared.cmp.Ordering.{Ordering}
use Rattle.std.specs.declared.cmp.Ordering.TheVariants.{Less, Equal, Greater}
use Rattle.std.specs.declared.option.Option.{Option}
use Rattle.std.specs.FinMap as fin
use Rattle.be_pages.specs.declared.room.PageState.{PageState}
use Rattle.be_tree_reading.specs.Pair.{Pair}
use Rattle.be_tree_reading.specs.Key.{key_cmp, payload_at, IsRising}
use Rattle.be_tree_reading.specs.Range.{is_from, pairs_from}
use Rattle.be_tree_reading.specs.Tree.{IsTree, pairs}
use Rattle.be_tree_reading.proofs.Order.{key_total, key_cmp_flip_less, AllAbove_trans, payload_at_above}
use Rattle.be_tree_reading.proofs.Ranges.{next_from}
use Rattle.be_volume.specs.Keys.{IsKey, IsNextKey}
use Rattle.be_volume.specs.PairKeys.{IsNext}
use Rattle.be_volume.specs.PairKeys as pair_keys
use Rattle.be_volume.specs.Volume.{State}
use Rattle.be_volume.specs.declared.maps.Index.{Index}
use Rattle.be_paged_reading.specs.Entry.{Entry}
use Rattle.be_paged_reading.specs.Page.{Contents, IsNamedAt, IsGapAt}
use Rattle.be_paged_reading.specs.Catalog.{IsPairOf}
use Rattle.be_paged_reading.specs.Version.{IsInHand, Encodes}
use Rattle.be_paged_reading.proofs.IndexEntries.Indexing.{named_found, gap_none}
use Rattle.be_paged_reading.proofs.CatalogPairs.Finding.{found_pair}
use Rattle.be_paged_reading.proofs.CatalogPairs.Segments.{payload_from, rising_from}

mapped_or : (es : List Entry) (i : ℕ) (d : Entry) → i < length es → get_or (map (λ (e : Entry). e.root) es) i d.root ≡ (get_or es i d).root
mapped_or [] i d lt = absurd (omega (arith, lt))
mapped_or (e ∷ es) zero d lt = refl
mapped_or (e ∷ es) (suc i) d lt = mapped_or es i d (omega (arith, lt))

mapped_len : (es : List Entry) → length (map (λ (e : Entry). e.root) es) ≡ length es
mapped_len [] = refl
mapped_len (e ∷ es) = ap suc (mapped_len es)

-- The tree of an index.
pub entry_tree : (s : ℕ → PageState) (w : ℕ → ℕ → ℕ) (c : Contents) (i : ℕ) (d : Entry) → IsInHand s w c → i < length c.entries → IsTree s w (get_or c.entries i d).root
entry_tree s w c i d h lt = subst (IsTree s w) (mapped_or c.entries i d lt) (h.trees.each (suc i) d.root (omega (arith, lt, mapped_len c.entries)))

same_index : (a b : Index) → Some a ≡ Some b → a ≡ b
same_index a b e = cc

module _ (w : ℕ → ℕ → ℕ) (c : Contents) (volume : State) (name : List ℕ) (i : ℕ) (encodes : Encodes w c volume) where
  pub no_key : IsGapAt c.entries name i → (k : List ℕ) → IsKey volume name k → ⊥
  no_key gap k is = clash is.index (sym (fin.get-entries volume.indices name ∙ gap_none w c.entries (fin.entries volume.indices) name i encodes.indices (fin.entries_sorted volume.indices) gap) ∙ is.there)
    where
      clash : (x : Index) → None ≡ Some x → ⊥
      clash x e = cc

  module _ (d : Entry) (at : IsNamedAt c.entries name i) where
    pub key_found : (k : List ℕ) → is_some (payload_at (pairs w (get_or c.entries i d).root) k) ≡ true → IsKey volume name k
    key_found k some =
        let found = named_found w c.entries (fin.entries volume.indices) name i encodes.indices at in
        let pair = found_pair (IsPairOf found.index) k (pairs w (get_or c.entries i d).root) (found.entry d).keys.only some in
        let p = pair.1 in
        record {
          index = found.index;
          node = p.node;
          value = p.value;
          there = fin.get-entries volume.indices name ∙ found.found;
          paired = p.there;
          is = sym pair.2 ∙ p.is;
        }

    pub key_finds : (k : List ℕ) → IsKey volume name k → is_some (payload_at (pairs w (get_or c.entries i d).root) k) ≡ true
    key_finds k is =
        let found = named_found w c.entries (fin.entries volume.indices) name i encodes.indices at in
        let same = same_index is.index found.index (sym is.there ∙ fin.get-entries volume.indices name ∙ found.found) in
        ap (λ q. is_some (payload_at (pairs w (get_or c.entries i d).root) q)) is.is
        ∙ ap is_some ((found.entry d).keys.each is.node is.value (ap (λ (x : Index). fin.get x.pairs is.node) (sym same) ∙ is.paired))

-- Both crates define the same keys.
pub same_from : (from : List ℕ) (after : Bool) (k : List ℕ) → pair_keys.is_at_or_after from after k ≡ is_from from after k
unfolding key_cmp
same_from from true k = refl
same_from from false k = by (key_cmp k from)
  where
    by : (o : Ordering) → not (is_lt o) ≡ is_ge o
    by Less = refl
    by Equal = refl
    by Greater = refl

module _ (Is : List ℕ → Type 0) (all : List Pair) (rising : IsRising all) (found : (k : List ℕ) → is_some (payload_at all k) ≡ true → Is k) (finds : (k : List ℕ) → Is k → is_some (payload_at all k) ≡ true)
    (from : List ℕ) (after : Bool) where
  -- The keys of the pairs from there on.
  has : (k : List ℕ) → Is k → is_from from after k ≡ true → is_some (payload_at (pairs_from all from after) k) ≡ true
  has k is e = ap is_some (payload_from from k after all) ∙ ap (λ b. is_some (cond b (payload_at all k) None)) e ∙ finds k is

  pub next_is_first : (rest : List Pair) → pairs_from all from after ≡ rest → IsNext Is from after (option_map (λ (x : Pair). x.key) (slice_get rest 0))
  unfolding key_cmp
  next_is_first [] e = λ k is. same_from from after k ∙ by k is (is_from from after k) refl
    where
      never : {A : Type 0} → false ≡ true → A
      never e = cc

      by : (k : List ℕ) → Is k → (b : Bool) → is_from from after k ≡ b → b ≡ false
      by k is true f = never (ap (λ xs. is_some (payload_at xs k)) (sym e) ∙ has k is f)
      by k is false f = refl
  next_is_first (x ∷ xs) e = (found x.key (ap is_some (sym (both.1))), same_from from after x.key ∙ both.0, λ k is f. least k is (sym (same_from from after k) ∙ f))
    where
      never : {A : Type 0} → false ≡ true → A
      never e = cc

      here : payload_at (pairs_from all from after) x.key ≡ Some x.payload
      here = ap (λ ys. payload_at ys x.key) e ∙ ap (λ o. cond (is_eq o) (Some x.payload) (payload_at xs x.key)) (tied_itself key_total x.key)

      none_some : {A : Type 0} (y : List ℕ) → None ≡ Some y → A
      none_some y e = cc

      both : (is_from from after x.key ≡ true) × (Some x.payload ≡ payload_at all x.key)
      both = by (is_from from after x.key) refl (sym (payload_from from x.key after all) ∙ here)
        where
          by : (b : Bool) → is_from from after x.key ≡ b → cond (is_from from after x.key) (payload_at all x.key) None ≡ Some x.payload → (is_from from after x.key ≡ true) × (Some x.payload ≡ payload_at all x.key)
          by true f g = (f, sym (ap (λ b. cond b (payload_at all x.key) None) (sym f) ∙ g))
          by false f g = none_some x.payload (sym (ap (λ b. cond b (payload_at all x.key) None) f) ∙ g)

      rises : IsRising (x ∷ xs)
      rises = subst IsRising e (rising_from from after all rising)

      least : (k : List ℕ) → Is k → is_from from after k ≡ true → is_lt (key_cmp k x.key) ≡ false
      least k is f = by (key_cmp k x.key) refl
        where
          by : (o : Ordering) → key_cmp k x.key ≡ o → is_lt o ≡ false
          by Less t = never (sym (ap is_some (payload_at_above k (x ∷ xs) (key_cmp_flip_less k x.key t, AllAbove_trans x.key k xs (key_cmp_flip_less k x.key t) rises.0))) ∙ ap (λ ys. is_some (payload_at ys k)) (sym e) ∙ has k is f)
          by Equal t = refl
          by Greater t = refl

-- The lowest key from there on, as a walk reads it.
pub is_next_key : (w : ℕ → ℕ → ℕ) (c : Contents) (volume : State) (name : List ℕ) (i : ℕ) (d : Entry) → Encodes w c volume → IsNamedAt c.entries name i → IsRising (pairs w (get_or c.entries i d).root)
    → (from : List ℕ) (after : Bool) (now : List Pair) (r : Option (List ℕ)) → now ≡ pairs_from (pairs w (get_or c.entries i d).root) from after → r ≡ option_map (λ (x : Pair). x.key) (slice_get now 0) → IsNextKey volume name from after r
is_next_key w c volume name i d encodes at rising from after now r lies read =
    subst (IsNextKey volume name from after) (sym read)
    (next_is_first (IsKey volume name) (pairs w (get_or c.entries i d).root) rising (key_found w c volume name i encodes d at) (key_finds w c volume name i encodes d at) from after now (sym lies))

-- The pairs after the key that was read follow it.
pub beyond_next : (all : List Pair) → IsRising all → (from : List ℕ) (after : Bool) (now : List Pair) (k : List ℕ) → now ≡ pairs_from all from after → Some k ≡ option_map (λ (x : Pair). x.key) (slice_get now 0) → drop 1 now ≡ pairs_from all k true
beyond_next all rising from after [] k lies read = absurd (clash read)
  where
    clash : Some k ≡ None → ⊥
    clash e = cc
beyond_next all rising from after (x ∷ xs) k lies read = sym (ap (λ q. pairs_from all q true) (same k x.key read) ∙ next_from all from after x xs rising (sym lies))
  where
    same : (a b : List ℕ) → Some a ≡ Some b → a ≡ b
    same a b e = cc
