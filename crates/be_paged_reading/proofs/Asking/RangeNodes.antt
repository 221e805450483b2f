-- The nodes at the ends of the keys in a range.
use Rattle.std.proofs.Common.{◌≡◌, ◌⊎◌, ℕ, suc, ◌-◌, ◌<◌, ◌^◌, Bool, true, false, cond, not, List, [], ◌∷◌, length, drop, map, get_or, Some, None, inl, inr, ap, sym, subst, ◌∙◌, refl, arith, is_some, if◌then◌else◌}
use Rattle.std.specs.Int.{from_be_bytes, to_be_bytes, w64}
use Rattle.std.specs.List.{Contains}
use Rattle.std.specs.Ordering.{is_eq, is_gt}
use Rattle.std.specs.FinMap as fin
use Rattle.std.specs.declared.cmp.Ordering.{Ordering}
use Rattle.std.specs.declared.cmp.Ordering.TheVariants.{Less, Equal, Greater}
use Rattle.std.specs.declared.option.Option.{Option}
use Rattle.std.proofs.Math.Seq.{drop-append_seam}
use Rattle.std.proofs.lemmas.List.{length-append}
use Rattle.std.proofs.lemmas.List.Elements.{Contains-append_cases, Contains-append_left, Contains-append_right, Contains-push, Contains-push_cases}
use Rattle.std.proofs.lemmas.Nat.{from_be_bytes-to_be_bytes_8}
use Rattle.be_value.specs.Key.{key, value_key}
use Rattle.be_value.specs.declared.values.Value.{Value}
use Rattle.be_tree_reading.specs.Pair.{Pair}
use Rattle.be_tree_reading.specs.Key.{key_cmp, payload_at, IsRising}
use Rattle.be_tree_reading.specs.Range.{AreLong, HasFirst, is_from, is_past, number_of, numbers_to, pairs_from, pairs_to}
use Rattle.be_tree_reading.specs.Tree.{pairs}
use Rattle.be_tree_reading.proofs.Order.{key_total, key_cmp_flip, key_cmp_flip_less, AllAbove_trans, payload_at_above, key_exact}
use Rattle.be_volume.specs.Keys.{IsKey}
use Rattle.be_volume.specs.Sound.{IsSound}
use Rattle.be_volume.specs.Volume.{State}
use Rattle.be_plan.specs.Narrow.{Within, is_above}
use Rattle.be_plan.specs.Walk.{IsNodeWithin, HasOnly, Keeps}
use Rattle.be_paged_reading.specs.Catalog.{IsPairOf}
use Rattle.be_paged_reading.specs.Entry.{Entry}
use Rattle.be_paged_reading.specs.Page.{Contents, IsNamedAt}
use Rattle.be_paged_reading.specs.Version.{Encodes}
use Rattle.be_paged_reading.proofs.IndexEntries.Indexing.{named_found}
use Rattle.be_paged_reading.proofs.CatalogPairs.Segments.{all_from, payload_from, rising_from}
use Rattle.be_paged_reading.proofs.Asking.SourceKeys.{key_finds, same_from}

-- The number at the end of a key is its node.
pub node_of_key : (v : Value) (n : ℕ) → n < 2 ^ 64 → number_of (key v n) ≡ n
unfolding number_of
node_of_key v n fits =
    let len : length (key v n) - 8 ≡ length (value_key v) = omega (arith, length-append (value_key v) (to_be_bytes w64 n)) in
    ap (λ (m : ℕ). from_be_bytes w64 (drop m (key v n))) len
    ∙ ap (from_be_bytes w64) (drop-append_seam (value_key v) (to_be_bytes w64 n))
    ∙ from_be_bytes-to_be_bytes_8 n fits

-- Both crates define the same bound.
pub past_above : (high : Option (List ℕ)) (k : List ℕ) → is_past high k ≡ is_above high k
unfolding key_cmp
past_above None k = refl
past_above (Some h) k = refl

-- A key below one that is within the bound is itself within the bound.
pub below_past : (high : Option (List ℕ)) (a k : List ℕ) → key_cmp a k ≡ Less → is_past high k ≡ false → is_past high a ≡ false
below_past None a k t h = refl
below_past (Some b) a k t h = by (key_cmp a b) refl
  where
    by : (o : Ordering) → key_cmp a b ≡ o → is_gt o ≡ false
    by Less e = refl
    by Equal e = refl
    by Greater e = let up : key_cmp k b ≡ Greater = key_cmp_flip_less b k (key_total.trans b a k (key_cmp_flip a b e) t) in let no : true ≡ false = sym (ap is_gt up) ∙ h in absurd (cc no)

opened : (x : Pair) (xs : List Pair) (high : Option (List ℕ)) → is_past high x.key ≡ false → numbers_to (x ∷ xs) high ≡ number_of x.key ∷ numbers_to xs high
opened x xs high h = ap (λ b. map (λ (y : Pair). number_of y.key) (if b then [] else x ∷ pairs_to xs high)) h

-- What holds for the number of each pair within the bound holds for all the numbers.
each_number : (Q : ℕ → Type 0) (xs : List Pair) (high : Option (List ℕ)) → ((i : ℕ) (d : Pair) → i < length xs → is_past high (get_or xs i d).key ≡ false → Q (number_of (get_or xs i d).key))
    → (n : ℕ) → Contains (numbers_to xs high) n → Q n
each_number Q [] high all n has = absurd (omega (arith, has.1))
each_number Q (x ∷ xs) high all n has = by (is_past high x.key) refl (each_number Q xs high (λ i d lt. all (suc i) d (omega (arith, lt))) n) has
  where
    here : Contains (number_of x.key ∷ []) n → number_of x.key ≡ n
    here h = alone (Contains-push_cases [] (number_of x.key) n h)
      where
        alone : Contains {X = ℕ} [] n ⊎ (number_of x.key ≡ n) → number_of x.key ≡ n
        alone (inl h) = absurd (omega (arith, h.1))
        alone (inr e) = e

    either : is_past high x.key ≡ false → (Contains (numbers_to xs high) n → Q n) → Contains (number_of x.key ∷ []) n ⊎ Contains (numbers_to xs high) n → Q n
    either e rest (inl h) = subst Q (here h) (all 0 x (omega arith) e)
    either e rest (inr h) = rest h

    by : (b : Bool) → is_past high x.key ≡ b → (Contains (numbers_to xs high) n → Q n) → Contains (map (λ (y : Pair). number_of y.key) (if b then [] else x ∷ pairs_to xs high)) n → Q n
    by true e rest has = absurd (omega (arith, has.1))
    by false e rest has = either e rest (Contains-append_cases (number_of x.key ∷ []) (numbers_to xs high) n has)

-- The number of a key within the bound is among the numbers.
has_number : (xs : List Pair) (high : Option (List ℕ)) (k : List ℕ) → IsRising xs → is_some (payload_at xs k) ≡ true → is_past high k ≡ false → Contains (numbers_to xs high) (number_of k)
has_number [] high k rising some h = absurd (never some)
  where
    never : false ≡ true → ⊥
    never e = cc
has_number (x ∷ xs) high k rising some h = by (key_cmp x.key k) refl some (λ s. has_number xs high k rising.1 s h)
  where
    by : (o : Ordering) → key_cmp x.key k ≡ o → is_some (cond (is_eq o) (Some x.payload) (payload_at xs k)) ≡ true → (is_some (payload_at xs k) ≡ true → Contains (numbers_to xs high) (number_of k)) → Contains (numbers_to (x ∷ xs) high) (number_of k)
    by Less t s rest =
        subst (λ (l : List ℕ). Contains l (number_of k)) (sym (opened x xs high (below_past high x.key k t h)))
        (Contains-append_right (number_of x.key ∷ []) (numbers_to xs high) (number_of k) (rest s))
    by Equal t s rest =
        let same : x.key ≡ k = key_exact x.key k t in
        subst (λ (l : List ℕ). Contains l (number_of k)) (sym (opened x xs high (ap (is_past high) same ∙ h)))
        (subst (λ (m : ℕ). Contains (m ∷ numbers_to xs high) (number_of k)) (sym (ap number_of same))
        (Contains-append_left (number_of k ∷ []) (numbers_to xs high) (number_of k) (Contains-push [] (number_of k))))
    by Greater t s rest = let no : false ≡ true = sym (ap is_some (payload_at_above k xs (AllAbove_trans x.key k xs t rising.0))) ∙ s in absurd (cc no)

pub not_true : (b : Bool) → not b ≡ true → b ≡ false
not_true true h = cc
not_true false h = refl

module _ (w : ℕ → ℕ → ℕ) (c : Contents) (volume : State) (name : List ℕ) (i : ℕ) (d : Entry) (encodes : Encodes w c volume) (at : IsNamedAt c.entries name i) where
  -- The keys of an index are long enough.
  pub keys_long : AreLong (pairs w (get_or c.entries i d).root)
  keys_long j e lt =
      let p = ((named_found w c.entries (fin.entries volume.indices) name i encodes.indices at).entry d).keys.only j e lt in
      omega (arith, ap length p.is, length-append (value_key p.value) (to_be_bytes w64 p.node))

  module _ (sound : IsSound volume) (low : List ℕ) (high : Option (List ℕ)) where
    pub range_has : IsRising (pairs w (get_or c.entries i d).root) → (k : List ℕ) (h : IsKey volume name k) → Within low high k
        → Contains (numbers_to (pairs_from (pairs w (get_or c.entries i d).root) low false) high) h.node
    range_has rising k h within =
        let all = pairs w (get_or c.entries i d).root in
        let from : is_from low false k ≡ true = sym (same_from low false k) ∙ ap not within.from_low in
        let some = ap is_some (payload_from low k false all) ∙ ap (λ b. is_some (cond b (payload_at all k) None)) from ∙ key_finds w c volume name i encodes d at k h in
        let fits = (sound.pairs name h.index h.node h.value h.there h.paired).node_fits in
        subst (λ (m : ℕ). Contains (numbers_to (pairs_from all low false) high) m) (ap number_of h.is ∙ node_of_key h.value h.node fits)
        (has_number (pairs_from all low false) high k (rising_from low false all rising) some (past_above high k ∙ within.to_high))

    pub range_only : (n : ℕ) → Contains (numbers_to (pairs_from (pairs w (get_or c.entries i d).root) low false) high) n → IsNodeWithin volume name low high n
    range_only n has =
        let all = pairs w (get_or c.entries i d).root in
        let found = named_found w c.entries (fin.entries volume.indices) name i encodes.indices at in
        each_number (IsNodeWithin volume name low high) (pairs_from all low false) high
        (λ j e lt not_past.
        let both = all_from (IsPairOf found.index) low false all (found.entry d).keys.only j e lt in
        let p = both.0 in
        let x = get_or (pairs_from all low false) j e in
        let there = fin.get-entries volume.indices name ∙ found.found in
        let fits = (sound.pairs name found.index p.node p.value there p.there).node_fits in
        record {
          key = x.key;
          is_key = record { index = found.index; node = p.node; value = p.value; there = there; paired = p.there; is = p.is };
          within = record { from_low = not_true _ (same_from low false x.key ∙ both.1); to_high = sym (past_above high x.key) ∙ not_past };
          node_is = sym (ap number_of p.is ∙ node_of_key p.value p.node fits);
        })
        n has

    -- A list to which the first of the numbers were added has gained nothing else.
    pub first_only : (before after : List ℕ) → HasFirst before (numbers_to (pairs_from (pairs w (get_or c.entries i d).root) low false) high) after → HasOnly volume name low high before after
    first_only before after first n h =
        by (Contains-append_cases before first.has.got n (subst (λ (l : List ℕ). Contains l n) first.has.is h))
      where
        by : Contains before n ⊎ Contains first.has.got n → Contains before n ⊎ IsNodeWithin volume name low high n
        by (inl there) = inl there
        by (inr new) = inr (range_only n (subst (λ (l : List ℕ). Contains l n) (sym first.has.parts) (Contains-append_left first.has.got first.left n new)))

-- A list to which the first of the numbers were added keeps what it had.
pub first_keeps : (before numbers after : List ℕ) → HasFirst before numbers after → Keeps before after
first_keeps before numbers after first = λ n h. subst (λ (l : List ℕ). Contains l n) (sym first.has.is) (Contains-append_left before first.has.got n h)
