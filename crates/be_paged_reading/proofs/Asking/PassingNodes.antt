-- The nodes of the keys whose strings satisfy a comparison: how far a walk has progressed, and how
-- a query sees these nodes.
use Rattle.std.proofs.Common.{◌≡◌, ◌⊎◌, ℕ, suc, ◌+◌, ◌-◌, ◌<◌, ◌≤◌, ◌||◌, Bool, true, false, cond, not, IsUtf8, List, [], ◌∷◌, ◌++◌, length, drop, get_or, Some, None, inl, inr, ap, sym, subst, ◌∙◌, refl, arith, is_some, append_assoc, if◌then◌else◌}
use Rattle.std.specs.Int.{to_be_bytes, w64}
use Rattle.std.specs.List.{Contains, flat_map}
use Rattle.std.specs.Option.{option_map}
use Rattle.std.specs.Ordering.{is_eq}
use Rattle.std.specs.FinMap as fin
use Rattle.std.specs.declared.cmp.Ordering.{Ordering}
use Rattle.std.specs.declared.cmp.Ordering.TheVariants.{Less, Equal, Greater}
use Rattle.std.specs.declared.option.Option.{Option}
use Rattle.std.proofs.lemmas.List.{append-nil, get_or-drop, length-append, length-drop}
use Rattle.std.proofs.lemmas.List.Elements.{Contains-append_cases, Contains-append_left, Contains-append_right, Contains-push, Contains-push_cases}
use Rattle.be_value.specs.Key.{value_key}
use Rattle.be_value.specs.declared.values.Kind.TheVariants as kinds
use Rattle.be_query.specs.Grammar.{Leaf, Literal}
use Rattle.be_query.specs.declared.tree.Cmp.{Cmp}
use Rattle.be_tree_reading.specs.Pair.{Pair}
use Rattle.be_tree_reading.specs.Key.{key_cmp, payload_at, IsRising}
use Rattle.be_tree_reading.specs.Page.{item_at, item_place, items_of}
use Rattle.be_tree_reading.specs.Range.{HasFirst, HasGot, is_from, is_past, number_of, pairs_from, pairs_to}
use Rattle.be_tree_reading.specs.Tree.{pairs}
use Rattle.be_tree_reading.proofs.Items.{item_get, items_count}
use Rattle.be_tree_reading.proofs.Order.{AllAbove_trans, payload_at_above, key_exact}
use Rattle.be_tree_reading.proofs.Reading.Leaves.{any_past, got_rest}
use Rattle.be_volume.specs.Keys.{IsKey}
use Rattle.be_volume.specs.Query.{sat}
use Rattle.be_volume.specs.Reading.{index_kind}
use Rattle.be_volume.specs.Sound.{IsSound}
use Rattle.be_volume.specs.Volume.{State}
use Rattle.be_volume.specs.declared.maps.Index.{Index}
use Rattle.be_plan.specs.Narrow.{Within}
use Rattle.be_plan.specs.Texts.{text_in}
use Rattle.be_plan.specs.Walk.{IsNodeWithin, HasOnlyTrue}
use Rattle.be_plan.proofs.Tested.{passed, text_valid}
use Rattle.be_paged_reading.specs.Catalog.{IsPairOf}
use Rattle.be_paged_reading.specs.Entry.{Entry}
use Rattle.be_paged_reading.specs.Page.{Contents, IsNamedAt}
use Rattle.be_paged_reading.specs.Texts.{AreTexts, IsTextKey, node_if_passing, nodes_passing_to, passes}
use Rattle.be_paged_reading.specs.Version.{Encodes}
use Rattle.be_paged_reading.proofs.IndexEntries.Indexing.{named_found}
use Rattle.be_paged_reading.proofs.CatalogPairs.Segments.{all_from, payload_from, rising_from}
use Rattle.be_paged_reading.proofs.Asking.RangeNodes.{below_past, node_of_key, not_true, past_above}
use Rattle.be_paged_reading.proofs.Asking.SourceKeys.{key_finds, same_from}

-- What each pair up to the bound contributes.
abbrev pub taken : (Pair → List ℕ) → List Pair → Option (List ℕ) → List ℕ
taken t xs high = flat_map t (pairs_to xs high)

-- The contribution of a pair within the bound, and that of a pair above it.
pub opened : (t : Pair → List ℕ) (x : Pair) (xs : List Pair) (high : Option (List ℕ)) → is_past high x.key ≡ false → taken t (x ∷ xs) high ≡ t x ++ taken t xs high
opened t x xs high h = ap (λ b. flat_map t (if b then [] else x ∷ pairs_to xs high)) h

pub closed : (t : Pair → List ℕ) (x : Pair) (xs : List Pair) (high : Option (List ℕ)) → is_past high x.key ≡ true → taken t (x ∷ xs) high ≡ []
closed t x xs high h = ap (λ b. flat_map t (if b then [] else x ∷ pairs_to xs high)) h

-- The contributions of two parts.
to_append : (t : Pair → List ℕ) (xs ys : List Pair) (high : Option (List ℕ)) → taken t (xs ++ ys) high ≡ taken t xs high ++ (if any_past high xs then [] else taken t ys high)
to_append t [] ys high = refl
to_append t (x ∷ xs) ys high = by (is_past high x.key) (to_append t xs ys high)
  where
    by : (b : Bool) → taken t (xs ++ ys) high ≡ taken t xs high ++ (if any_past high xs then [] else taken t ys high)
        → flat_map t (if b then [] else x ∷ pairs_to (xs ++ ys) high)
        ≡ flat_map t (if b then [] else x ∷ pairs_to xs high) ++ (if (b || any_past high xs) then [] else taken t ys high)
    by true rest = refl
    by false rest = ap (λ ns. t x ++ ns) rest ∙ sym (append_assoc (t x) (taken t xs high) (if any_past high xs then [] else taken t ys high))

-- The first nodes of one part are the first nodes of both.
pub first_of_two : (t : Pair → List ℕ) (mid now : List ℕ) (xs ys : List Pair) (high : Option (List ℕ)) → HasFirst mid (taken t xs high) now → HasFirst mid (taken t (xs ++ ys) high) now
first_of_two t mid now xs ys high first =
    let more = if any_past high xs then [] else taken t ys high in
    record {
      left = first.left ++ more;
      has = record {
        got = first.has.got;
        parts = to_append t xs ys high ∙ ap (λ ns. ns ++ more) first.has.parts ∙ append_assoc first.has.got first.left more;
        is = first.has.is;
      };
    }

-- What has been added to the list after one more push.
pub got_more : (before all left piece rest mid now : List ℕ) → HasGot before all left mid → left ≡ piece ++ rest → now ≡ mid ++ piece → HasGot before all rest now
got_more before all left piece rest mid now has parts push = record {
  got = has.got ++ piece;
  parts = has.parts ∙ ap (λ ns. has.got ++ ns) parts ∙ sym (append_assoc has.got piece rest);
  is = push ∙ ap (λ ns. ns ++ piece) has.is ∙ append_assoc before has.got piece;
}

pub got_whole : (before all left now : List ℕ) → HasGot before all left now → left ≡ [] → now ≡ before ++ all
got_whole before all left now has none = has.is ∙ ap (λ ns. before ++ ns) (sym (append-nil has.got) ∙ ap (λ ns. has.got ++ ns) (sym none) ∙ sym has.parts)

module _ (t : Pair → List ℕ) (before all mid now : List ℕ) (xs ys : List Pair) (high : Option (List ℕ)) (has : HasGot before all (taken t (xs ++ ys) high) mid) where
  -- The bound is after this leaf.
  pub whole_leaf : false ≡ any_past high xs → now ≡ mid ++ taken t xs high → HasGot before all (taken t ys high) now
  whole_leaf e push =
      got_more before all (taken t (xs ++ ys) high) (taken t xs high) (taken t ys high) mid now has
      (to_append t xs ys high ∙ ap (λ b. taken t xs high ++ (if b then [] else taken t ys high)) (sym e)) push

  -- The bound is in this leaf.
  pub last_leaf : true ≡ any_past high xs → now ≡ mid ++ taken t xs high → now ≡ before ++ all
  last_leaf e push =
      got_rest before all (taken t (xs ++ ys) high) mid now has
      (push ∙ sym (ap (λ ns. mid ++ ns) (to_append t xs ys high ∙ ap (λ b. taken t xs high ++ (if b then [] else taken t ys high)) (sym e) ∙ append-nil (taken t xs high))))

-- An item of a leaf contains a string.
pub text_at : (words : ℕ → ℕ) (from at : ℕ) → from ≤ at → at < words 1 → AreTexts (drop from (items_of words)) → IsTextKey (item_at words (item_place at)).key
text_at words from at le lt texts =
    let d = item_at words (item_place at) in
    let e : from + (at - from) ≡ at = omega (arith, le) in
    subst (λ (x : Pair). IsTextKey x.key) (get_or-drop from (items_of words) (at - from) d ∙ ap (λ i. get_or (items_of words) i d) e ∙ item_get words at d lt)
    (texts (at - from) d (omega (arith, le, lt, length-drop from (items_of words), items_count words)))

-- What holds for the node of each pair that passes holds for all the nodes.
each_node : (Q : ℕ → Type 0) (op : Cmp) (literal : Literal) (xs : List Pair) (high : Option (List ℕ))
    → ((i : ℕ) (d : Pair) → i < length xs → is_past high (get_or xs i d).key ≡ false → passes op literal (get_or xs i d).key ≡ true → Q (number_of (get_or xs i d).key))
    → (n : ℕ) → Contains (nodes_passing_to op literal xs high) n → Q n
each_node Q op literal [] high all n has = absurd (omega (arith, has.1))
each_node Q op literal (x ∷ xs) high all n has = by (is_past high x.key) refl (each_node Q op literal xs high (λ i d lt. all (suc i) d (omega (arith, lt))) n) has
  where
    here : Contains (number_of x.key ∷ []) n → number_of x.key ≡ n
    here h = alone (Contains-push_cases [] (number_of x.key) n h)
      where
        alone : Contains {X = ℕ} [] n ⊎ (number_of x.key ≡ n) → number_of x.key ≡ n
        alone (inl h) = absurd (omega (arith, h.1))
        alone (inr e) = e

    own : is_past high x.key ≡ false → (p : Bool) → passes op literal x.key ≡ p → Contains (if p then number_of x.key ∷ [] else []) n → Q n
    own e true t h = subst Q (here h) (all 0 x (omega arith) e t)
    own e false t h = absurd (omega (arith, h.1))

    either : is_past high x.key ≡ false → (Contains (nodes_passing_to op literal xs high) n → Q n) → Contains (node_if_passing op literal x) n ⊎ Contains (nodes_passing_to op literal xs high) n → Q n
    either e rest (inl h) = own e (passes op literal x.key) refl h
    either e rest (inr h) = rest h

    by : (b : Bool) → is_past high x.key ≡ b → (Contains (nodes_passing_to op literal xs high) n → Q n) → Contains (flat_map (node_if_passing op literal) (if b then [] else x ∷ pairs_to xs high)) n → Q n
    by true e rest has = absurd (omega (arith, has.1))
    by false e rest has = either e rest (Contains-append_cases (node_if_passing op literal x) (nodes_passing_to op literal xs high) n has)

-- The node of a key that passes is among the nodes.
has_node : (op : Cmp) (literal : Literal) (xs : List Pair) (high : Option (List ℕ)) (k : List ℕ) → IsRising xs → is_some (payload_at xs k) ≡ true → is_past high k ≡ false → passes op literal k ≡ true
    → Contains (nodes_passing_to op literal xs high) (number_of k)
has_node op literal [] high k rising some h holds = absurd (never some)
  where
    never : false ≡ true → ⊥
    never e = cc
has_node op literal (x ∷ xs) high k rising some h holds = by (key_cmp x.key k) refl some (λ s. has_node op literal xs high k rising.1 s h holds)
  where
    by : (o : Ordering) → key_cmp x.key k ≡ o → is_some (cond (is_eq o) (Some x.payload) (payload_at xs k)) ≡ true → (is_some (payload_at xs k) ≡ true → Contains (nodes_passing_to op literal xs high) (number_of k))
        → Contains (nodes_passing_to op literal (x ∷ xs) high) (number_of k)
    by Less e s rest =
        subst (λ (l : List ℕ). Contains l (number_of k)) (sym (opened (node_if_passing op literal) x xs high (below_past high x.key k e h)))
        (Contains-append_right (node_if_passing op literal x) (nodes_passing_to op literal xs high) (number_of k) (rest s))
    by Equal e s rest =
        let same : x.key ≡ k = key_exact x.key k e in
        let here : Contains (if passes op literal k then number_of k ∷ [] else []) (number_of k) =
        subst (λ (b : Bool). Contains (if b then number_of k ∷ [] else []) (number_of k)) (sym holds) (Contains-push [] (number_of k)) in
        subst (λ (l : List ℕ). Contains l (number_of k)) (sym (opened (node_if_passing op literal) x xs high (ap (is_past high) same ∙ h)))
        (Contains-append_left (node_if_passing op literal x) (nodes_passing_to op literal xs high) (number_of k)
        (subst (λ (q : List ℕ). Contains (if passes op literal q then number_of q ∷ [] else []) (number_of k)) (sym same) here))
    by Greater e s rest = let no : false ≡ true = sym (ap is_some (payload_at_above k xs (AllAbove_trans x.key k xs e rising.0))) ∙ s in absurd (cc no)

module _ (w : ℕ → ℕ → ℕ) (c : Contents) (volume : State) (name : List ℕ) (i : ℕ) (d : Entry) (encodes : Encodes w c volume) (at : IsNamedAt c.entries name i) (sound : IsSound volume)
    (kind : (get_or c.entries i d).kind ≡ kinds.Cstr) where
  -- The keys of an index of strings contain strings.
  pub keys_texts : AreTexts (pairs w (get_or c.entries i d).root)
  keys_texts j e lt =
      let found = named_found w c.entries (fin.entries volume.indices) name i encodes.indices at in
      let p = (found.entry d).keys.only j e lt in
      let paired = sound.pairs name found.index p.node p.value (fin.get-entries volume.indices name ∙ found.found) p.there in
      record {
        long = omega (arith, ap length p.is, length-append (value_key p.value) (to_be_bytes w64 p.node));
        is_text = subst (λ (q : List ℕ). IsUtf8 (text_in q)) (sym p.is) (text_valid p.value p.node (paired.kind_is ∙ sym (found.entry d).kind_is ∙ kind) paired.is_value);
      }

  is_of_texts : index_kind volume name ≡ Some kinds.Cstr
  is_of_texts =
      let found = named_found w c.entries (fin.entries volume.indices) name i encodes.indices at in
      ap (λ o. option_map (λ (x : Index). x.kind) o) (fin.get-entries volume.indices name ∙ found.found) ∙ ap (λ k. Some k) (sym (found.entry d).kind_is ∙ kind)

  module _ (op : Cmp) (literal : Literal) (low : List ℕ) (high : Option (List ℕ)) where
    -- The string in a key passes if and only if the comparison is true of the key's node.
    pub passes_if : (k : List ℕ) (h : IsKey volume name k) → passes op literal k ≡ sat volume (Leaf name op literal) h.node
    passes_if k h = passed volume sound name k h is_of_texts op literal (text_in k) (passes op literal k) refl (λ _. refl)

    pub passing_has : IsRising (pairs w (get_or c.entries i d).root) → (k : List ℕ) (h : IsKey volume name k) → Within low high k → sat volume (Leaf name op literal) h.node ≡ true
        → Contains (nodes_passing_to op literal (pairs_from (pairs w (get_or c.entries i d).root) low false) high) h.node
    passing_has rising k h within holds =
        let all = pairs w (get_or c.entries i d).root in
        let from : is_from low false k ≡ true = sym (same_from low false k) ∙ ap not within.from_low in
        let some = ap is_some (payload_from low k false all) ∙ ap (λ b. is_some (cond b (payload_at all k) None)) from ∙ key_finds w c volume name i encodes d at k h in
        let fits = (sound.pairs name h.index h.node h.value h.there h.paired).node_fits in
        subst (λ (m : ℕ). Contains (nodes_passing_to op literal (pairs_from all low false) high) m) (ap number_of h.is ∙ node_of_key h.value h.node fits)
        (has_node op literal (pairs_from all low false) high k (rising_from low false all rising) some (past_above high k ∙ within.to_high) (passes_if k h ∙ holds))

    passing_only : (n : ℕ) → Contains (nodes_passing_to op literal (pairs_from (pairs w (get_or c.entries i d).root) low false) high) n
        → IsNodeWithin volume name low high n × (sat volume (Leaf name op literal) n ≡ true)
    passing_only n has =
        let all = pairs w (get_or c.entries i d).root in
        let found = named_found w c.entries (fin.entries volume.indices) name i encodes.indices at in
        each_node (λ (m : ℕ). IsNodeWithin volume name low high m × (sat volume (Leaf name op literal) m ≡ true)) op literal (pairs_from all low false) high
        (λ j e lt not_past holds.
        let both = all_from (IsPairOf found.index) low false all (found.entry d).keys.only j e lt in
        let p = both.0 in
        let x = get_or (pairs_from all low false) j e in
        let there = fin.get-entries volume.indices name ∙ found.found in
        let fits = (sound.pairs name found.index p.node p.value there p.there).node_fits in
        let node : p.node ≡ number_of x.key = sym (ap number_of p.is ∙ node_of_key p.value p.node fits) in
        let key : IsKey volume name x.key = record { index = found.index; node = p.node; value = p.value; there = there; paired = p.there; is = p.is } in (
          record {
            key = x.key;
            is_key = key;
            within = record { from_low = not_true _ (same_from low false x.key ∙ both.1); to_high = sym (past_above high x.key) ∙ not_past };
            node_is = node;
          },
          ap (sat volume (Leaf name op literal)) (sym node) ∙ sym (passes_if x.key key) ∙ holds,
        ))
        n has

    -- A list to which the first of the nodes were added has gained nothing else.
    pub passing_first : (before after : List ℕ) → HasFirst before (nodes_passing_to op literal (pairs_from (pairs w (get_or c.entries i d).root) low false) high) after
        → HasOnlyTrue volume (Leaf name op literal) name low high before after
    passing_first before after first n h =
        by (Contains-append_cases before first.has.got n (subst (λ (l : List ℕ). Contains l n) first.has.is h))
      where
        by : Contains before n ⊎ Contains first.has.got n → Contains before n ⊎ (IsNodeWithin volume name low high n × (sat volume (Leaf name op literal) n ≡ true))
        by (inl there) = inl there
        by (inr new) = inr (passing_only n (subst (λ (l : List ℕ). Contains l n) (sym first.has.parts) (Contains-append_left first.has.got first.left n new)))
