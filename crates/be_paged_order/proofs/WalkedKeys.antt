-- The entries of an index that a walk over its tree visits.
use Rattle.std.proofs.Common.{◌≡◌, ◌⊎◌, ◌≤◌, ℕ, zero, suc, Bool, true, false, cond, ◌&&◌, IfNone, IfSome, List, [], ◌∷◌, ◌++◌, None, Some, refl, sym, ap, ◌∙◌, subst, arith, inl, inr, take, length, map, get_or, if◌then◌else◌}
use Rattle.std.specs.FinMap as fin
use Rattle.std.specs.List.{Contains, filter}
use Rattle.std.specs.Option.{option_copied}
use Rattle.std.specs.declared.option.Option.{Option}
use Rattle.std.specs.declared.cmp.Ordering.TheVariants.{Less}
use Rattle.std.proofs.lemmas.List.{append-nil}
use Rattle.std.proofs.lemmas.List.Elements.{All-contains, All-contains_itself}
use Rattle.be_pages.specs.declared.room.PageState.{PageState}
use Rattle.be_value.specs.declared.values.Kind.TheVariants as kinds
use Rattle.be_order.proofs.PageKeys.{contains_mapped, mapped_contains}
use Rattle.be_order.specs.Ordered.{is_after, key_cmp, nodes_of}
use Rattle.be_order.specs.Walks.{HasWalked, IsEntry, IsPassing}
use Rattle.be_paged_reading.specs.Catalog.{IsPairOf}
use Rattle.be_paged_reading.specs.Entry.{Entry}
use Rattle.be_paged_reading.specs.Page.{Contents, contents_of, IsNamedAt}
use Rattle.be_paged_reading.specs.Source.{HasNumbers, HasPassing, IsFound}
use Rattle.be_paged_reading.specs.KeyTests.{nodes_passing}
use Rattle.be_paged_reading.specs.Version.{IsVersion, Encodes}
use Rattle.be_paged_reading.specs.declared.on_page.FoundIndex.{FoundIndex}
use Rattle.be_paged_reading.proofs.Asking.Picking.{passes_as_node}
use Rattle.be_paged_reading.proofs.Asking.RangeNodes.{node_of_key}
use Rattle.be_paged_reading.proofs.Asking.SourceKeys.{entry_tree, key_finds, no_key}
use Rattle.be_paged_reading.proofs.CatalogPairs.Finding.{found_pair}
use Rattle.be_paged_reading.proofs.IndexEntries.Indexing.{named_found}
use Rattle.be_plan.specs.KeyTests.{passes_key, reads_texts}
use Rattle.be_plan.specs.declared.keytests.KeyTest.{KeyTest}
use Rattle.be_plan.specs.Narrow.{Within}
use Rattle.be_plan.proofs.Ways.{and_first, and_second}
use Rattle.be_tree_reading.specs.Key.{IsRising}
use Rattle.be_tree_reading.specs.Pair.{Pair}
use Rattle.be_tree_reading.specs.Range.{is_from, number_of, pairs_from}
use Rattle.be_tree_reading.specs.Tree.{pairs}
use Rattle.be_tree_reading.specs.Way.{is_until, numbers_in, pairs_until, walk, walk_of}
use Rattle.be_tree_reading.specs.declared.way.Way.{Way}
use Rattle.be_tree_reading.proofs.Trees.{tree_rising}
use Rattle.be_volume.specs.Sound.{IsSound}
use Rattle.be_volume.specs.Volume.{State}
use Rattle.be_paged_order.specs.Ways.{IsWayOf, lies_on}
use Rattle.be_paged_order.proofs.Orders.{InOrder, entry, few_taken, first_or, from_filter, from_taken, from_turned, in_filter, in_turned, keys_ordered, ordered_filtered, ordered_taken, ordered_turned, rising_ordered}

both : (a b : Bool) → a ≡ true → b ≡ true → (a && b) ≡ true
both true b h k = k
both false b h k = cc

numbers_are : (xs : List Pair) → numbers_in xs ≡ nodes_of (map entry xs)
numbers_are [] = refl
numbers_are (x ∷ xs) = ap (λ l. number_of x.key ∷ l) (numbers_are xs)

map_length : (xs : List Pair) → length (map entry xs) ≡ length xs
map_length [] = refl
map_length (x ∷ xs) = ap suc (map_length xs)

all_pass : (xs : List Pair) → filter (λ x. true) xs ≡ xs
all_pass [] = refl
all_pass (x ∷ xs) = ap (λ l. x ∷ l) (all_pass xs)

numbers_taken : (n : ℕ) (xs : List Pair) → take n (numbers_in xs) ≡ numbers_in (take n xs)
numbers_taken zero xs = refl
numbers_taken (suc n) [] = refl
numbers_taken (suc n) (x ∷ xs) = ap (λ l. number_of x.key ∷ l) (numbers_taken n xs)

-- The nodes of the keys that pass.
one_passing : (x : Pair) (rest : List Pair) (more : List ℕ) (b : Bool) → more ≡ numbers_in rest → (if b then number_of x.key ∷ [] else []) ++ more ≡ numbers_in (cond b (x ∷ rest) rest)
one_passing x rest more true same = ap (λ l. number_of x.key ∷ l) same
one_passing x rest more false same = same

numbers_passing : (test : KeyTest) (xs : List Pair) → nodes_passing test xs ≡ numbers_in (filter (λ x. passes_key test x.key (number_of x.key)) xs)
numbers_passing test [] = refl
numbers_passing test (x ∷ xs) =
    one_passing x (filter (λ y. passes_key test y.key (number_of y.key)) xs) (nodes_passing test xs) (passes_key test x.key (number_of x.key)) (numbers_passing test xs)

-- A walk when there is no index.
none_walked : (Is : List ℕ → ℕ → Type 0) (descending : Bool) (cursor : Option (List ℕ)) (most : ℕ) (before : List ℕ) → ((k : List ℕ) (n : ℕ) → Is k n → ⊥) → HasWalked Is descending cursor most before before
none_walked Is descending cursor most before none = record {
  entries = [];
  first = record {
    rising = keys_ordered descending [] tt;
    few = omega arith;
    only = λ k n h. absurd (omega (arith, h.1));
    all = λ k n is after. absurd (none k n is);
  };
  added = sym (append-nil before);
}

module _ (strict : Bool) (low : List ℕ) (high : Option (List ℕ)) (ps : List Pair) where
  walk_ordered : (back : Bool) → IsRising ps → InOrder back (walk back strict low high ps)
  walk_ordered false rising = ordered_filtered false (λ x. is_until high false x.key) (pairs_from ps low strict) (ordered_filtered false (λ x. is_from low strict x.key) ps (rising_ordered ps rising))
  walk_ordered true rising =
      ordered_turned (pairs_from (pairs_until ps high strict) low false)
      (ordered_filtered false (λ x. is_from low false x.key) (pairs_until ps high strict) (ordered_filtered false (λ x. is_until high strict x.key) ps (rising_ordered ps rising)))

  from_walk : (back : Bool) (x : Pair) → Contains (walk back strict low high ps) x → Contains ps x × (lies_on back strict low high x.key ≡ true)
  from_walk false x h =
      let outer = from_filter (λ (y : Pair). is_until high false y.key) (pairs_from ps low strict) x h in
      let inner = from_filter (λ (y : Pair). is_from low strict y.key) ps x outer.0 in
      (inner.0, both _ _ inner.1 outer.1)
  from_walk true x h =
      let outer = from_filter (λ (y : Pair). is_from low false y.key) (pairs_until ps high strict) x (from_turned (pairs_from (pairs_until ps high strict) low false) x h) in
      let inner = from_filter (λ (y : Pair). is_until high strict y.key) ps x outer.0 in
      (inner.0, both _ _ inner.1 outer.1)

  in_walk : (back : Bool) (x : Pair) → Contains ps x → lies_on back strict low high x.key ≡ true → Contains (walk back strict low high ps) x
  in_walk false x there h =
      in_filter (λ (y : Pair). is_until high false y.key) (pairs_from ps low strict) x (in_filter (λ (y : Pair). is_from low strict y.key) ps x there (and_first _ _ h)) (and_second _ _ h)
  in_walk true x there h =
      in_turned (pairs_from (pairs_until ps high strict) low false) x
      (in_filter (λ (y : Pair). is_from low false y.key) (pairs_until ps high strict) x (in_filter (λ (y : Pair). is_until high strict y.key) ps x there (and_first _ _ h)) (and_second _ _ h))

module _ (w : ℕ → ℕ → ℕ) (c : Contents) (s : State) (name : List ℕ) (i : ℕ) (e : Entry) (encodes : Encodes w c s) (at : IsNamedAt c.entries name i) (sound : IsSound s)
    (rising : IsRising (pairs w (get_or c.entries i e).root)) (low : List ℕ) (high : Option (List ℕ)) where
  abbrev all : List Pair
  all = pairs w (get_or c.entries i e).root

  is_entry : (x : Pair) → Contains all x → Within low high x.key → IsEntry s name low high x.key (number_of x.key)
  is_entry x there within =
      let found = named_found w c.entries (fin.entries s.indices) name i encodes.indices at in
      let p : IsPairOf found.index x = All-contains (IsPairOf found.index) all x (found.entry e).keys.only there in
      let in_map = fin.get-entries s.indices name ∙ found.found in
      let fits = (sound.pairs name found.index p.node p.value in_map p.there).node_fits in
      record {
        is_key = record { index = found.index; node = p.node; value = p.value; there = in_map; paired = p.there; is = p.is };
        within = within;
        node_is = sym (ap number_of p.is ∙ node_of_key p.value p.node fits);
      }

  has_entry : (k : List ℕ) (n : ℕ) → IsEntry s name low high k n → (x : Pair) × Contains all x × (x.key ≡ k) × (number_of k ≡ n)
  has_entry k n h =
      let q = h.is_key in
      let x = found_pair (Contains all) k all (All-contains_itself all) (key_finds w c s name i encodes e at k q) in
      let fits = (sound.pairs name q.index q.node q.value q.there q.paired).node_fits in
      (x.0, x.1, x.2, ap number_of q.is ∙ node_of_key q.value q.node fits ∙ h.node_is)

  -- The pairs on a way that pass a test are the wanted entries.
  module _ (Is : List ℕ → ℕ → Type 0) (test : Pair → Bool) (wanted : (x : Pair) → IsEntry s name low high x.key (number_of x.key) → test x ≡ true → Is x.key (number_of x.key))
      (entry_of : (k : List ℕ) (n : ℕ) → Is k n → IsEntry s name low high k n) (tested : (k : List ℕ) (n : ℕ) → Is k n → (x : Pair) → x.key ≡ k → number_of k ≡ n → test x ≡ true)
      (descending : Bool) (cursor : Option (List ℕ)) (way : Way) (is : IsWayOf low high descending cursor way) (most : ℕ) where
    abbrev walked : List Pair
    walked = filter test (walk_of way all)

    walked_ordered : InOrder descending walked
    walked_ordered = ordered_filtered descending test (walk_of way all) (subst (λ b. InOrder b (walk_of way all)) is.back_is (walk_ordered way.strict way.low.now (option_copied way.high) all way.back rising))

    only : (k : List ℕ) (n : ℕ) → Contains (map entry (take most walked)) (k, n) → Is k n × (is_after descending cursor k ≡ true)
    only k n h =
        let from = mapped_contains entry (take most walked) (k, n) h in
        let x = from.0 in
        let passed = from_filter test (walk_of way all) x (from_taken most walked x from.1) in
        let on = from_walk way.strict way.low.now (option_copied way.high) all way.back x passed.0 in
        let lies = is.only x.key on.1 in
        let keys : x.key ≡ k = ap (λ (p : List ℕ × ℕ). p.0) from.2 in
        let nodes : number_of x.key ≡ n = ap (λ (p : List ℕ × ℕ). p.1) from.2 in
        (subst (λ (q : List ℕ). Is q n) keys (subst (λ (m : ℕ). Is x.key m) nodes (wanted x (is_entry x on.0 lies.0) passed.1)), ap (is_after descending cursor) (sym keys) ∙ lies.1)

    reached : (k : List ℕ) (n : ℕ) → Is k n → is_after descending cursor k ≡ true →
        Contains (map entry (take most walked)) (k, n) ⊎ ((length (map entry (take most walked)) ≡ most) × ((x : List ℕ) (m : ℕ) → Contains (map entry (take most walked)) (x, m) → key_cmp descending x k ≡ Less))
    reached k n h after =
        let an_entry = entry_of k n h in
        let has = has_entry k n an_entry in
        let x = has.0 in
        let lies : lies_on way.back way.strict way.low.now (option_copied way.high) x.key ≡ true = ap (lies_on way.back way.strict way.low.now (option_copied way.high)) has.2 ∙ is.all k an_entry.within after in
        let there = in_filter test (walk_of way all) x (in_walk way.strict way.low.now (option_copied way.high) all way.back x has.1 lies) (tested k n h x has.2 has.3) in
        let pair : entry x ≡ (k, n) = λ j. (has.2 j, (ap number_of has.2 ∙ has.3) j) in
        elim (first_or descending most walked x walked_ordered there) [
          | inl first ↦ inl (subst (Contains (map entry (take most walked))) pair (contains_mapped entry (take most walked) x first))
          | inr full ↦ inr (
            map_length (take most walked) ∙ full.0,
            λ y m there_y.
                let from = mapped_contains entry (take most walked) (y, m) there_y in
                let keys : from.0.key ≡ y = ap (λ (p : List ℕ × ℕ). p.0) from.2 in
                subst (λ (q : List ℕ). key_cmp descending q k ≡ Less) keys (subst (λ (q : List ℕ). key_cmp descending from.0.key q ≡ Less) has.2 (full.1 from.0 from.1)),
          )
        ]

    has_walked : (before after : List ℕ) → after ≡ before ++ numbers_in (take most walked) → HasWalked Is descending cursor most before after
    has_walked before after added = record {
      entries = map entry (take most walked);
      first = record {
        rising = keys_ordered descending (take most walked) (ordered_taken descending most walked walked_ordered);
        few = omega (arith, map_length (take most walked), few_taken most walked);
        only = only;
        all = reached;
      };
      added = added ∙ ap (λ l. before ++ l) (numbers_are (take most walked));
    }

nowhere : Entry
nowhere = record { name = []; kind = kinds.Cstr; root = 0 }

-- The numbers of the keys on a way over an index, if there is one.
module _ (page_state : ℕ → PageState) (w : ℕ → ℕ → ℕ) (page : ℕ) (s : State) (version : IsVersion page_state w page s) (name low : List ℕ) (high : Option (List ℕ)) (descending : Bool) (cursor : Option (List ℕ))
    (way : Way) (is : IsWayOf low high descending cursor way) (most : ℕ) (before after : List ℕ) where
  abbrev contents : Contents
  contents = contents_of (w page)

  abbrev Walked : Type 0
  Walked = HasWalked (IsEntry s name low high) descending cursor most before after

  walked_by : (index : Option FoundIndex) → IsFound contents.entries name index → IfSome index (λ i. after ≡ before ++ numbers_in (take most (walk_of way (pairs w i.root)))) →
      IfNone index (after ≡ before) → Walked
  walked_by None found added same =
      subst (HasWalked (IsEntry s name low high) descending cursor most before) (sym same)
      (none_walked (IsEntry s name low high) descending cursor most before (λ k n e. no_key w contents s name found.absent.0 version.encodes found.absent.1 k e.is_key))
  walked_by (Some index) found added same =
      let tree = entry_tree page_state w contents index.place nowhere version.in_hand found.named.in_range in
      let own = pairs w (get_or contents.entries index.place nowhere).root in
      has_walked w contents s name index.place nowhere version.encodes found.named version.sound (tree_rising page_state w (get_or contents.entries index.place nowhere).root tree) low high
      (IsEntry s name low high) (λ x. true) (λ x e t. e) (λ k n e. e) (λ k n e x same node. refl) descending cursor way is most before after
      (added ∙ ap (λ (r : ℕ). before ++ numbers_in (take most (walk_of way (pairs w r)))) (found.root nowhere) ∙ ap (λ (xs : List Pair). before ++ numbers_in (take most xs)) (sym (all_pass (walk_of way own))))

  pub numbers_walked : HasNumbers w contents.entries name way most before after → Walked
  numbers_walked h = walked_by h.index h.found h.added h.same

-- The nodes of the keys that are on a way over an index and pass a test.
module _ (page_state : ℕ → PageState) (w : ℕ → ℕ → ℕ) (page : ℕ) (s : State) (version : IsVersion page_state w page s) (name low : List ℕ) (high : Option (List ℕ)) (test : KeyTest) (descending : Bool)
    (cursor : Option (List ℕ)) (way : Way) (is : IsWayOf low high descending cursor way) (most : ℕ) (nodes : List ℕ) where
  pub passing_walked : HasPassing w (contents_of (w page)).entries name way test most nodes → HasWalked (IsPassing s name low high test) descending cursor most [] nodes
  passing_walked h =
      let contents = contents_of (w page) in
      let place = h.index.place in
      let named = h.found.named in
      let own = get_or contents.entries place nowhere in
      let walk_own = walk_of way (pairs w own.root) in
      let of_texts : reads_texts test ≡ true → own.kind ≡ kinds.Cstr = λ e. sym (h.found.kind nowhere) ∙ h.has_texts e in
      let says = passes_as_node w contents s name place nowhere version.encodes named version.sound test of_texts low high in
      has_walked w contents s name place nowhere version.encodes named version.sound (tree_rising page_state w own.root (entry_tree page_state w contents place nowhere version.in_hand named.in_range)) low high
      (IsPassing s name low high test) (λ x. passes_key test x.key (number_of x.key))
      (λ x e t. (e, sym (says x.key (number_of x.key) e.is_key e.node_is) ∙ t))
      (λ k n e. e.0)
      (λ k n e x same node. ap (λ q. passes_key test q (number_of q)) same ∙ ap (passes_key test k) node ∙ says k n e.0.is_key e.0.node_is ∙ e.1)
      descending cursor way is most [] nodes
      (h.nodes_are
      ∙ ap (λ (r : ℕ). take most (nodes_passing test (walk_of way (pairs w r)))) (h.found.root nowhere)
      ∙ ap (take most) (numbers_passing test walk_own)
      ∙ numbers_taken most (filter (λ x. passes_key test x.key (number_of x.key)) walk_own))
