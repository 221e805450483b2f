-- Arbitrary nodes of a query that a range decides, found by walking over as many keys. Also, no
-- node occurs twice in the order of an index.
use Rattle.std.proofs.Common.{◌≡◌, ◌≢◌, ◌<◌, ℕ, suc, Bool, true, false, ◌&&◌, List, [], ◌∷◌, refl, sym, ap, ◌∙◌, subst, arith, Some, None, take, length, get_or, min}
use Rattle.std.specs.Prelude.{T, slice_index}
use Rattle.std.proofs.lemmas.Cmp.{eq_by_cmp_equiv, nat_cmp_total}
use Rattle.std.proofs.lemmas.Map.Keys.{apart_from_distinct}
use Rattle.std.proofs.lemmas.Map.Made.{length-from_same_keys}
use Rattle.std.proofs.lemmas.Option.{same_Some}
use Rattle.std.specs.Cmp.{both_ways, tied_itself}
use Rattle.std.specs.FinMap as fin
use Rattle.std.specs.FinMap.Entries.{below_all, is_sorted}
use Rattle.std.specs.List.{AllByRecursion, Contains, IsDistinct}
use Rattle.std.specs.Option.{option_map_or}
use Rattle.std.specs.Ordering.{eq_by_cmp, is_lt, nat_cmp}
use Rattle.std.specs.declared.cmp.Ordering.{Ordering}
use Rattle.std.specs.declared.cmp.Ordering.TheVariants.{Less, Equal, Greater}
use Rattle.std.specs.declared.option.Option.{Option}
use Rattle.be_value.specs.Key.{key}
use Rattle.be_value.specs.declared.values.Kind.{Kind}
use Rattle.be_value.specs.declared.values.Value.{Value}
use Rattle.be_query.specs.Grammar.{Formula, Leaf, And, Or}
use Rattle.be_volume.specs.Query.{holds, sat, scan, sees}
use Rattle.be_volume.specs.Reading.{index_kind}
use Rattle.be_volume.specs.Sound.{IsSound}
use Rattle.be_volume.specs.Volume.{State}
use Rattle.be_plan.specs.Prepared.{Decides}
use Rattle.be_plan.specs.Walk.{AreAllOn}
use Rattle.be_plan.proofs.Rising.{Rises, contains_of_is_in, in_by_place, is_in, rises_filter, rises_keys, the_same}
use Rattle.be_plan.proofs.Ways.{and_first}
use Rattle.be_order.specs.Firsts.{IsAnyOf}
use Rattle.be_order.specs.Ordered.{after, in_order, key_cmp, nodes_of}
use Rattle.be_order.specs.Walks.{AreFirst, IsEntry}
use Rattle.be_order.proofs.Filters.{from_filter}
use Rattle.be_order.proofs.Fronts.{at_contained, contained_at, sorted_keys}
use Rattle.be_order.proofs.IndexParts.{is_there, sorted_rest, there_is}
use Rattle.be_order.proofs.KeyLists.{key_total}
use Rattle.be_order.proofs.PageKeys.{contains_mapped, mapped_contains}
use Rattle.be_order.proofs.Walked.{scan_is, scanned, walked_are}
use Rattle.be_order.proofs.WalkedPages.{contains_front, length_take, nodes_length}

abbrev Entries : Type 0
Entries = List (List ℕ × ℕ)

abbrev pub same_node : ℕ → ℕ → Bool
same_node = eq_by_cmp nat_cmp

first : (a b : Bool) → T (a && b) → T a
first true b p = tt
first false b p = p

second : (a b : Bool) → T (a && b) → T b
second true b p = p
second false b p = absurd p

less : (o : Ordering) → T (is_lt o) → o ≡ Less
less Less p = refl
less Equal p = absurd p
less Greater p = absurd p

later : {X : Type 0} (y : X) (xs : List X) (x : X) → Contains xs x → Contains (y ∷ xs) x
later y xs x h = (suc h.0, omega (arith, h.1), h.2)

-- If all comparisons are on two names, the names are equal.
pub one_name : (f : Formula) (a b : List ℕ) → AreAllOn f a → AreAllOn f b → a ≡ b
one_name (Leaf own op literal) a b p q = sym p ∙ q
one_name (And f g) a b p q = one_name f a b p.0 q.0
one_name (Or f g) a b p q = absurd p

-- If comparisons on one name are true of a node, that name sees a value for it.
seen_true : (s : State) (f : Formula) (name : List ℕ) (n : ℕ) → AreAllOn f name → sat s f n ≡ true → (value : Value) × (sees s n name ≡ Some value)
seen_true s (Leaf own op literal) name n on h = at (sees s n own) refl h
  where
    at : (seen : Option Value) → sees s n own ≡ seen → option_map_or (λ value. holds op value literal) seen false ≡ true → (value : Value) × (sees s n name ≡ Some value)
    at None e g = cc
    at (Some value) e g = (value, ap (sees s n) (sym on) ∙ e)
seen_true s (And a b) name n on h = seen_true s a name n on.0 (and_first (sat s a n) (sat s b n) h)
seen_true s (Or a b) name n on h = absurd on

below_no_other : (x : ℕ) (ys : List ℕ) → ((n : ℕ) → is_in n ys ≡ true → x < n) → AllByRecursion (λ y. same_node x y ≡ false) ys
below_no_other x [] h = tt
below_no_other x (y ∷ ys) h = (by (same_node x y) refl, below_no_other x ys (λ n i. h n (in_by_place (y ∷ ys) n (later y ys n (contains_of_is_in ys n i)))))
  where
    by : (b : Bool) → same_node x y ≡ b → same_node x y ≡ false
    by true e = let same : x ≡ y = the_same x y e in let lt : x < y = h y (in_by_place (y ∷ ys) y (0, omega arith, refl)) in absurd (omega arith)
    by false e = e

-- In a strictly ascending list, each number occurs once.
pub rises_once : (xs : List ℕ) → Rises xs → IsDistinct same_node xs
unfolding IsDistinct
rises_once [] r = tt
rises_once (x ∷ xs) r = (below_no_other x xs r.0, rises_once xs r.1)

-- In a list without duplicates, nodes at different positions are different.
pub places_apart : (ns : List ℕ) → IsDistinct same_node ns → (i j : ℕ) → i < j → j < length ns → slice_index ns i ≢ slice_index ns j
places_apart ns once i j less below same =
    let apart : same_node (get_or ns i 0) (get_or ns j 0) ≡ false = apart_from_distinct same_node ns i j 0 once less below in
    let alike : same_node (get_or ns i 0) (get_or ns j 0) ≡ true = ap (same_node (get_or ns i 0)) (sym same) ∙ (eq_by_cmp_equiv nat_cmp_total).refl (get_or ns i 0) in
    cc

module _ (s : State) (by : List ℕ) (descending : Bool) where
  -- The key is that of the value seen for the node.
  abbrev pub Keyed : List ℕ → ℕ → Type 0
  Keyed k n = (value : Value) × (sees s n by ≡ Some value) × (k ≡ key value n)

  one_key : (k l : List ℕ) (n : ℕ) → Keyed k n → Keyed l n → k ≡ l
  one_key k l n a b = a.2 ∙ ap (λ v. key v n) (same_Some a.0 b.0 (sym a.1 ∙ b.1)) ∙ sym b.2

  apart_all : (k : List ℕ) (n : ℕ) (es : Entries) → Keyed k n → T (below_all (key_cmp descending) k es) → ((l : List ℕ) (m : ℕ) → Contains es (l, m) → Keyed l m) →
      AllByRecursion (λ m. same_node n m ≡ false) (nodes_of es)
  apart_all k n [] h below keyed = tt
  apart_all k n (e ∷ es) h below keyed = (apart (same_node n e.1) refl, apart_all k n es h (second _ _ below) (λ l m i. keyed l m (later e es (l, m) i)))
    where
      apart : (b : Bool) → same_node n e.1 ≡ b → same_node n e.1 ≡ false
      apart true is =
          let there : Keyed e.0 n = subst (Keyed e.0) (sym (the_same n e.1 is)) (keyed e.0 e.1 (0, omega arith, refl)) in
          let keys : k ≡ e.0 = one_key k e.0 n h there in
          let under : key_cmp descending k k ≡ Less = ap (key_cmp descending k) keys ∙ less _ (first _ _ below) in
          let tied : key_cmp descending k k ≡ Equal = tied_itself (key_total descending) k in
          cc
      apart false is = is

  -- No node occurs twice in the order of an index.
  pub nodes_once : (es : Entries) → T (is_sorted (key_cmp descending) es) → ((l : List ℕ) (m : ℕ) → Contains es (l, m) → Keyed l m) → IsDistinct same_node (nodes_of es)
  unfolding IsDistinct
  nodes_once [] up keyed = tt
  nodes_once (e ∷ es) up keyed = (
    apart_all e.0 e.1 es (keyed e.0 e.1 (0, omega arith, refl)) (first _ _ up) (λ l m i. keyed l m (later e es (l, m) i)),
    nodes_once es (second _ _ up) (λ l m i. keyed l m (later e es (l, m) i)),
  )

module _ (s : State) (sound : IsSound s) (f : Formula) (by : List ℕ) (kind : Kind) (is : index_kind s by ≡ Some kind) (on : AreAllOn f by) (low : List ℕ) (high : Option (List ℕ)) (decides : Decides f kind low high) where
  abbrev nodes : List ℕ
  nodes = scanned s sound f by kind is on low high decides

  abbrev rest : Entries
  rest = after false None (in_order s by false nodes)

  keyed_rest : (k : List ℕ) (n : ℕ) → Contains rest (k, n) → Keyed s by false k n × Contains nodes n
  keyed_rest k n h =
      let one = there_is s sound by kind is false None nodes k n (at_contained false k n rest (sorted_rest s sound by kind is false None nodes) h) in
      ((one.1.0, one.1.2, one.1.3), one.1.1)

  rest_once : IsDistinct same_node (nodes_of rest)
  rest_once = nodes_once s by false rest (sorted_rest s sound by kind is false None nodes) (λ k n h. (keyed_rest k n h).0)

  scanned_once : IsDistinct same_node nodes
  scanned_once = rises_once nodes (rises_filter (sat s f) (fin.keys s.nodes) (rises_keys s.nodes))

  in_nodes : (n : ℕ) → is_in n (nodes_of rest) ≡ true → is_in n nodes ≡ true
  in_nodes n h =
      let e = mapped_contains (λ (e : List ℕ × ℕ). e.1) rest n (contains_of_is_in (nodes_of rest) n h) in
      in_by_place nodes n (subst (Contains nodes) e.2 (keyed_rest e.0.0 e.0.1 e.1).1)

  in_rest : (n : ℕ) → is_in n nodes ≡ true → is_in n (nodes_of rest) ≡ true
  in_rest n h =
      let there : Contains nodes n = contains_of_is_in nodes n h in
      let seen = seen_true s f by n on (from_filter (sat s f) (fin.keys s.nodes) n there).1 in
      let found = is_there s sound by kind is false None nodes (key seen.0 n) n refl (seen.0, there, seen.1, refl) in
      in_by_place (nodes_of rest) n (contains_mapped (λ (e : List ℕ × ℕ). e.1) rest (key seen.0 n, n) (contained_at false (key seen.0 n) n rest found))

  -- The range contains as many nodes as the scan.
  as_many : length rest ≡ length nodes
  as_many = sym (nodes_length rest)
      ∙ length-from_same_keys (eq_by_cmp_equiv nat_cmp_total) (nodes_of rest) nodes rest_once scanned_once (λ n. both_ways _ _ (in_nodes n) (in_rest n))

  module _ (most : ℕ) (es : Entries) (firsts : AreFirst (IsEntry s by low high) false None most es) where
    front : es ≡ take most rest
    front = walked_are s sound f by kind is on low high decides false None most es firsts

    in_front : (e : List ℕ × ℕ) → Contains es e → Contains rest e
    in_front e h = contains_front most rest e (subst (λ (l : Entries). Contains l e) front h)

    sorted_front : T (is_sorted (key_cmp false) es)
    sorted_front = sorted_keys false es firsts.rising

    few : IsAnyOf (scan s f) most (nodes_of es)
    few = record {
      all = nodes;
      is = scan_is s sound f by kind is on low high decides;
      among = λ n h.
          let e = mapped_contains (λ (e : List ℕ × ℕ). e.1) es n h in
          subst (Contains nodes) e.2 (keyed_rest e.0.0 e.0.1 (in_front e.0 e.1)).1;
      once = places_apart (nodes_of es) (nodes_once s by false es sorted_front (λ k n h. (keyed_rest k n (in_front (k, n) h)).0));
      count = nodes_length es ∙ ap length front ∙ length_take most rest ∙ ap (min most) as_many;
    }

    -- The nodes that the walk found are nodes of the scan, and there are as many as requested.
    pub any_walked : (found : List ℕ) → found ≡ nodes_of es → IsAnyOf (scan s f) most found
    any_walked found found_is = subst (IsAnyOf (scan s f) most) (sym found_is) few
