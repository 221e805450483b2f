-- The keys of a page, derived from the nodes of an answer.
use Rattle.std.proofs.Common.{◌≡◌, ◌<◌, ◌≤◌, ◌^◌, ℕ, zero, suc, Bool, true, false, cond, ◌||◌, List, [], ◌∷◌, ◌++◌, refl, sym, ap, ◌∙◌, subst, arith, Some, None, map, unwrap_or, take, length, length-append, nat_lt, nat_eq, append-nil}
use Rattle.std.specs.List.{Contains, AllByRecursion, flat_map, dedup}
use Rattle.std.specs.List.Retain.{IsFiltered, DiffersFromLast}
use Rattle.std.specs.List.Sorted.{IsPermutation, IsSortedBy, IsStrictlySortedBy}
use Rattle.std.specs.Option.{option_map, option_map_or}
use Rattle.std.specs.Int.{to_be_bytes, w64}
use Rattle.std.specs.Ordering.{is_eq, is_lt, eq_by_cmp}
use Rattle.std.specs.Cmp.{on_total, on_equiv}
use Rattle.std.specs.Cmp.Lexicographic.{pointwise, texts_ties}
use Rattle.std.proofs.lemmas.Cmp.{nat_list_eq_equiv}
use Rattle.std.proofs.lemmas.Grind.{flat_map-append}
use Rattle.std.proofs.lemmas.List.Elements.{filter-append}
use Rattle.std.proofs.lemmas.List.Filters.{dedup_is}
use Rattle.std.proofs.lemmas.List.Kept.{IsStrictlySortedBy-dedup, Contains-dedup, Contains-from_dedup}
use Rattle.std.proofs.lemmas.List.Sorted.{Contains-permutation, IsPermutation-sym}
use Rattle.std.specs.FinMap as fin
use Rattle.std.specs.FinMap.Entries.{find}
use Rattle.std.specs.declared.option.Option.{Option}
use Rattle.std.specs.declared.cmp.Ordering.{Ordering}
use Rattle.std.specs.declared.cmp.Ordering.TheVariants.{Less, Equal, Greater}
use Rattle.arrayvec.specs.ArrayVec.{ArrayVec}
use Rattle.be_value.specs.Key.{key, value_key}
use Rattle.be_value.specs.declared.values.Kind.{Kind}
use Rattle.be_value.specs.declared.values.Value.{Value}
use Rattle.be_volume.specs.Query.{sees, seen_in}
use Rattle.be_volume.specs.Reading.{attribute, index_kind}
use Rattle.be_volume.specs.Sound.{IsSound, IsPaired}
use Rattle.be_volume.specs.Volume.{State}
use Rattle.be_volume.specs.declared.maps.Index.{Index}
use Rattle.be_order.specs.Ordered.{after, bytes_of, cursor_at, in_order, is_after, key_after, key_cmp, keyed, keys_of, nodes_of, page_of, page_with, EndsWith}
use Rattle.be_order.proofs.KeyLists.{key_total, is_same, is_key_in, is_in_contained, same_members, node_for, with_nodes, in_order_is}

module _ {X Y : Type 0} (f : X → Y) where
  all_mapped : (P : Y → Type 0) (xs : List X) → AllByRecursion (λ x. P (f x)) xs → AllByRecursion P (map f xs)
  all_mapped P [] h = tt
  all_mapped P (x ∷ xs) h = (h.0, all_mapped P xs h.1)

  pub sorted_mapped : (R : Y → Y → Ordering) (xs : List X) → IsStrictlySortedBy (λ a b. R (f a) (f b)) xs → IsStrictlySortedBy R (map f xs)
  unfolding IsStrictlySortedBy
  sorted_mapped R [] h = tt
  sorted_mapped R (x ∷ xs) h = (all_mapped (λ y. R (f x) y ≡ Less) xs h.0, sorted_mapped R xs h.1)

  pub contains_mapped : (xs : List X) (x : X) → Contains xs x → Contains (map f xs) (f x)
  contains_mapped [] x (k, below, is) = absurd (omega arith)
  contains_mapped (y ∷ xs) x (zero, below, is) = (0, omega arith, ap f is)
  contains_mapped (y ∷ xs) x (suc k, below, is) =
      let later : Contains (map f xs) (f x) = contains_mapped xs x (k, omega arith, is) in
      (suc later.0, omega (arith, later.1), later.2)

  pub mapped_contains : (xs : List X) (y : Y) → Contains (map f xs) y → (x : X) × Contains xs x × (f x ≡ y)
  mapped_contains [] y (k, below, is) = absurd (omega arith)
  mapped_contains (x ∷ xs) y (zero, below, is) = (x, (0, omega arith, refl), is)
  mapped_contains (x ∷ xs) y (suc k, below, is) =
      let found : (z : X) × Contains xs z × (f z ≡ y) = mapped_contains xs y (k, omega arith, is) in
      (found.0, (suc found.1.0, omega (arith, found.1.1), found.1.2), found.2)

-- Keys with the same bytes are the same.
abbrev same_bytes : ArrayVec ℕ → ArrayVec ℕ → Bool
same_bytes a b = pointwise nat_eq a.items b.items

is_bytes : (o : Ordering) → is_eq o ≡ true → o ≡ Equal
is_bytes Less h = cc
is_bytes Equal h = refl
is_bytes Greater h = cc

same_key : (a b : ArrayVec ℕ) → same_bytes a b ≡ true → a ≡ b
same_key a b h =
    let items : a.items ≡ b.items = is_same false a.items b.items (sym (texts_ties a.items b.items) ∙ h) in
    let make : List ℕ → ArrayVec ℕ = λ l. record { items = l } in
    ap make items

ties : (descending : Bool) (a b : ArrayVec ℕ) → same_bytes a b ≡ eq_by_cmp (λ (x : ArrayVec ℕ) (y : ArrayVec ℕ). key_cmp descending x.items y.items) a b
ties true a b = nat_list_eq_equiv.symm a.items b.items ∙ texts_ties b.items a.items
ties false a b = texts_ties a.items b.items

-- Keys that have been sorted and then deduplicated.
module _ (descending : Bool) (xs ys zs : List (ArrayVec ℕ)) (moved : IsPermutation xs ys)
    (up : IsSortedBy (λ (x : ArrayVec ℕ) (y : ArrayVec ℕ). is_lt (key_cmp descending x.items y.items)) ys) (left : IsFiltered (DiffersFromLast same_bytes) [] ys zs) where
  once : zs ≡ dedup same_bytes ys
  once = dedup_is same_bytes ys zs left

  pub rises_once : IsStrictlySortedBy (key_cmp descending) (bytes_of zs)
  rises_once = sorted_mapped (λ (k : ArrayVec ℕ). k.items) (key_cmp descending) zs
      (subst (IsStrictlySortedBy (λ (x : ArrayVec ℕ) (y : ArrayVec ℕ). key_cmp descending x.items y.items)) (sym once)
      (IsStrictlySortedBy-dedup (on_total (λ (k : ArrayVec ℕ). k.items) (key_total descending)) (ties descending) ys up))

  pub keeps_once : (k : List ℕ) → Contains (bytes_of xs) k → Contains (bytes_of zs) k
  keeps_once k h =
      let found : (x : ArrayVec ℕ) × Contains xs x × (x.items ≡ k) = mapped_contains (λ (v : ArrayVec ℕ). v.items) xs k h in
      let kept : Contains (dedup same_bytes ys) found.0 =
      Contains-dedup (on_equiv (λ (v : ArrayVec ℕ). v.items) nat_list_eq_equiv) same_key ys found.0 (Contains-permutation xs ys found.0 moved found.1) in
      subst (Contains (bytes_of zs)) found.2 (contains_mapped (λ (v : ArrayVec ℕ). v.items) zs found.0 (subst (λ l. Contains l found.0) (sym once) kept))

  pub only_once : (k : List ℕ) → Contains (bytes_of zs) k → Contains (bytes_of xs) k
  only_once k h =
      let found : (x : ArrayVec ℕ) × Contains zs x × (x.items ≡ k) = mapped_contains (λ (v : ArrayVec ℕ). v.items) zs k h in
      let there : Contains ys found.0 = Contains-from_dedup same_bytes ys found.0 (subst (λ l. Contains l found.0) once found.1) in
      subst (Contains (bytes_of xs)) found.2 (contains_mapped (λ (v : ArrayVec ℕ). v.items) xs found.0 (Contains-permutation ys xs found.0 (IsPermutation-sym xs ys moved) there))

-- A node without an attribute of this name has no pair in the name's index.
pub seen_nothing : (s : State) → IsSound s → (name : List ℕ) (node : ℕ) → attribute s node name ≡ None → None ≡ sees s node name
seen_nothing s sound name node is = by (fin.get s.indices name) refl
  where
    pair : (index : Index) → fin.get s.indices name ≡ Some index → (found : Option Value) → fin.get index.pairs node ≡ found → None ≡ found
    pair index there None got = refl
    pair index there (Some value) got =
        let paired : IsPaired s name index.kind node value = sound.pairs name index node value there got in
        let no : None ≡ Some value = sym is ∙ paired.attribute_is in
        cc

    by : (found : Option Index) → fin.get s.indices name ≡ found → None ≡ seen_in found (attribute s node name) node
    by None there = sym is
    by (Some index) there = pair index there _ refl

-- A key with its node.
abbrev pub entry : ℕ → List ℕ → List (List ℕ × ℕ)
entry node k = (k, node) ∷ []

abbrev pub bytes_if : Option (ArrayVec ℕ) → Option (List ℕ)
bytes_if = option_map (λ (k : ArrayVec ℕ). k.items)

module _ (s : State) (by : List ℕ) where
  -- The entry of a node, given the key that was found for it.
  keyed_by : (node : ℕ) (found : Option (ArrayVec ℕ)) → bytes_if found ≡ option_map (λ value. key value node) (sees s node by) →
      keyed s by node ≡ option_map_or (entry node) (bytes_if found) []
  keyed_by node found e = at (sees s node by) ∙ ap (λ (o : Option (List ℕ)). option_map_or (entry node) o []) (sym e)
    where
      at : (seen : Option Value) → option_map_or (λ value. entry node (key value node)) seen [] ≡ option_map_or (entry node) (option_map (λ value. key value node) seen) []
      at None = refl
      at (Some value) = refl

  module _ (descending : Bool) (cursor : Option (List ℕ)) where
    -- The keys of these nodes.
    abbrev pub keys_for : List ℕ → List (List ℕ)
    keys_for nodes = keys_of (after descending cursor (flat_map (keyed s by) nodes))

    first_append : (xs ys : List (List ℕ × ℕ)) → keys_of (xs ++ ys) ≡ keys_of xs ++ keys_of ys
    first_append [] ys = refl
    first_append (x ∷ xs) ys = ap (λ l. x.0 ∷ l) (first_append xs ys)

    one_more : (nodes : List ℕ) (node : ℕ) → keys_for (nodes ++ node ∷ []) ≡ keys_for nodes ++ keys_of (after descending cursor (keyed s by node))
    one_more nodes node =
        ap (λ l. keys_of (after descending cursor l)) (flat_map-append (keyed s by) nodes (node ∷ []) ∙ ap (λ l. flat_map (keyed s by) nodes ++ l) (append-nil (keyed s by node)))
        ∙ ap keys_of (filter-append (λ (e : List ℕ × ℕ). is_after descending cursor e.0) (flat_map (keyed s by) nodes) (keyed s by node))
        ∙ first_append (after descending cursor (flat_map (keyed s by) nodes)) (after descending cursor (keyed s by node))

    -- The key of one more node.
    pub found_more : (nodes : List ℕ) (node : ℕ) (found : Option (ArrayVec ℕ)) → bytes_if found ≡ option_map (λ value. key value node) (sees s node by) →
        keys_for (nodes ++ node ∷ []) ≡ keys_for nodes ++ key_after descending cursor (bytes_if found)
    found_more nodes node found e =
        one_more nodes node
        ∙ ap (λ l. keys_for nodes ++ keys_of (after descending cursor l)) (keyed_by node found e)
        ∙ ap (λ l. keys_for nodes ++ l) (at (bytes_if found))
      where
        chosen : (k : List ℕ) (b : Bool) → keys_of (cond b (entry node k) []) ≡ cond b (k ∷ []) []
        chosen k true = refl
        chosen k false = refl

        at : (k : Option (List ℕ)) → keys_of (after descending cursor (option_map_or (entry node) k [])) ≡ key_after descending cursor k
        at None = refl
        at (Some k) = chosen k (is_after descending cursor k)

-- Every key ends with its node.
abbrev Ends : List (List ℕ × ℕ) → Type 0
Ends = AllByRecursion (λ (e : List ℕ × ℕ). EndsWith e.0 e.1)

ends_append : (xs ys : List (List ℕ × ℕ)) → Ends xs → Ends ys → Ends (xs ++ ys)
ends_append [] ys h g = g
ends_append (x ∷ xs) ys h g = (h.0, ends_append xs ys h.1 g)

ends_after : (descending : Bool) (cursor : Option (List ℕ)) (es : List (List ℕ × ℕ)) → Ends es → Ends (after descending cursor es)
ends_after descending cursor [] h = tt
ends_after descending cursor (e ∷ es) h = by (is_after descending cursor e.0) (ends_after descending cursor es h.1)
  where
    by : (b : Bool) → Ends (after descending cursor es) → Ends (cond b (e ∷ after descending cursor es) (after descending cursor es))
    by true rest = (h.0, rest)
    by false rest = rest

module _ (s : State) (sound : IsSound s) (by : List ℕ) (kind : Kind) (is : index_kind s by ≡ Some kind) where
  seen_fits : (node : ℕ) (value : Value) → sees s node by ≡ Some value → node < 2 ^ 64
  seen_fits node value seen = at (fin.get s.indices by) refl is seen
    where
      at : (found : Option Index) → fin.get s.indices by ≡ found → option_map (λ (i : Index). i.kind) found ≡ Some kind → seen_in found (attribute s node by) node ≡ Some value → node < 2 ^ 64
      at None there e t = cc
      at (Some index) there e t = (sound.pairs by index node value there t).node_fits

  ends_keyed : (nodes : List ℕ) → Ends (flat_map (keyed s by) nodes)
  ends_keyed [] = tt
  ends_keyed (node ∷ nodes) = ends_append (keyed s by node) (flat_map (keyed s by) nodes) (at (sees s node by) refl) (ends_keyed nodes)
    where
      at : (seen : Option Value) → sees s node by ≡ seen → Ends (option_map_or (λ value. entry node (key value node)) seen [])
      at None e = tt
      at (Some value) e = (record { front = value_key value; fits = seen_fits node value e; is = refl }, tt)

module _ (descending : Bool) where
  node_ends : (es : List (List ℕ × ℕ)) → Ends es → (k : List ℕ) → is_key_in descending k (keys_of es) ≡ true → EndsWith k (node_for descending es k)
  node_ends [] h k there = cc
  node_ends (e ∷ es) h k there = by (eq_by_cmp (key_cmp descending) k e.0) refl there (λ t. node_ends es h.1 k t)
    where
      by : (b : Bool) → eq_by_cmp (key_cmp descending) k e.0 ≡ b → (b || is_key_in descending k (keys_of es)) ≡ true → (is_key_in descending k (keys_of es) ≡ true → EndsWith k (node_for descending es k)) →
          EndsWith k (unwrap_or (cond b (Some e.1) (find (key_cmp descending) k es)) 0)
      by true is there more = let P : List ℕ → Type 0 = λ l. EndsWith l e.1 in subst P (sym (is_same descending k e.0 is)) h.0
      by false is there more = more there

  module _ (g : List ℕ → ℕ) where
    take_nodes : (n : ℕ) (ks : List (List ℕ)) → take n (with_nodes descending g ks) ≡ with_nodes descending g (take n ks)
    take_nodes zero ks = refl
    take_nodes (suc n) [] = refl
    take_nodes (suc n) (k ∷ ks) = ap (λ l. (k, g k) ∷ l) (take_nodes n ks)

    nodes_with : (ks : List (List ℕ)) → nodes_of (with_nodes descending g ks) ≡ map g ks
    nodes_with [] = refl
    nodes_with (k ∷ ks) = ap (λ l. g k ∷ l) (nodes_with ks)

    keys_with : (ks : List (List ℕ)) → keys_of (with_nodes descending g ks) ≡ ks
    keys_with [] = refl
    keys_with (k ∷ ks) = ap (λ l. k ∷ l) (keys_with ks)

    length_with : (ks : List (List ℕ)) → length (with_nodes descending g ks) ≡ length ks
    length_with [] = refl
    length_with (k ∷ ks) = ap suc (length_with ks)

    page_from : (cursor : Option (List ℕ)) (most : ℕ) (ks : List (List ℕ)) (nodes : List ℕ) (last : Option (List ℕ)) (more : Bool) →
        nodes ≡ map g (take most ks) → last ≡ cursor_at cursor (take most ks) → more ≡ nat_lt most (length ks) →
        page_of cursor most (with_nodes descending g ks) ≡ page_with nodes last more
    page_from cursor most ks nodes last more n c m =
        let taken = take_nodes most ks in
        let e : nodes_of (take most (with_nodes descending g ks)) ≡ nodes = ap nodes_of taken ∙ nodes_with (take most ks) ∙ sym n in
        let f : cursor_at cursor (keys_of (take most (with_nodes descending g ks))) ≡ last = ap (cursor_at cursor) (ap keys_of taken ∙ keys_with (take most ks)) ∙ sym c in
        let h : nat_lt most (length (with_nodes descending g ks)) ≡ more = ap (nat_lt most) (length_with ks) ∙ sym m in
        λ i. record { nodes = e i; more = h i; cursor = f i }

bytes_take : (n : ℕ) (ks : List (ArrayVec ℕ)) → bytes_of (take n ks) ≡ take n (bytes_of ks)
bytes_take zero ks = refl
bytes_take (suc n) [] = refl
bytes_take (suc n) (k ∷ ks) = ap (λ l. k.items ∷ l) (bytes_take n ks)

length_bytes : (ks : List (ArrayVec ℕ)) → length (bytes_of ks) ≡ length ks
length_bytes [] = refl
length_bytes (k ∷ ks) = ap suc (length_bytes ks)

contains_take : (n : ℕ) (ks : List (List ℕ)) (k : List ℕ) → Contains (take n ks) k → Contains ks k
contains_take zero ks k h = absurd (omega (arith, h.1))
contains_take (suc n) [] k h = h
contains_take (suc n) (x ∷ ks) k (zero, below, is) = (0, omega arith, is)
contains_take (suc n) (x ∷ ks) k (suc i, below, is) =
    let later : Contains ks k = contains_take n ks k (i, omega arith, is) in
    (suc later.0, omega (arith, later.1), later.2)

-- The page made from the nodes of an answer, using the keys that they have after the cursor.
module _ (s : State) (sound : IsSound s) (by : List ℕ) (kind : Kind) (is : index_kind s by ≡ Some kind) (descending : Bool) (cursor : Option (List ℕ)) (nodes : List ℕ) (first last : List (ArrayVec ℕ))
    (keys : bytes_of first ≡ keys_of (after descending cursor (flat_map (keyed s by) nodes)))
    (keeps : (k : List ℕ) → Contains (bytes_of first) k → Contains (bytes_of last) k)
    (only : (k : List ℕ) → Contains (bytes_of last) k → Contains (bytes_of first) k) where
  abbrev left : List (List ℕ × ℕ)
  left = after descending cursor (flat_map (keyed s by) nodes)

  members : (k : List ℕ) → is_key_in descending k (bytes_of last) ≡ is_key_in descending k (keys_of left)
  members k = same_members descending (bytes_of last) (bytes_of first) only keeps k ∙ ap (is_key_in descending k) keys

  -- Every key ends with the node that it belongs to.
  pub last_ends : (k : List ℕ) → Contains (bytes_of last) k → EndsWith k (node_for descending left k)
  last_ends k h = node_ends descending left (ends_after descending cursor _ (ends_keyed s sound by kind is nodes)) k
      (sym (members k) ∙ is_in_contained descending (bytes_of last) k h)

  pub last_long : (k : List ℕ) → Contains (bytes_of last) k → 8 ≤ length k
  last_long k h =
      let e : EndsWith k (node_for descending left k) = last_ends k h in
      omega (arith, ap length e.is, length-append e.front (to_be_bytes w64 (node_for descending left k)))

  module _ (most : ℕ) (kept : List (ArrayVec ℕ)) (few : kept ≡ take most last) where
    kept_is : bytes_of kept ≡ take most (bytes_of last)
    kept_is = ap bytes_of few ∙ bytes_take most last

    in_last : (k : List ℕ) → Contains (bytes_of kept) k → Contains (bytes_of last) k
    in_last k h = contains_take most (bytes_of last) k (subst (λ l. Contains l k) kept_is h)

    pub kept_long : (k : List ℕ) → Contains (bytes_of kept) k → 8 ≤ length k
    kept_long k h = last_long k (in_last k h)

    pub page_made : (found : List ℕ) (left_cursor : Option (List ℕ)) (more : Bool) → IsStrictlySortedBy (key_cmp descending) (bytes_of last) →
        ((node_for : List ℕ → ℕ) → ((k : List ℕ) → Contains (bytes_of kept) k → EndsWith k (node_for k)) → found ≡ map node_for (bytes_of kept)) →
        left_cursor ≡ cursor_at cursor (bytes_of kept) → more ≡ nat_lt most (length last) →
        page_of cursor most (after descending cursor (in_order s by descending nodes)) ≡ page_with found left_cursor more
    page_made found left_cursor more rising nodes_are cursor_is more_is =
        ap (page_of cursor most) (sym (in_order_is descending cursor (flat_map (keyed s by) nodes) (bytes_of last) members rising))
        ∙ page_from descending (node_for descending left) cursor most (bytes_of last) found left_cursor more
        (nodes_are (node_for descending left) (λ k h. last_ends k (in_last k h)) ∙ ap (map (node_for descending left)) kept_is)
        (cursor_is ∙ ap (cursor_at cursor) kept_is)
        (more_is ∙ ap (nat_lt most) (sym (length_bytes last)))

-- The cursor after the last key.
pub cursor_last : (cursor : Option (List ℕ)) (ks : List (List ℕ)) (k : List ℕ) → cursor_at cursor (ks ++ k ∷ []) ≡ Some k
cursor_last cursor [] k = refl
cursor_last cursor (x ∷ ks) k = cursor_last (Some x) ks k

bytes_append : (xs ys : List (ArrayVec ℕ)) → bytes_of (xs ++ ys) ≡ bytes_of xs ++ bytes_of ys
bytes_append [] ys = refl
bytes_append (x ∷ xs) ys = ap (λ l. x.items ∷ l) (bytes_append xs ys)

pub cursor_moved : (cursor : Option (List ℕ)) (keys rest : List (ArrayVec ℕ)) (last : ArrayVec ℕ) → keys ≡ rest ++ last ∷ [] → Some last.items ≡ cursor_at cursor (bytes_of keys)
cursor_moved cursor keys rest last e = sym (ap (λ l. cursor_at cursor (bytes_of l)) e ∙ ap (cursor_at cursor) (bytes_append rest (last ∷ [])) ∙ cursor_last cursor (bytes_of rest) last.items)

pub cursor_stays : (cursor : Option (List ℕ)) (keys : List (ArrayVec ℕ)) → length keys ≡ 0 → cursor ≡ cursor_at cursor (bytes_of keys)
cursor_stays cursor [] e = refl
cursor_stays cursor (k ∷ keys) e = absurd (omega arith)

-- The nodes of the keys so far, and of one more key.
pub nodes_more : (g : List ℕ → ℕ) (keys : List (ArrayVec ℕ)) (k : ArrayVec ℕ) → map g (bytes_of (keys ++ k ∷ [])) ≡ map g (bytes_of keys) ++ g k.items ∷ []
nodes_more g [] k = refl
nodes_more g (x ∷ keys) k = ap (λ l. g x.items ∷ l) (nodes_more g keys k)

pub bytes_more : (keys : List (ArrayVec ℕ)) (k : ArrayVec ℕ) → bytes_of (keys ++ k ∷ []) ≡ bytes_of keys ++ k.items ∷ []
bytes_more keys k = bytes_append keys (k ∷ [])
