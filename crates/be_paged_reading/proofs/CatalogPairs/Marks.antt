-- The nodes encoded by the marks of a catalog are those of the volume.
use Rattle.std.proofs.Common.{◌≡◌, ℕ, zero, suc, ◌+◌, ◌<◌, ◌^◌, Bool, true, false, cond, ◌||◌, List, [], ◌∷◌, length, drop, filter, nat_le, All, Some, None, get_or, ap, sym, subst, ◌∙◌, refl, arith, eq-eqb, is_some}
use Rattle.std.specs.Prelude.{take}
use Rattle.std.specs.Int.{from_be_bytes, to_be_bytes, w64}
use Rattle.std.specs.List.{slice_get, AllByRecursion}
use Rattle.std.specs.Ordering.{nat_cmp, is_eq, eq_by_cmp, ordering_then}
use Rattle.std.specs.Cmp.{nat_cmp_is, ranked}
use Rattle.std.specs.declared.cmp.Ordering.{Ordering}
use Rattle.std.specs.declared.cmp.Ordering.TheVariants.{Less, Equal, Greater}
use Rattle.std.specs.FinMap as fin
use Rattle.std.proofs.lemmas.Bool.{le-leb, lt-leb}
use Rattle.std.proofs.lemmas.List.{drop_all, length-append}
use Rattle.std.proofs.lemmas.Map.Views.{exact_unsigned_eq}
use Rattle.std.proofs.lemmas.Nat.{from_be_bytes-to_be_bytes_8}
use Rattle.be_pages.specs.declared.room.PageState.{PageState}
use Rattle.be_tree_reading.specs.Pair.{Pair}
use Rattle.be_tree_reading.specs.Key.{key_cmp, payload_at, AllAbove, IsRising}
use Rattle.be_tree_reading.specs.Page.{item_at, key_len}
use Rattle.be_tree_reading.specs.Range.{is_from, pairs_from}
use Rattle.be_tree_reading.specs.Tree.{pairs}
use Rattle.be_tree_reading.proofs.Bytes.Words.{item_key_length}
use Rattle.be_tree_reading.proofs.Order.{key_exact}
use Rattle.be_tree_reading.proofs.Ranges.{from_equal, from_greater, from_less}
use Rattle.be_tree_reading.proofs.Trees.{tree_rising}
use Rattle.be_volume.specs.Maps.{Nodes}
use Rattle.be_volume.specs.Volume.{State}
use Rattle.be_plan.proofs.Rising.{Rises, is_in, the_same, same_rising, in_filter, from_filter, rises_filter, rises_keys}
use Rattle.be_paged_reading.specs.Catalog.{catalog_key, IsCatalogKey, IsCatalog}
use Rattle.be_paged_reading.specs.Nodes.{is_mark, marked, nodes_from}
use Rattle.be_paged_reading.specs.Version.{IsVersion}
use Rattle.be_paged_reading.proofs.Asking.Walks.{some_same, none_some}
use Rattle.be_paged_reading.proofs.CatalogPairs.FactValues.{node_there}
use Rattle.be_paged_reading.proofs.CatalogPairs.NodeKeys.{begins}
use Rattle.be_paged_reading.proofs.CatalogPairs.Segments.{all_from, key_order, payload_from, rising_from}

never : {A : Type 0} → false ≡ true → A
never e = cc

-- The key of a mark.
mark_length : (m : ℕ) (name : List ℕ) → length (catalog_key m name) ≡ 8 + length name
mark_length m name = omega (arith, length-append (to_be_bytes w64 m) name)

key_marks : (m : ℕ) → is_mark (catalog_key m []) ≡ true
key_marks m = eq-eqb (length (catalog_key m [])) 8 (mark_length m [])

nameless : (m : ℕ) (name : List ℕ) → is_mark (catalog_key m name) ≡ true → name ≡ []
nameless m [] h = refl
nameless m (c ∷ name) h = absurd (omega (arith, exact_unsigned_eq (length (catalog_key m (c ∷ name))) 8 h, mark_length m (c ∷ name)))

number_is : (m : ℕ) → m < 2 ^ 64 → from_be_bytes w64 (catalog_key m []) ≡ m
number_is m fits = from_be_bytes-to_be_bytes_8 m fits

-- A mark is the key for the number that it encodes.
mark_is : (k : List ℕ) → IsCatalogKey k → is_mark k ≡ true → (k ≡ catalog_key (from_be_bytes w64 k) []) × (from_be_bytes w64 k < 2 ^ 64)
mark_is k is mark =
    let e : k ≡ catalog_key is.node [] = is.is ∙ ap (catalog_key is.node) (nameless is.node is.name (ap is_mark (sym is.is) ∙ mark)) in
    let number : from_be_bytes w64 k ≡ is.node = ap (from_be_bytes w64) e ∙ number_is is.node is.fits in
    (e ∙ ap (λ (n : ℕ). catalog_key n []) (sym number), subst (λ (n : ℕ). n < 2 ^ 64) (sym number) is.fits)

-- What holds for the number of every mark holds for all marked nodes.
each_marked : (P : ℕ → Type 0) (ys : List Pair) → All (λ y. is_mark y.key ≡ true → P (from_be_bytes w64 y.key)) ys → (n : ℕ) → is_in n (marked ys) ≡ true → P n
each_marked P [] all n h = never h
each_marked P (y ∷ ys) all n h = by (is_mark y.key) refl h (each_marked P ys (λ i d lt. all (suc i) d (omega (arith, lt))) n)
  where
    here : (b : Bool) → eq_by_cmp nat_cmp n (from_be_bytes w64 y.key) ≡ b → is_mark y.key ≡ true → (b || is_in n (marked ys)) ≡ true → (is_in n (marked ys) ≡ true → P n) → P n
    here true same e i rest = subst P (sym (the_same n (from_be_bytes w64 y.key) same)) (all zero y (omega arith) e)
    here false same e i rest = rest i

    by : (b : Bool) → is_mark y.key ≡ b → is_in n (cond b (from_be_bytes w64 y.key ∷ marked ys) (marked ys)) ≡ true → (is_in n (marked ys) ≡ true → P n) → P n
    by true e i rest = here (eq_by_cmp nat_cmp n (from_be_bytes w64 y.key)) refl e i rest
    by false e i rest = rest i

abbrev AreKeys : List Pair → Type 0
AreKeys ys = All (λ y. IsCatalogKey y.key) ys

marked_fits : (ys : List Pair) → AreKeys ys → (n : ℕ) → is_in n (marked ys) ≡ true → n < 2 ^ 64
marked_fits ys keys = each_marked (λ n. n < 2 ^ 64) ys (λ i d lt mark. (mark_is (get_or ys i d).key (keys i d lt) mark).1)

-- Marks are ordered in the same way as their nodes.
mark_order : (m n : ℕ) → m < 2 ^ 64 → n < 2 ^ 64 → key_cmp (catalog_key m []) (catalog_key n []) ≡ ordering_then (nat_cmp m n) Equal
mark_order m n p q = key_order m n [] [] p q

mark_above : (m n : ℕ) → m < 2 ^ 64 → n < 2 ^ 64 → key_cmp (catalog_key n []) (catalog_key m []) ≡ Greater → m < n
mark_above m n p q gt = by (nat_cmp n m) refl (sym (mark_order n m q p) ∙ gt)
  where
    by : (o : Ordering) → nat_cmp n m ≡ o → ordering_then o Equal ≡ Greater → m < n
    by Less e h = cc
    by Equal e h = cc
    by Greater e h = ranked n m Greater (sym e)

at_each : (P : Pair → Type 0) (xs : List Pair) → AllByRecursion P xs → All P xs
at_each P [] h i d lt = absurd (omega (arith, lt))
at_each P (x ∷ xs) h zero d lt = h.0
at_each P (x ∷ xs) h (suc i) d lt = at_each P xs h.1 i d (omega (arith, lt))

marked_above : (m : ℕ) (ys : List Pair) → m < 2 ^ 64 → AllAbove (catalog_key m []) ys → AreKeys ys → (n : ℕ) → is_in n (marked ys) ≡ true → m < n
marked_above m ys fits above keys =
    each_marked (λ n. m < n) ys (λ i d lt mark.
    let is = mark_is (get_or ys i d).key (keys i d lt) mark in
    mark_above m (from_be_bytes w64 (get_or ys i d).key) fits is.1
    (ap (λ k. key_cmp k (catalog_key m [])) (sym is.0) ∙ at_each (λ x. key_cmp x.key (catalog_key m []) ≡ Greater) ys above i d lt))

-- The marks among ascending pairs are in ascending order.
rises_marked : (ys : List Pair) → IsRising ys → AreKeys ys → Rises (marked ys)
rises_marked [] rising keys = tt
rises_marked (y ∷ ys) rising keys = by (is_mark y.key) refl (rises_marked ys rising.1 rest)
  where
    rest : AreKeys ys
    rest i d lt = keys (suc i) d (omega (arith, lt))

    by : (b : Bool) → is_mark y.key ≡ b → Rises (marked ys) → Rises (cond b (from_be_bytes w64 y.key ∷ marked ys) (marked ys))
    by true e more =
        let is = mark_is y.key (keys zero y (omega arith)) e in
        (marked_above (from_be_bytes w64 y.key) ys is.1 (subst (λ k. AllAbove k ys) is.0 rising.0) rest, more)
    by false e more = more

-- A node is marked if and only if its mark is found.
found_marked : (n : ℕ) (ys : List Pair) → n < 2 ^ 64 → AreKeys ys → is_in n (marked ys) ≡ is_some (payload_at ys (catalog_key n []))
found_marked n [] fits keys = refl
found_marked n (y ∷ ys) fits keys = by (key_cmp y.key (catalog_key n [])) refl (found_marked n ys fits (λ i d lt. keys (suc i) d (omega (arith, lt))))
  where
    itself : eq_by_cmp nat_cmp n n ≡ true
    itself = ap is_eq (sym (nat_cmp_is n n Equal refl))

    here : y.key ≡ catalog_key n [] → is_in n (marked (y ∷ ys)) ≡ true
    here e =
        ap (λ k. is_in n (cond (is_mark k) (from_be_bytes w64 k ∷ marked ys) (marked ys))) e
        ∙ ap (λ b. is_in n (cond b (from_be_bytes w64 (catalog_key n []) ∷ marked ys) (marked ys))) (key_marks n)
        ∙ ap (λ (m : ℕ). is_in n (m ∷ marked ys)) (number_is n fits)
        ∙ ap (λ b. b || is_in n (marked ys)) itself

    differs : (y.key ≡ catalog_key n [] → ⊥) → is_mark y.key ≡ true → (b : Bool) → eq_by_cmp nat_cmp n (from_be_bytes w64 y.key) ≡ b → b ≡ false
    differs ne mark true same =
        absurd (ne ((mark_is y.key (keys zero y (omega arith)) mark).0 ∙ ap (λ (m : ℕ). catalog_key m []) (sym (the_same n (from_be_bytes w64 y.key) same))))
    differs ne mark false same = refl

    other : (y.key ≡ catalog_key n [] → ⊥) → (b : Bool) → is_mark y.key ≡ b → is_in n (cond b (from_be_bytes w64 y.key ∷ marked ys) (marked ys)) ≡ is_in n (marked ys)
    other ne true e = ap (λ b. b || is_in n (marked ys)) (differs ne e (eq_by_cmp nat_cmp n (from_be_bytes w64 y.key)) refl)
    other ne false e = refl

    apart : (o : Ordering) → key_cmp y.key (catalog_key n []) ≡ o → (o ≡ Equal → ⊥) → y.key ≡ catalog_key n [] → ⊥
    apart o t untied e = untied (sym t ∙ ap (λ k. key_cmp k (catalog_key n [])) e ∙ mark_order n n fits fits ∙ ap (λ r. ordering_then r Equal) (sym (nat_cmp_is n n Equal refl)))

    by : (o : Ordering) → key_cmp y.key (catalog_key n []) ≡ o → is_in n (marked ys) ≡ is_some (payload_at ys (catalog_key n []))
        → is_in n (marked (y ∷ ys)) ≡ is_some (cond (is_eq o) (Some y.payload) (payload_at ys (catalog_key n [])))
    by Less t rest = other (apart Less t (λ e. cc)) (is_mark y.key) refl ∙ rest
    by Equal t rest = here (key_exact y.key (catalog_key n []) t)
    by Greater t rest = other (apart Greater t (λ e. cc)) (is_mark y.key) refl ∙ rest

-- A mark is at or after another one if and only if its node is.
from_node : (low n : ℕ) → low < 2 ^ 64 → n < 2 ^ 64 → is_from (to_be_bytes w64 low) false (catalog_key n []) ≡ nat_le low n
from_node low n p q = by (nat_cmp n low) refl (mark_order n low q p)
  where
    by : (o : Ordering) → nat_cmp n low ≡ o → key_cmp (catalog_key n []) (catalog_key low []) ≡ ordering_then o Equal → is_from (to_be_bytes w64 low) false (catalog_key n []) ≡ nat_le low n
    by Less e t = from_less (to_be_bytes w64 low) false (catalog_key n []) t ∙ sym (lt-leb low n (ranked n low Less (sym e)))
    by Equal e t = let same : n ≡ low = ranked n low Equal (sym e) in from_equal (to_be_bytes w64 low) false (catalog_key n []) t ∙ sym (le-leb low n (omega (arith, same)))
    by Greater e t = let over : low < n = ranked n low Greater (sym e) in from_greater (to_be_bytes w64 low) false (catalog_key n []) t ∙ sym (le-leb low n (omega (arith, over)))

both : (a b : Bool) → cond a b false ≡ true → (a ≡ true) × (b ≡ true)
both true b h = (refl, h)
both false b h = never h

-- The marks from a node's key on are the nodes from that node on.
module _ (xs : List Pair) (nodes : Nodes) (low : ℕ) (fits : low < 2 ^ 64) (rising : IsRising xs) (catalog : IsCatalog xs nodes) (below : (n : ℕ) → fin.contains_key nodes n ≡ true → n < 2 ^ 64) where
  keys : AreKeys (pairs_from xs (to_be_bytes w64 low) false)
  keys i d lt = (all_from (λ x. IsCatalogKey x.key) (to_be_bytes w64 low) false xs catalog.only i d lt).0

  there : (n : ℕ) → n < 2 ^ 64 → is_in n (marked (pairs_from xs (to_be_bytes w64 low) false)) ≡ cond (nat_le low n) (fin.contains_key nodes n) false
  there n small =
      found_marked n (pairs_from xs (to_be_bytes w64 low) false) small keys
      ∙ ap is_some (payload_from (to_be_bytes w64 low) (catalog_key n []) false xs)
      ∙ ap (λ b. is_some (cond b (payload_at xs (catalog_key n [])) None)) (from_node low n fits small)
      ∙ by (nat_le low n)
    where
      by : (b : Bool) → is_some (cond b (payload_at xs (catalog_key n [])) None) ≡ cond b (fin.contains_key nodes n) false
      by true = node_there xs nodes n (catalog_key n []) catalog small refl
      by false = refl

  pub marks_are : marked (pairs_from xs (to_be_bytes w64 low) false) ≡ filter (nat_le low) (fin.keys nodes)
  marks_are =
      same_rising (marked (pairs_from xs (to_be_bytes w64 low) false)) (filter (nat_le low) (fin.keys nodes))
      (rises_marked (pairs_from xs (to_be_bytes w64 low) false) (rising_from (to_be_bytes w64 low) false xs rising) keys)
      (rises_filter (nat_le low) (fin.keys nodes) (rises_keys nodes))
      (λ n h.
      let is = both (nat_le low n) (fin.contains_key nodes n) (sym (there n (marked_fits (pairs_from xs (to_be_bytes w64 low) false) keys n h)) ∙ h) in
      in_filter (nat_le low) (fin.keys nodes) n (sym (fin.contains_key-keys nodes n) ∙ is.1) is.0)
      (λ n h.
      let is = from_filter (nat_le low) (fin.keys nodes) n h in
      let has : fin.contains_key nodes n ≡ true = fin.contains_key-keys nodes n ∙ is.0 in
      there n (below n has) ∙ ap (λ b. cond b (fin.contains_key nodes n) false) is.1 ∙ has)

-- The nodes that are marked in the catalog of a version.
pub nodes_marked : (s : ℕ → PageState) (w : ℕ → ℕ → ℕ) (page : ℕ) (volume : State) (low most : ℕ) → IsVersion s w page volume → low < 2 ^ 64
    → take most (marked (pairs_from (pairs w (w page 3)) (to_be_bytes w64 low) false)) ≡ nodes_from volume low most
nodes_marked s w page volume low most version fits =
    ap (take most) (marks_are (pairs w (w page 3)) volume.nodes low fits
    (tree_rising s w (w page 3) (version.in_hand.trees.each 0 0 (omega arith)))
    version.encodes.catalog
    (λ n has. omega (arith, version.sound.nodes n has, version.encodes.next, version.in_hand.fits)))

-- A step past a pair.
pub fewer : (xs : List Pair) (x : Pair) → slice_get xs 0 ≡ Some x → length (drop 1 xs) < length xs
fewer [] x e = none_some x e
fewer (y ∷ xs) x e = omega arith

pub passed : (xs : List Pair) (x : Pair) → slice_get xs 0 ≡ Some x → is_mark x.key ≡ false → marked (drop 1 xs) ≡ marked xs
passed [] x e bare = none_some x e
passed (y ∷ xs) x e bare =
    sym (ap (λ b. cond b (from_be_bytes w64 y.key ∷ marked xs) (marked xs)) (ap (λ (z : Pair). is_mark z.key) (some_same y x e) ∙ bare))

pub met : (xs : List Pair) (x : Pair) → slice_get xs 0 ≡ Some x → is_mark x.key ≡ true → marked xs ≡ from_be_bytes w64 x.key ∷ marked (drop 1 xs)
met [] x e mark = none_some x e
met (y ∷ xs) x e mark =
    let same = some_same y x e in
    ap (λ b. cond b (from_be_bytes w64 y.key ∷ marked xs) (marked xs)) (ap (λ (z : Pair). is_mark z.key) same ∙ mark)
    ∙ ap (λ (z : Pair). from_be_bytes w64 z.key ∷ marked xs) same

-- Whether an item is a mark, which its first word determines. The second word is the node.
module _ (words : ℕ → ℕ) (at : ℕ) where
  pub long_mark : key_len words at ≡ 8 → is_mark (item_at words at).key ≡ true
  long_mark len = eq-eqb (length (item_at words at).key) 8 (item_key_length words at ∙ len)

  pub no_mark : (key_len words at ≡ 8 → ⊥) → is_mark (item_at words at).key ≡ false
  no_mark ne = by (is_mark (item_at words at).key) refl
    where
      by : (b : Bool) → is_mark (item_at words at).key ≡ b → b ≡ false
      by true e = absurd (ne (sym (item_key_length words at) ∙ exact_unsigned_eq (length (item_at words at).key) 8 e))
      by false e = refl

  pub mark_number : (x : ℕ) → x ≡ words (at + 1) → x < 2 ^ 64 → key_len words at ≡ 8 → x ≡ from_be_bytes w64 (item_at words at).key
  mark_number x is fits len =
      let k = (item_at words at).key in
      let bare : drop 8 k ≡ [] = drop_all 8 k (omega (arith, item_key_length words at, len)) in
      sym (ap (from_be_bytes w64) (begins words at x (omega (arith, len)) ∙ ap (catalog_key (words (at + 1))) bare ∙ ap (λ (n : ℕ). catalog_key n []) (sym is)) ∙ number_is x fits)
