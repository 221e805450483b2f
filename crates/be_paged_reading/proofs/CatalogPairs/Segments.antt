-- The pairs of a node in the catalog are those of its attributes, one after another.
use Rattle.std.proofs.Common.{◌≡◌, ℕ, zero, suc, ◌<◌, ◌^◌, ◌%◌, Bool, true, false, cond, List, [], ◌∷◌, map, drop, All, Some, None, Ok, ap, sym, subst, ◌∙◌, refl, arith, unwrap_or, T, ◌&&◌}
use Rattle.std.specs.Int.{to_be_bytes, w64}
use Rattle.std.specs.Option.{option_map, option_and_then}
use Rattle.std.specs.Ordering.{nat_cmp, is_eq, is_lt, eq_by_cmp, ordering_then, ordering_reverse}
use Rattle.std.specs.Cmp.{tied_itself, nat_cmp_total, ranked, eq_by_cmp_equiv}
use Rattle.std.specs.declared.cmp.Ordering.{Ordering}
use Rattle.std.specs.declared.cmp.Ordering.TheVariants.{Less, Equal, Greater}
use Rattle.std.specs.declared.option.Option.{Option}
use Rattle.std.specs.FinMap as fin
use Rattle.std.specs.FinMap.{get-empty, get-entries, entries_sorted, is_sorted}
use Rattle.std.specs.FinMap.Entries.{find, below_all}
use Rattle.std.proofs.lemmas.Bool.Decides.{Decides-eqb}
use Rattle.std.proofs.lemmas.Slice.Eq.{starts_is}
use Rattle.be_value.specs.declared.values.Value.{Value}
use Rattle.be_value.specs.Name.{name_from}
use Rattle.be_value.proofs.KeyOrder.{bytes_order}
use Rattle.be_tree_reading.specs.Pair.{Pair}
use Rattle.be_tree_reading.specs.Key.{key_cmp, payload_at, AllAbove, IsRising}
use Rattle.be_tree_reading.specs.Range.{is_from, pairs_from}
use Rattle.be_tree_reading.proofs.Order.{key_total, key_exact, key_cmp_flip_less, AllAbove_trans, payload_at_above}
use Rattle.be_tree_reading.proofs.Ranges.{from_greater, from_less, from_equal}
use Rattle.be_volume.specs.Maps.{name_cmp, Nodes, Attributes, attributes_of}
use Rattle.be_volume.proofs.MapLemmas.{names_total}
use Rattle.be_paged_reading.specs.Catalog.{catalog_key, payload_of, value_at, stored, IsCatalogKey, IsCatalog}
use Rattle.be_paged_reading.specs.Reading.{AreValid, is_of, front_of_node, attribute_pair, attribute_pairs}

-- The keys of the catalog are ordered by node, and then by name.
pub key_order : (m n : ℕ) (x y : List ℕ) → m < 2 ^ 64 → n < 2 ^ 64 → key_cmp (catalog_key m x) (catalog_key n y) ≡ ordering_then (nat_cmp m n) (name_cmp x y)
unfolding key_cmp
key_order m n x y p q =
    let low : m % 256 ^ 8 ≡ m = omega (arith, p) in
    let high : n % 256 ^ 8 ≡ n = omega (arith, q) in
    bytes_order 8 m n x y ∙ ap (λ a. ordering_then (nat_cmp a (n % 256 ^ 8)) (name_cmp x y)) low ∙ ap (λ b. ordering_then (nat_cmp m b) (name_cmp x y)) high

same_node_order : (n : ℕ) (x y : List ℕ) → n < 2 ^ 64 → key_cmp (catalog_key n x) (catalog_key n y) ≡ name_cmp x y
same_node_order n x y p = key_order n n x y p p ∙ ap (λ o. ordering_then o (name_cmp x y)) (tied_itself nat_cmp_total n)

-- A lookup skips a pair with another key.
skip : (x : Pair) (k : List ℕ) (xs : List Pair) → (x.key ≡ k → ⊥) → payload_at (x ∷ xs) k ≡ payload_at xs k
skip x k xs ne = elim (key_cmp x.key k) as (λ o. key_cmp x.key k ≡ o → cond (is_eq o) (Some x.payload) (payload_at xs k) ≡ payload_at xs k) [
  | Less ↦ λ t. refl
  | Equal ↦ λ t. absurd (ne (key_exact x.key k t))
  | Greater ↦ λ t. refl
] refl

hit : (x : Pair) (k : List ℕ) (xs : List Pair) → x.key ≡ k → payload_at (x ∷ xs) k ≡ Some x.payload
hit x k xs e = ap (λ o. cond (is_eq o) (Some x.payload) (payload_at xs k)) (ap (λ q. key_cmp q k) e ∙ tied_itself key_total k)

some_none : {A : Type 0} (x : List ℕ) → Some x ≡ None → A
some_none x e = cc

same_some : (x y : List ℕ) → Some x ≡ Some y → x ≡ y
same_some x y e = cc

same_pair : (x y : Pair) → x.key ≡ y.key → x.payload ≡ y.payload → x ≡ y
same_pair x y p q = λ i. record { key = p i; payload = q i }

-- Ascending lists with the same lookups are equal.
module _ (P : List ℕ → Type 0) where
  pub same_pairs : (xs ys : List Pair) → IsRising xs → IsRising ys → All (λ x. P x.key) xs → All (λ y. P y.key) ys → ((k : List ℕ) → P k → payload_at xs k ≡ payload_at ys k) → xs ≡ ys
  same_pairs [] [] r s p q h = refl
  same_pairs [] (y ∷ ys) r s p q h = some_none y.payload (sym (hit y y.key ys refl) ∙ sym (h y.key (q zero y (omega arith))))
  same_pairs (x ∷ xs) [] r s p q h = some_none x.payload (sym (hit x x.key xs refl) ∙ h x.key (p zero x (omega arith)))
  same_pairs (x ∷ xs) (y ∷ ys) r s p q h =
      elim (key_cmp x.key y.key) as (λ o. key_cmp x.key y.key ≡ o → x ∷ xs ≡ y ∷ ys) [
        | Less ↦ λ t. some_none x.payload (sym (hit x x.key xs refl) ∙ h x.key px ∙ payload_at_above x.key (y ∷ ys) (key_cmp_flip_less x.key y.key t, AllAbove_trans y.key x.key ys (key_cmp_flip_less x.key y.key t) s.0))
        | Equal ↦ λ t. equal (key_exact x.key y.key t) (same_pairs xs ys r.1 s.1 (λ i d lt. p (suc i) d (omega (arith, lt))) (λ i d lt. q (suc i) d (omega (arith, lt))))
        | Greater ↦ λ t. some_none y.payload (sym (hit y y.key ys refl) ∙ sym (h y.key py) ∙ payload_at_above y.key (x ∷ xs) (t, AllAbove_trans x.key y.key xs t r.0))
      ] refl
    where
      px : P x.key
      px = p zero x (omega arith)

      py : P y.key
      py = q zero y (omega arith)

      rest : x.key ≡ y.key → (k : List ℕ) → P k → payload_at xs k ≡ payload_at ys k
      rest e k pk = elim (key_cmp x.key k) as (λ o. key_cmp x.key k ≡ o → payload_at xs k ≡ payload_at ys k) [
        | Less ↦ λ t. sym (skip x k xs (λ f. apart Less t f (λ g. cc))) ∙ h k pk ∙ skip y k ys (λ f. apart Less t (e ∙ f) (λ g. cc))
        | Equal ↦ λ t. let f = key_exact x.key k t in payload_at_above k xs (subst (λ q. AllAbove q xs) f r.0) ∙ sym (payload_at_above k ys (subst (λ q. AllAbove q ys) (sym e ∙ f) s.0))
        | Greater ↦ λ t. sym (skip x k xs (λ f. apart Greater t f (λ g. cc))) ∙ h k pk ∙ skip y k ys (λ f. apart Greater t (e ∙ f) (λ g. cc))
      ] refl
        where
          apart : (o : Ordering) → key_cmp x.key k ≡ o → x.key ≡ k → (o ≡ Equal → ⊥) → ⊥
          apart o t f untied = untied (sym t ∙ ap (λ q. key_cmp q k) f ∙ tied_itself key_total k)

      join : x ≡ y → xs ≡ ys → x ∷ xs ≡ y ∷ ys
      join e f = cc

      equal : x.key ≡ y.key → (((k : List ℕ) → P k → payload_at xs k ≡ payload_at ys k) → xs ≡ ys) → x ∷ xs ≡ y ∷ ys
      equal e tails = join (same_pair x y e (same_some x.payload y.payload (sym (hit x x.key xs refl) ∙ h x.key px ∙ hit y x.key ys (sym e)))) (tails (rest e))

-- The pairs from a key on are in ascending order, and a lookup in them finds what it finds in all
-- pairs.
above_from : (q k : List ℕ) (after : Bool) (xs : List Pair) → AllAbove q xs → AllAbove q (pairs_from xs k after)
above_from q k after [] h = tt
above_from q k after (x ∷ xs) h = by (is_from k after x.key) (above_from q k after xs h.1)
  where
    by : (b : Bool) → AllAbove q (pairs_from xs k after) → AllAbove q (cond b (x ∷ pairs_from xs k after) (pairs_from xs k after))
    by true rest = (h.0, rest)
    by false rest = rest

pub rising_from : (k : List ℕ) (after : Bool) (xs : List Pair) → IsRising xs → IsRising (pairs_from xs k after)
rising_from k after [] h = tt
rising_from k after (x ∷ xs) h = by (is_from k after x.key) (rising_from k after xs h.1)
  where
    by : (b : Bool) → IsRising (pairs_from xs k after) → IsRising (cond b (x ∷ pairs_from xs k after) (pairs_from xs k after))
    by true rest = (above_from x.key k after xs h.0, rest)
    by false rest = rest

pub all_from : (P : Pair → Type 0) (k : List ℕ) (after : Bool) (xs : List Pair) → All P xs → All (λ x. P x × (is_from k after x.key ≡ true)) (pairs_from xs k after)
all_from P k after [] h = λ i d lt. absurd (omega (arith, lt))
all_from P k after (x ∷ xs) h = by (is_from k after x.key) refl (all_from P k after xs (λ i d lt. h (suc i) d (omega (arith, lt))))
  where
    by : (b : Bool) → is_from k after x.key ≡ b → All (λ x. P x × (is_from k after x.key ≡ true)) (pairs_from xs k after) → All (λ x. P x × (is_from k after x.key ≡ true)) (cond b (x ∷ pairs_from xs k after) (pairs_from xs k after))
    by true e rest zero d lt = (h zero x (omega arith), e)
    by true e rest (suc i) d lt = rest i d (omega (arith, lt))
    by false e rest i d lt = rest i d lt

pub payload_from : (k q : List ℕ) (after : Bool) (xs : List Pair) → payload_at (pairs_from xs k after) q ≡ cond (is_from k after q) (payload_at xs q) None
payload_from k q after [] = by (is_from k after q)
  where
    by : (b : Bool) → None ≡ cond {A = Option (List ℕ)} b None None
    by true = refl
    by false = refl
payload_from k q after (x ∷ xs) = elim (key_cmp x.key q) as (λ o. key_cmp x.key q ≡ o → payload_at (pairs_from (x ∷ xs) k after) q ≡ cond (is_from k after q) (payload_at (x ∷ xs) q) None) [
  | Less ↦ λ t. other (payload_from k q after xs) (λ f. apart Less t f (λ g. cc))
  | Equal ↦ λ t. same (payload_from k q after xs) (key_exact x.key q t)
  | Greater ↦ λ t. other (payload_from k q after xs) (λ f. apart Greater t f (λ g. cc))
] refl
  where
    apart : (o : Ordering) → key_cmp x.key q ≡ o → x.key ≡ q → (o ≡ Equal → ⊥) → ⊥
    apart o t f untied = untied (sym t ∙ ap (λ y. key_cmp y q) f ∙ tied_itself key_total q)

    other : payload_at (pairs_from xs k after) q ≡ cond (is_from k after q) (payload_at xs q) None → (x.key ≡ q → ⊥) → payload_at (cond (is_from k after x.key) (x ∷ pairs_from xs k after) (pairs_from xs k after)) q ≡ cond (is_from k after q) (payload_at (x ∷ xs) q) None
    other rest ne = by (is_from k after x.key) ∙ rest ∙ ap (λ r. cond (is_from k after q) r None) (sym (skip x q xs ne))
      where
        by : (b : Bool) → payload_at (cond b (x ∷ pairs_from xs k after) (pairs_from xs k after)) q ≡ payload_at (pairs_from xs k after) q
        by true = skip x q (pairs_from xs k after) ne
        by false = refl

    same : payload_at (pairs_from xs k after) q ≡ cond (is_from k after q) (payload_at xs q) None → x.key ≡ q → payload_at (cond (is_from k after x.key) (x ∷ pairs_from xs k after) (pairs_from xs k after)) q ≡ cond (is_from k after q) (payload_at (x ∷ xs) q) None
    same rest e = by (is_from k after q) refl (ap (is_from k after) e)
      where
        by : (b : Bool) → is_from k after q ≡ b → is_from k after x.key ≡ is_from k after q → payload_at (cond (is_from k after x.key) (x ∷ pairs_from xs k after) (pairs_from xs k after)) q ≡ cond b (payload_at (x ∷ xs) q) None
        by true f g = ap (λ b. payload_at (cond b (x ∷ pairs_from xs k after) (pairs_from xs k after)) q) (g ∙ f) ∙ hit x q (pairs_from xs k after) e ∙ sym (hit x q xs e)
        by false f g = ap (λ b. payload_at (cond b (x ∷ pairs_from xs k after) (pairs_from xs k after)) q) (g ∙ f) ∙ rest ∙ ap (λ b. cond b (payload_at xs q) None) f

-- The keys that begin with a node.
pub of_node : (node : ℕ) (name : List ℕ) → is_of node (catalog_key node name) ≡ true
of_node node name = (starts_is Decides-eqb (catalog_key node name) (to_be_bytes w64 node) (is_of node (catalog_key node name)) refl).1 name refl

pub is_node : (node : ℕ) (k : List ℕ) → is_of node k ≡ true → k ≡ catalog_key node (drop 8 k)
is_node node k e = (starts_is Decides-eqb k (to_be_bytes w64 node) (is_of node k) refl).0 e

-- If an ascending list begins with pairs of a node, these are in ascending order and have the
-- node's lookups.
front_above : (node : ℕ) (q : List ℕ) (xs : List Pair) → AllAbove q xs → AllAbove q (front_of_node node xs)
front_above node q [] h = tt
front_above node q (x ∷ xs) h = by (is_of node x.key) (front_above node q xs h.1)
  where
    by : (b : Bool) → AllAbove q (front_of_node node xs) → AllAbove q (cond b (x ∷ front_of_node node xs) [])
    by true rest = (h.0, rest)
    by false rest = tt

front_rising : (node : ℕ) (xs : List Pair) → IsRising xs → IsRising (front_of_node node xs)
front_rising node [] h = tt
front_rising node (x ∷ xs) h = by (is_of node x.key) (front_rising node xs h.1)
  where
    by : (b : Bool) → IsRising (front_of_node node xs) → IsRising (cond b (x ∷ front_of_node node xs) [])
    by true rest = (front_above node x.key xs h.0, rest)
    by false rest = tt

abbrev IsOf : ℕ → List ℕ → Type 0
IsOf node k = (name : List ℕ) × (k ≡ catalog_key node name)

front_all : (node : ℕ) (xs : List Pair) → All (λ x. IsOf node x.key) (front_of_node node xs)
front_all node [] = λ i d lt. absurd (omega (arith, lt))
front_all node (x ∷ xs) = by (is_of node x.key) refl (front_all node xs)
  where
    by : (b : Bool) → is_of node x.key ≡ b → All (λ x. IsOf node x.key) (front_of_node node xs) → All (λ x. IsOf node x.key) (cond b (x ∷ front_of_node node xs) [])
    by true e rest zero d lt = (drop 8 x.key, is_node node x.key e)
    by true e rest (suc i) d lt = rest i d (omega (arith, lt))
    by false e rest i d lt = absurd (omega (arith, lt))

-- A key that comes after the node's mark and isn't the node's comes after all keys that are.
abbrev IsAfter : ℕ → Pair → Type 0
IsAfter node x = IsCatalogKey x.key × (is_from (to_be_bytes w64 node) true x.key ≡ true)

past : (node : ℕ) (name : List ℕ) (x : Pair) → node < 2 ^ 64 → IsAfter node x → is_of node x.key ≡ false → key_cmp x.key (catalog_key node name) ≡ Greater
past node name x fits at other =
    let m = at.0.node in
    ap (λ k. key_cmp k (catalog_key node name)) at.0.is ∙ key_order m node at.0.name name at.0.fits fits ∙
    (elim (nat_cmp m node) as (λ o. nat_cmp m node ≡ o → ordering_then o (name_cmp at.0.name name) ≡ Greater) [
      | Less ↦ λ t. absurd (before t)
      | Equal ↦ λ t. absurd (same (ranked m node Equal (sym t)))
      | Greater ↦ λ t. refl
    ] refl)
  where
    open_mark : key_cmp (catalog_key at.0.node at.0.name) (catalog_key node []) ≡ key_cmp x.key (to_be_bytes w64 node)
    open_mark = ap (λ k. key_cmp k (catalog_key node [])) (sym at.0.is)

    before : nat_cmp at.0.node node ≡ Less → ⊥
    before t = never (sym (from_less (to_be_bytes w64 node) true x.key (sym open_mark ∙ key_order at.0.node node at.0.name [] at.0.fits fits ∙ ap (λ o. ordering_then o (name_cmp at.0.name [])) t)) ∙ at.1)
      where
        never : false ≡ true → ⊥
        never e = cc

    same : at.0.node ≡ node → ⊥
    same e = never (sym other ∙ ap (is_of node) (at.0.is ∙ ap (λ n. catalog_key n at.0.name) e) ∙ of_node node at.0.name)
      where
        never : false ≡ true → ⊥
        never e = cc

front_payload : (node : ℕ) (name : List ℕ) (xs : List Pair) → node < 2 ^ 64 → IsRising xs → All (IsAfter node) xs → payload_at (front_of_node node xs) (catalog_key node name) ≡ payload_at xs (catalog_key node name)
front_payload node name [] fits rising all = refl
front_payload node name (x ∷ xs) fits rising all = by (is_of node x.key) refl (front_payload node name xs fits rising.1 (λ i d lt. all (suc i) d (omega (arith, lt))))
  where
    by : (b : Bool) → is_of node x.key ≡ b → payload_at (front_of_node node xs) (catalog_key node name) ≡ payload_at xs (catalog_key node name) → payload_at (cond b (x ∷ front_of_node node xs) []) (catalog_key node name) ≡ payload_at (x ∷ xs) (catalog_key node name)
    by true e rest = ap (λ r. cond (is_eq (key_cmp x.key (catalog_key node name))) (Some x.payload) r) rest
    by false e rest = let gt = past node name x fits (all zero x (omega arith)) e in sym (payload_at_above (catalog_key node name) (x ∷ xs) (gt, AllAbove_trans x.key (catalog_key node name) xs gt rising.0))

-- The pairs of attributes are in ascending order, and have the lookups of the attributes.
abbrev Entries : Type 0
Entries = List (List ℕ × Value)

second : (a b : Bool) → T (a && b) → T b
second true b p = p
second false b p = absurd p

first : (a b : Bool) → T (a && b) → T a
first true b p = tt
first false b p = absurd p

less : (o : Ordering) → T (is_lt o) → o ≡ Less
less Less p = refl
less Equal p = absurd p
less Greater p = absurd p

entries_above : (node : ℕ) (name : List ℕ) (es : Entries) → node < 2 ^ 64 → T (below_all name_cmp name es) → AllAbove (catalog_key node name) (map (attribute_pair node) es)
entries_above node name [] fits h = tt
entries_above node name (e ∷ es) fits h =
    (same_node_order node e.0 name fits ∙ names_total.antisymm e.0 name ∙ ap ordering_reverse (less (name_cmp name e.0) (first _ _ h)), entries_above node name es fits (second _ _ h))

entries_rising : (node : ℕ) (es : Entries) → node < 2 ^ 64 → T (is_sorted name_cmp es) → IsRising (map (attribute_pair node) es)
entries_rising node [] fits h = tt
entries_rising node (e ∷ es) fits h = (entries_above node e.0 es fits (first _ _ h), entries_rising node es fits (second _ _ h))

entries_all : (node : ℕ) (es : Entries) → All (λ x. IsOf node x.key) (map (attribute_pair node) es)
entries_all node [] i d lt = absurd (omega (arith, lt))
entries_all node (e ∷ es) zero d lt = (e.0, refl)
entries_all node (e ∷ es) (suc i) d lt = entries_all node es i d (omega (arith, lt))

entries_payload : (node : ℕ) (name : List ℕ) (es : Entries) → node < 2 ^ 64 → payload_at (map (attribute_pair node) es) (catalog_key node name) ≡ option_map payload_of (find name_cmp name es)
entries_payload node name [] fits = refl
entries_payload node name (e ∷ es) fits =
    ap (λ b. cond b (Some (payload_of e.1)) (payload_at (map (attribute_pair node) es) (catalog_key node name))) (ap is_eq (same_node_order node e.0 name fits) ∙ (eq_by_cmp_equiv names_total).symm e.0 name)
    ∙ ap (cond (eq_by_cmp name_cmp name e.0) (Some (payload_of e.1))) (entries_payload node name es fits) ∙ by (eq_by_cmp name_cmp name e.0)
  where
    by : (b : Bool) → cond b (Some (payload_of e.1)) (option_map payload_of (find name_cmp name es)) ≡ option_map payload_of (cond b (Some e.1) (find name_cmp name es))
    by true = refl
    by false = refl

-- A lookup among the attributes of a node.
pub value_there : (nodes : Nodes) (node : ℕ) (name : List ℕ) → fin.get (attributes_of nodes node) name ≡ value_at nodes node name
value_there nodes node name = by (fin.get nodes node)
  where
    by : (a : Option Attributes) → fin.get (unwrap_or a fin.empty) name ≡ option_and_then (λ (b : Attributes). fin.get b name) a
    by None = get-empty name_cmp name
    by (Some a) = refl

-- No attribute has an empty name.
pub no_nameless : (nodes : Nodes) (node : ℕ) → AreValid nodes → value_at nodes node [] ≡ None
no_nameless nodes node valid = by (value_at nodes node []) refl
  where
    by : (v : Option Value) → value_at nodes node [] ≡ v → v ≡ None
    by None e = refl
    by (Some v) e = absurd (never (valid node [] v e).0.0)
      where
        never : name_from [] ≡ Ok [] → ⊥
        never e = cc

-- A walk from just after a node's mark visits the attributes of the node, and nothing else that
-- belongs to it.
pub segment : (xs : List Pair) (nodes : Nodes) (node : ℕ) → node < 2 ^ 64 → IsRising xs → IsCatalog xs nodes → AreValid nodes
    → front_of_node node (pairs_from xs (to_be_bytes w64 node) true) ≡ attribute_pairs node (attributes_of nodes node)
segment xs nodes node fits rising catalog valid =
    same_pairs (IsOf node) (front_of_node node from) (attribute_pairs node (attributes_of nodes node)) (front_rising node from from_rising)
    (entries_rising node (fin.entries (attributes_of nodes node)) fits (entries_sorted (attributes_of nodes node))) (front_all node from) (entries_all node (fin.entries (attributes_of nodes node)))
    (λ k is. subst (λ q. payload_at (front_of_node node from) q ≡ payload_at (attribute_pairs node (attributes_of nodes node)) q) (sym is.1) (at is.0))
  where
    from : List Pair
    from = pairs_from xs (to_be_bytes w64 node) true

    from_rising : IsRising (pairs_from xs (to_be_bytes w64 node) true)
    from_rising = rising_from (to_be_bytes w64 node) true xs rising

    looked : (name : List ℕ) → payload_at (attribute_pairs node (attributes_of nodes node)) (catalog_key node name) ≡ option_map payload_of (value_at nodes node name)
    looked name = entries_payload node name (fin.entries (attributes_of nodes node)) fits ∙ ap (option_map payload_of) (sym (get-entries (attributes_of nodes node) name) ∙ value_there nodes node name)

    walked : (name : List ℕ) → payload_at (front_of_node node (pairs_from xs (to_be_bytes w64 node) true)) (catalog_key node name) ≡ cond (is_from (to_be_bytes w64 node) true (catalog_key node name)) (stored nodes node name) None
    walked name = front_payload node name (pairs_from xs (to_be_bytes w64 node) true) fits (rising_from (to_be_bytes w64 node) true xs rising) (all_from (λ x. IsCatalogKey x.key) (to_be_bytes w64 node) true xs catalog.only)
        ∙ payload_from (to_be_bytes w64 node) (catalog_key node name) true xs
        ∙ ap (λ p. cond (is_from (to_be_bytes w64 node) true (catalog_key node name)) p None) (catalog.each node name fits)

    at : (name : List ℕ) → payload_at (front_of_node node (pairs_from xs (to_be_bytes w64 node) true)) (catalog_key node name) ≡ payload_at (attribute_pairs node (attributes_of nodes node)) (catalog_key node name)
    at [] = walked [] ∙ ap (λ b. cond b (stored nodes node []) None) (from_equal (to_be_bytes w64 node) true (catalog_key node []) (same_node_order node [] [] fits)) ∙ sym (looked [] ∙ ap (option_map payload_of) (no_nameless nodes node valid))
    at (c ∷ name) = walked (c ∷ name) ∙ ap (λ b. cond b (stored nodes node (c ∷ name)) None) (from_greater (to_be_bytes w64 node) true (catalog_key node (c ∷ name)) (same_node_order node (c ∷ name) [] fits)) ∙ sym (looked (c ∷ name))
