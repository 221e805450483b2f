-- Lookups in a list of pairs after an insertion or a removal, and what either does to the catalog.
use Rattle.std.proofs.Common.{◌≡◌, ℕ, zero, suc, ◌<◌, ◌^◌, true, cond, List, [], ◌∷◌, take, drop, All, Some, None, Ok, ap, sym, subst, ◌∙◌, refl, inl, inr, arith, ◌⊎◌, is_some}
use Rattle.std.specs.Int.{from_be_bytes, w64}
use Rattle.std.specs.Option.{option_map, option_and_then}
use Rattle.std.specs.Ordering.{is_eq}
use Rattle.std.specs.Cmp.{IsTotalOrder, tied_itself, nat_cmp_total}
use Rattle.std.specs.declared.cmp.Ordering.{Ordering}
use Rattle.std.specs.declared.cmp.Ordering.TheVariants.{Less, Equal, Greater}
use Rattle.std.specs.declared.option.Option.{Option}
use Rattle.std.specs.FinMap as fin
use Rattle.std.specs.FinMap.{FinMap, IsAntisymmetric, get-insert, get-remove, get-empty, nat_cmp-IsAntisymmetric}
use Rattle.std.proofs.lemmas.Bool.{cases_eq}
use Rattle.std.proofs.lemmas.Nat.{from_be_bytes-to_be_bytes_8}
use Rattle.be_value.specs.Name.{name_from}
use Rattle.be_value.specs.declared.values.Value.{Value}
use Rattle.be_tree_reading.specs.Pair.{Pair}
use Rattle.be_tree_reading.specs.Key.{key_cmp, payload_at, put, put_before, without}
use Rattle.be_tree_reading.proofs.Order.{key_total, key_exact}
use Rattle.be_tree_reading.proofs.Trees.{all_cons}
use Rattle.be_volume.specs.Maps.{name_cmp, Nodes, Attributes, attributes_of, with_attribute}
use Rattle.be_volume.proofs.MapLemmas.{names_total, exact_names}
use Rattle.be_paged_reading.specs.Catalog.{catalog_key, payload_of, value_at, stored, IsCatalogKey, IsCatalog}
use Rattle.be_paged_reading.proofs.CatalogPairs.Segments.{value_there}
use Rattle.be_paged_reading.proofs.CatalogPairs.Validity.{named}

pub put_here : (pair : Pair) (xs : List Pair) → payload_at (put pair xs) pair.key ≡ Some pair.payload
put_here pair [] = rw (tied_itself key_total pair.key) refl
put_here pair (x ∷ xs) =
    elim (key_cmp x.key pair.key) as (λ r. key_cmp x.key pair.key ≡ r → payload_at (put_before r pair x xs (put pair xs)) pair.key ≡ Some pair.payload) [
      | Less ↦ λ e. rw e (put_here pair xs)
      | Equal ↦ λ e. rw (tied_itself key_total pair.key) refl
      | Greater ↦ λ e. rw (tied_itself key_total pair.key) refl
    ] refl

skip : (x : Pair) (k : List ℕ) (r s : Option (List ℕ)) → (x.key ≡ k → ⊥) → r ≡ s → cond (is_eq (key_cmp x.key k)) (Some x.payload) r ≡ s
skip x k r s ne e =
    elim (key_cmp x.key k) as (λ o. key_cmp x.key k ≡ o → cond (is_eq o) (Some x.payload) r ≡ s) [
      | Less ↦ λ t. e
      | Equal ↦ λ t. absurd (ne (key_exact x.key k t))
      | Greater ↦ λ t. e
    ] refl

pub put_other : (pair : Pair) (k : List ℕ) (xs : List Pair) → (pair.key ≡ k → ⊥) → payload_at (put pair xs) k ≡ payload_at xs k
put_other pair k [] ne = skip pair k None None ne refl
put_other pair k (x ∷ xs) ne =
    elim (key_cmp x.key pair.key) as (λ r. key_cmp x.key pair.key ≡ r → payload_at (put_before r pair x xs (put pair xs)) k ≡ payload_at (x ∷ xs) k) [
      | Less ↦ λ e. ap (λ r. cond (is_eq (key_cmp x.key k)) (Some x.payload) r) (put_other pair k xs ne)
      | Equal ↦ λ e. skip pair k (payload_at xs k) (payload_at (x ∷ xs) k) ne (sym (skip x k (payload_at xs k) (payload_at xs k) (λ same. ne (sym (key_exact x.key pair.key e) ∙ same)) refl))
      | Greater ↦ λ e. skip pair k (payload_at (x ∷ xs) k) (payload_at (x ∷ xs) k) ne refl
    ] refl

pub all_put : (P : Pair → Type 0) (pair : Pair) (xs : List Pair) → P pair → All P xs → All P (put pair xs)
all_put P pair [] p all = all_cons P pair [] p all
all_put P pair (x ∷ xs) p all =
    let first = all zero x (omega arith) in
    let rest : All P xs = λ i d lt. all (suc i) d (omega (arith, lt)) in
    let last = all_put P pair xs p rest in
    elim (key_cmp x.key pair.key) as (λ r. All P (put_before r pair x xs (put pair xs))) [
      | Less ↦ all_cons P x (put pair xs) first last
      | Equal ↦ all_cons P pair xs p rest
      | Greater ↦ all_cons P pair (x ∷ xs) p all
    ]

pub without_here : (k : List ℕ) (xs : List Pair) → payload_at (without k xs) k ≡ None
without_here k [] = refl
without_here k (x ∷ xs) =
    elim (key_cmp x.key k) as (λ r. key_cmp x.key k ≡ r → payload_at (cond (is_eq r) (without k xs) (x ∷ without k xs)) k ≡ None) [
      | Less ↦ λ e. ap (λ r. cond (is_eq r) (Some x.payload) (payload_at (without k xs) k)) e ∙ without_here k xs
      | Equal ↦ λ e. without_here k xs
      | Greater ↦ λ e. ap (λ r. cond (is_eq r) (Some x.payload) (payload_at (without k xs) k)) e ∙ without_here k xs
    ] refl

pub without_other : (k q : List ℕ) (xs : List Pair) → (k ≡ q → ⊥) → payload_at (without k xs) q ≡ payload_at xs q
without_other k q [] ne = refl
without_other k q (x ∷ xs) ne =
    elim (key_cmp x.key k) as (λ r. key_cmp x.key k ≡ r → payload_at (cond (is_eq r) (without k xs) (x ∷ without k xs)) q ≡ payload_at (x ∷ xs) q) [
      | Less ↦ λ e. ap (λ r. cond (is_eq (key_cmp x.key q)) (Some x.payload) r) (without_other k q xs ne)
      | Equal ↦ λ e. without_other k q xs ne ∙ sym (skip x q (payload_at xs q) (payload_at xs q) (λ f. ne (sym (key_exact x.key k e) ∙ f)) refl)
      | Greater ↦ λ e. ap (λ r. cond (is_eq (key_cmp x.key q)) (Some x.payload) r) (without_other k q xs ne)
    ] refl

pub all_without : (P Q : Pair → Type 0) (k : List ℕ) (xs : List Pair) → ((x : Pair) → (x.key ≡ k → ⊥) → P x → Q x) → All P xs → All Q (without k xs)
all_without P Q k [] f all = λ i d lt. absurd (omega (arith, lt))
all_without P Q k (x ∷ xs) f all =
    let rest = all_without P Q k xs f (λ i d lt. all (suc i) d (omega (arith, lt))) in
    elim (key_cmp x.key k) as (λ r. key_cmp x.key k ≡ r → All Q (cond (is_eq r) (without k xs) (x ∷ without k xs))) [
      | Less ↦ λ e. all_cons Q x (without k xs) (f x (λ s. apart Less e s (λ t. cc)) (all zero x (omega arith))) rest
      | Equal ↦ λ e. rest
      | Greater ↦ λ e. all_cons Q x (without k xs) (f x (λ s. apart Greater e s (λ t. cc)) (all zero x (omega arith))) rest
    ] refl
  where
    apart : (r : Ordering) → key_cmp x.key k ≡ r → x.key ≡ k → (r ≡ Equal → ⊥) → ⊥
    apart r t s no_tie = no_tie (sym t ∙ ap (λ y. key_cmp y k) s ∙ tied_itself key_total k)

-- Two keys of the catalog are either equal or different.
pub keys_decided : (a b : List ℕ) → (a ≡ b) ⊎ (a ≡ b → ⊥)
keys_decided a b = elim (key_cmp a b) as (λ o. key_cmp a b ≡ o → (a ≡ b) ⊎ (a ≡ b → ⊥)) [
  | Less ↦ λ t. inr (λ e. apart Less t e (λ f. cc))
  | Equal ↦ λ t. inl (key_exact a b t)
  | Greater ↦ λ t. inr (λ e. apart Greater t e (λ f. cc))
] refl
  where
    apart : (o : Ordering) → key_cmp a b ≡ o → a ≡ b → (o ≡ Equal → ⊥) → ⊥
    apart o t e untied = untied (sym t ∙ ap (λ x. key_cmp x b) e ∙ tied_itself key_total b)

pub key_node : (a b : ℕ) (x y : List ℕ) → a < 2 ^ 64 → b < 2 ^ 64 → catalog_key a x ≡ catalog_key b y → a ≡ b
key_node a b x y p q e = sym (from_be_bytes-to_be_bytes_8 a p) ∙ ap (λ k. from_be_bytes w64 (take 8 k)) e ∙ from_be_bytes-to_be_bytes_8 b q

pub key_name : (a b : ℕ) (x y : List ℕ) → catalog_key a x ≡ catalog_key b y → x ≡ y
key_name a b x y e = ap (drop 8) e

-- The catalog after one pair was inserted or removed: the content at its key has changed
-- accordingly, and nothing else has.
module _ (items : List Pair) (nodes new : Nodes) (node : ℕ) (name : List ℕ) (fits : node < 2 ^ 64) (catalog : IsCatalog items nodes)
    (same : (q : ℕ) (m : List ℕ) → (q ≡ node → m ≡ name → ⊥) → stored new q m ≡ stored nodes q m) where
  here : (q : ℕ) (m : List ℕ) → q < 2 ^ 64 → catalog_key q m ≡ catalog_key node name → stored new q m ≡ stored new node name
  here q m lt e = ap (λ n. stored new n m) (key_node q node m name lt fits e) ∙ ap (stored new node) (key_name q node m name e)

  apart : (q : ℕ) (m : List ℕ) → (catalog_key q m ≡ catalog_key node name → ⊥) → q ≡ node → m ≡ name → ⊥
  apart q m ne e f = ne (ap (λ n. catalog_key n m) e ∙ ap (catalog_key node) f)

  pub catalog_put : (pair : Pair) → pair.key ≡ catalog_key node name → stored new node name ≡ Some pair.payload → IsCatalog (put pair items) new
  catalog_put pair key is = record {
    each = λ q m lt. elim (keys_decided (catalog_key q m) (catalog_key node name)) [
      | inl e ↦ ap (payload_at (put pair items)) (e ∙ sym key) ∙ put_here pair items ∙ sym (here q m lt e ∙ is)
      | inr ne ↦ put_other pair (catalog_key q m) items (λ e. ne (sym e ∙ key)) ∙ catalog.each q m lt ∙ sym (same q m (apart q m ne))
    ];
    only = all_put (λ x. IsCatalogKey x.key) pair items (record { node = node; name = name; fits = fits; is = key }) catalog.only;
  }

  pub catalog_without : (k : List ℕ) → k ≡ catalog_key node name → stored new node name ≡ None → IsCatalog (without k items) new
  catalog_without k key is = record {
    each = λ q m lt. elim (keys_decided (catalog_key q m) (catalog_key node name)) [
      | inl e ↦ ap (payload_at (without k items)) (e ∙ sym key) ∙ without_here k items ∙ sym (here q m lt e ∙ is)
      | inr ne ↦ without_other k (catalog_key q m) items (λ e. ne (sym e ∙ key)) ∙ catalog.each q m lt ∙ sym (same q m (apart q m ne))
    ];
    only = all_without (λ x. IsCatalogKey x.key) (λ x. IsCatalogKey x.key) k items (λ x ne p. p) catalog.only;
  }

-- A lookup after an insertion or a removal.
module _ {K X : Type 0} {R : K → K → Ordering} (o : IsTotalOrder R) (exact : IsAntisymmetric R) (m : FinMap R X) (k : K) where
  pub get_here : (v : X) → fin.get (fin.insert m k v) k ≡ Some v
  get_here v = get-insert o m k v k ∙ ap (λ r. cond (is_eq r) (Some v) (fin.get m k)) (tied_itself o k)

  pub get_other : (v : X) (q : K) → (q ≡ k → ⊥) → fin.get (fin.insert m k v) q ≡ fin.get m q
  get_other v q ne = get-insert o m k v q ∙ elim (R q k) as (λ r. R q k ≡ r → cond (is_eq r) (Some v) (fin.get m q) ≡ fin.get m q) [
    | Less ↦ λ e. refl
    | Equal ↦ λ e. absurd (ne (exact q k e))
    | Greater ↦ λ e. refl
  ] refl

  pub gone_here : fin.get (fin.remove m k) k ≡ None
  gone_here = get-remove o m k k ∙ ap (λ r. cond (is_eq r) None (fin.get m k)) (tied_itself o k)

  pub gone_other : (q : K) → (q ≡ k → ⊥) → fin.get (fin.remove m k) q ≡ fin.get m q
  gone_other q ne = get-remove o m k q ∙ elim (R q k) as (λ r. R q k ≡ r → cond (is_eq r) None (fin.get m q) ≡ fin.get m q) [
    | Less ↦ λ e. refl
    | Equal ↦ λ e. absurd (ne (exact q k e))
    | Greater ↦ λ e. refl
  ] refl

abbrev mark : Attributes → List ℕ
mark a = []

-- What is stored depends only on whether the node exists, and on its value.
pub stored_same : (nodes new : Nodes) (q : ℕ) (m : List ℕ) → is_some (fin.get new q) ≡ is_some (fin.get nodes q) → value_at new q m ≡ value_at nodes q m → stored new q m ≡ stored nodes q m
stored_same nodes new q [] there same = by (fin.get new q) (fin.get nodes q) there
  where
    by : (a b : Option Attributes) → is_some a ≡ is_some b → option_map mark a ≡ option_map mark b
    by None None e = refl
    by (Some a) (Some b) e = refl
    by None (Some b) e = cc
    by (Some a) None e = cc
stored_same nodes new q (c ∷ m) there same = ap (option_map payload_of) same

abbrev at_name : List ℕ → Option Attributes → Option Value
at_name name a = option_and_then (λ (attributes : Attributes). fin.get attributes name) a

-- Any other node is unchanged.
pub stored_apart : (nodes new : Nodes) (q : ℕ) (m : List ℕ) → fin.get new q ≡ fin.get nodes q → stored new q m ≡ stored nodes q m
stored_apart nodes new q m e = stored_same nodes new q m (ap is_some e) (ap (at_name m) e)

-- A node that now has other attributes.
module _ (nodes : Nodes) (node : ℕ) (attributes : Attributes) where
  pub value_of : (m : List ℕ) → value_at (fin.insert nodes node attributes) node m ≡ fin.get attributes m
  value_of m = ap (at_name m) (get_here nat_cmp_total nat_cmp-IsAntisymmetric nodes node attributes)

  pub still : (q : ℕ) (m name : List ℕ) → is_some (fin.get nodes node) ≡ true → (m ≡ name → ⊥) → fin.get attributes m ≡ fin.get (attributes_of nodes node) m → stored (fin.insert nodes node attributes) node m ≡ stored nodes node m
  still q m name there ne same =
      stored_same nodes (fin.insert nodes node attributes) node m (ap is_some (get_here nat_cmp_total nat_cmp-IsAntisymmetric nodes node attributes) ∙ sym there)
      (value_of m ∙ same ∙ value_there nodes node m)

  pub elsewhere : (q : ℕ) (m : List ℕ) → (q ≡ node → ⊥) → stored (fin.insert nodes node attributes) q m ≡ stored nodes q m
  elsewhere q m ne = stored_apart nodes (fin.insert nodes node attributes) q m (get_other nat_cmp_total nat_cmp-IsAntisymmetric nodes node attributes q ne)

-- The catalog with a new node.
pub catalog_new : (items : List Pair) (nodes : Nodes) (node : ℕ) (pair : Pair) → node < 2 ^ 64 → fin.get nodes node ≡ None → pair.key ≡ catalog_key node [] → pair.payload ≡ []
    → IsCatalog items nodes → IsCatalog (put pair items) (fin.insert nodes node fin.empty)
catalog_new items nodes node pair fits none key empty catalog =
    catalog_put items nodes (fin.insert nodes node fin.empty) node [] fits catalog same pair key
    (ap (option_map mark) (get_here nat_cmp_total nat_cmp-IsAntisymmetric nodes node fin.empty) ∙ ap Some (sym empty))
  where
    at_node : (m : List ℕ) → (m ≡ [] → ⊥) → stored (fin.insert nodes node fin.empty) node m ≡ stored nodes node m
    at_node [] ne = absurd (ne refl)
    at_node (c ∷ m) ne = ap (option_map payload_of) (value_of nodes node fin.empty (c ∷ m) ∙ get-empty name_cmp (c ∷ m) ∙ sym (ap (at_name (c ∷ m)) none))

    same : (q : ℕ) (m : List ℕ) → (q ≡ node → m ≡ [] → ⊥) → stored (fin.insert nodes node fin.empty) q m ≡ stored nodes q m
    same q m apart = elim (cases_eq q node) [
      | inl e ↦ subst (λ n. stored (fin.insert nodes node fin.empty) n m ≡ stored nodes n m) (sym e) (at_node m (apart e))
      | inr ne ↦ elsewhere nodes node fin.empty q m ne
    ]

-- The catalog after an attribute of a node was set.
pub catalog_set : (items : List Pair) (nodes : Nodes) (node : ℕ) (name : List ℕ) (v : Value) (pair : Pair) → node < 2 ^ 64 → is_some (fin.get nodes node) ≡ true → name_from name ≡ Ok name
    → pair.key ≡ catalog_key node name → pair.payload ≡ payload_of v → IsCatalog items nodes → IsCatalog (put pair items) (with_attribute nodes node name v)
catalog_set items nodes node name v pair fits there valid key payload catalog =
    catalog_put items nodes (with_attribute nodes node name v) node name fits catalog same pair key (here name valid)
  where
    attributes : Attributes
    attributes = fin.insert (attributes_of nodes node) name v

    here : (m : List ℕ) → name_from m ≡ Ok m → stored (fin.insert nodes node (fin.insert (attributes_of nodes node) m v)) node m ≡ Some pair.payload
    here [] ok = absurd (named [] ok refl)
    here (c ∷ m) ok = ap (option_map payload_of) (value_of nodes node (fin.insert (attributes_of nodes node) (c ∷ m) v) (c ∷ m) ∙ get_here names_total exact_names (attributes_of nodes node) (c ∷ m) v) ∙ ap Some (sym payload)

    same : (q : ℕ) (m : List ℕ) → (q ≡ node → m ≡ name → ⊥) → stored (with_attribute nodes node name v) q m ≡ stored nodes q m
    same q m apart = elim (cases_eq q node) [
      | inl e ↦ subst (λ n. stored (with_attribute nodes node name v) n m ≡ stored nodes n m) (sym e)
          (still nodes node (fin.insert (attributes_of nodes node) name v) q m name there (apart e) (get_other names_total exact_names (attributes_of nodes node) name v m (apart e)))
      | inr ne ↦ elsewhere nodes node (fin.insert (attributes_of nodes node) name v) q m ne
    ]

-- The catalog after an attribute of a node was unset.
pub catalog_unset : (items : List Pair) (nodes : Nodes) (node : ℕ) (name k : List ℕ) → node < 2 ^ 64 → is_some (fin.get nodes node) ≡ true → name_from name ≡ Ok name
    → k ≡ catalog_key node name → IsCatalog items nodes → IsCatalog (without k items) (fin.insert nodes node (fin.remove (attributes_of nodes node) name))
catalog_unset items nodes node name k fits there valid key catalog =
    catalog_without items nodes (fin.insert nodes node (fin.remove (attributes_of nodes node) name)) node name fits catalog same k key (here name valid)
  where
    here : (m : List ℕ) → name_from m ≡ Ok m → stored (fin.insert nodes node (fin.remove (attributes_of nodes node) m)) node m ≡ None
    here [] ok = absurd (named [] ok refl)
    here (c ∷ m) ok = ap (option_map payload_of) (value_of nodes node (fin.remove (attributes_of nodes node) (c ∷ m)) (c ∷ m) ∙ gone_here names_total exact_names (attributes_of nodes node) (c ∷ m))

    same : (q : ℕ) (m : List ℕ) → (q ≡ node → m ≡ name → ⊥) → stored (fin.insert nodes node (fin.remove (attributes_of nodes node) name)) q m ≡ stored nodes q m
    same q m apart = elim (cases_eq q node) [
      | inl e ↦ subst (λ n. stored (fin.insert nodes node (fin.remove (attributes_of nodes node) name)) n m ≡ stored nodes n m) (sym e)
          (still nodes node (fin.remove (attributes_of nodes node) name) q m name there (apart e) (gone_other names_total exact_names (attributes_of nodes node) name m (apart e)))
      | inr ne ↦ elsewhere nodes node (fin.remove (attributes_of nodes node) name) q m ne
    ]

-- The catalog after a node without attributes was dropped.
pub catalog_dropped : (items : List Pair) (nodes : Nodes) (node : ℕ) (k : List ℕ) → node < 2 ^ 64 → ((m : List ℕ) → value_at nodes node m ≡ None) → k ≡ catalog_key node []
    → IsCatalog items nodes → IsCatalog (without k items) (fin.remove nodes node)
catalog_dropped items nodes node k fits bare key catalog =
    catalog_without items nodes (fin.remove nodes node) node [] fits catalog same k key (ap (option_map mark) (gone_here nat_cmp_total nat_cmp-IsAntisymmetric nodes node))
  where
    at_node : (m : List ℕ) → (m ≡ [] → ⊥) → stored (fin.remove nodes node) node m ≡ stored nodes node m
    at_node [] ne = absurd (ne refl)
    at_node (c ∷ m) ne = ap (option_map payload_of) (ap (at_name (c ∷ m)) (gone_here nat_cmp_total nat_cmp-IsAntisymmetric nodes node) ∙ sym (bare (c ∷ m)))

    same : (q : ℕ) (m : List ℕ) → (q ≡ node → m ≡ [] → ⊥) → stored (fin.remove nodes node) q m ≡ stored nodes q m
    same q m apart = elim (cases_eq q node) [
      | inl e ↦ subst (λ n. stored (fin.remove nodes node) n m ≡ stored nodes n m) (sym e) (at_node m (apart e))
      | inr ne ↦ stored_apart nodes (fin.remove nodes node) q m (gone_other nat_cmp_total nat_cmp-IsAntisymmetric nodes node q ne)
    ]
