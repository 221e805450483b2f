-- How an accepted operation changes what can be observed of a volume.
use Rattle.std.proofs.Common.{◌≡◌, ◌<◌, ◌≤◌, ◌+◌, ℕ, Bool, true, false, cond, not, ◌&&◌, if◌then◌else◌, nat_lt, nat_le, List, refl, sym, ap, ◌∙◌, subst, arith, Some, None, is_some, unwrap_or}
use Rattle.std.proofs.lemmas.Bool.Decides.{nat_tests}
use Rattle.std.specs.Prelude.{Ok, Err}
use Rattle.std.specs.Option.{option_and_then, option_map}
use Rattle.std.specs.Ordering.{nat_cmp, is_eq, eq_by_cmp}
use Rattle.std.specs.Cmp.{ranked, nat_cmp_total, tied_itself}
use Rattle.std.specs.declared.cmp.Ordering.{Ordering}
use Rattle.std.specs.declared.cmp.Ordering.TheVariants.{Less, Equal, Greater}
use Rattle.std.specs.declared.option.Option.{Option}
use Rattle.std.specs.FinMap as fin
use Rattle.be_value.specs.Value.{kind_of, is_indexable}
use Rattle.be_value.specs.declared.refusals.Refusal.{Refusal}
use Rattle.be_value.specs.declared.refusals.Refusal.TheVariants.{NoNode, TooManyAttrs, IndexExists, TooManyIndices, NotIndexable}
use Rattle.be_value.specs.declared.values.Kind.{Kind}
use Rattle.be_value.specs.declared.values.Value.{Value}
use Rattle.be_volume.specs.Indices.{Indices, paired, paired_at, same_kind}
use Rattle.be_volume.specs.Maps.{name_cmp, Attributes, Nodes, attributes_of}
use Rattle.be_volume.specs.Reading.{attribute, index_kind}
use Rattle.be_volume.specs.Volume.{State, step}
use Rattle.be_volume.specs.declared.maps.Index.{Index}
use Rattle.be_volume.specs.declared.ops.Done.TheVariants.{Unit as Nothing}
use Rattle.be_volume.specs.declared.ops.Op.TheVariants.{Drop, Set, MkIndex}
use Rattle.be_volume.proofs.MapLemmas.{names_total, exact_names}
use Rattle.be_volume.proofs.StepLemmas.{made}
use Rattle.be_volume_state.specs.Rebuilding.{pair_at}

pub is_below : (m n : ℕ) → m < n → nat_lt m n ≡ true
is_below m n h = grind (arith, nat_tests)

pub not_below : (m n : ℕ) → n ≤ m → nat_lt m n ≡ false
not_below m n h = grind (arith, nat_tests)

-- a number either is n, or is below n + 1 exactly if it is below n
pub by_number : (n m : ℕ) (P : ℕ → Type 0) → P n → (eq_by_cmp nat_cmp m n ≡ false → nat_lt m (n + 1) ≡ nat_lt m n → P m) → P m
by_number n m P here away = by (nat_cmp m n) refl
  where
    by : (r : Ordering) → nat_cmp m n ≡ r → P m
    by Less e = let lt : m < n = ranked m n Less (sym e) in away (ap is_eq e) (is_below m (n + 1) (omega arith) ∙ sym (is_below m n lt))
    by Equal e = subst P (sym (ranked m n Equal (sym e))) here
    by Greater e = let lt : n < m = ranked m n Greater (sym e) in away (ap is_eq e) (not_below m (n + 1) (omega arith) ∙ sym (not_below m n (omega arith)))

pub own_number : (n : ℕ) → eq_by_cmp nat_cmp n n ≡ true
own_number n = ap is_eq (tied_itself nat_cmp_total n)

pub own_name : (name : List ℕ) → eq_by_cmp name_cmp name name ≡ true
own_name name = ap is_eq (tied_itself names_total name)

tied : (r : Ordering) → is_eq r ≡ true → r ≡ Equal
tied Less h = cc
tied Equal h = refl
tied Greater h = cc

pub same_name : (q name : List ℕ) → eq_by_cmp name_cmp q name ≡ true → q ≡ name
same_name q name e = exact_names q name (tied _ e)

pub by_name : (name q : List ℕ) (P : List ℕ → Type 0) → P name → (eq_by_cmp name_cmp q name ≡ false → P q) → P q
by_name name q P here away = by (eq_by_cmp name_cmp q name) refl
  where
    by : (b : Bool) → eq_by_cmp name_cmp q name ≡ b → P q
    by true e = subst P (sym (same_name q name e)) here
    by false e = away e

-- the attribute, found among the node's attributes
pub of_node : (t : State) (n : ℕ) (q : List ℕ) → fin.get (attributes_of t.nodes n) q ≡ attribute t n q
of_node t n q = by (fin.get t.nodes n)
  where
    by : (found : Option Attributes) → fin.get (unwrap_or found fin.empty) q ≡ option_and_then (λ (a : Attributes). fin.get a q) found
    by None = fin.get-empty name_cmp q
    by (Some a) = refl

module _ (nodes : Nodes) (n : ℕ) (a : Attributes) where
  put_here : fin.get (fin.insert nodes n a) n ≡ Some a
  put_here = fin.get-insert nat_cmp_total nodes n a n ∙ ap (λ b. cond b (Some a) (fin.get nodes n)) (own_number n)

  put_away : (m : ℕ) → eq_by_cmp nat_cmp m n ≡ false → fin.get (fin.insert nodes n a) m ≡ fin.get nodes m
  put_away m e = fin.get-insert nat_cmp_total nodes n a m ∙ ap (λ b. cond b (Some a) (fin.get nodes m)) e

  pub has_here : fin.contains_key (fin.insert nodes n a) n ≡ true
  has_here = ap is_some put_here

  pub has_away : (m : ℕ) → eq_by_cmp nat_cmp m n ≡ false → fin.contains_key (fin.insert nodes n a) m ≡ fin.contains_key nodes m
  has_away m e = ap is_some (put_away m e)

  pub attribute_here : (q : List ℕ) → option_and_then (λ (b : Attributes). fin.get b q) (fin.get (fin.insert nodes n a) n) ≡ fin.get a q
  attribute_here q = ap (option_and_then (λ (b : Attributes). fin.get b q)) put_here

  pub attribute_away : (m : ℕ) (q : List ℕ) → eq_by_cmp nat_cmp m n ≡ false →
      option_and_then (λ (b : Attributes). fin.get b q) (fin.get (fin.insert nodes n a) m) ≡ option_and_then (λ (b : Attributes). fin.get b q) (fin.get nodes m)
  attribute_away m q e = ap (option_and_then (λ (b : Attributes). fin.get b q)) (put_away m e)

  pub attributes_here : attributes_of (fin.insert nodes n a) n ≡ a
  attributes_here = ap (λ (o : Option Attributes). unwrap_or o fin.empty) put_here

  pub attributes_away : (m : ℕ) → eq_by_cmp nat_cmp m n ≡ false → attributes_of (fin.insert nodes n a) m ≡ attributes_of nodes m
  attributes_away m e = ap (λ (o : Option Attributes). unwrap_or o fin.empty) (put_away m e)

module _ (nodes : Nodes) (n : ℕ) where
  gone : fin.get (fin.remove nodes n) n ≡ None
  gone = fin.get-remove nat_cmp_total nodes n n ∙ ap (λ b. cond b None (fin.get nodes n)) (own_number n)

  left : (m : ℕ) → eq_by_cmp nat_cmp m n ≡ false → fin.get (fin.remove nodes n) m ≡ fin.get nodes m
  left m e = fin.get-remove nat_cmp_total nodes n m ∙ ap (λ b. cond b None (fin.get nodes m)) e

  pub dropped_here : fin.contains_key (fin.remove nodes n) n ≡ false
  dropped_here = ap is_some gone

  pub dropped_away : (m : ℕ) → eq_by_cmp nat_cmp m n ≡ false → fin.contains_key (fin.remove nodes n) m ≡ fin.contains_key nodes m
  dropped_away m e = ap is_some (left m e)

  pub attributes_left : (m : ℕ) → eq_by_cmp nat_cmp m n ≡ false → attributes_of (fin.remove nodes n) m ≡ attributes_of nodes m
  attributes_left m e = ap (λ (o : Option Attributes). unwrap_or o fin.empty) (left m e)

  pub lost_here : (q : List ℕ) → option_and_then (λ (b : Attributes). fin.get b q) (fin.get (fin.remove nodes n) n) ≡ None
  lost_here q = ap (option_and_then (λ (b : Attributes). fin.get b q)) gone

  pub lost_away : (m : ℕ) (q : List ℕ) → eq_by_cmp nat_cmp m n ≡ false →
      option_and_then (λ (b : Attributes). fin.get b q) (fin.get (fin.remove nodes n) m) ≡ option_and_then (λ (b : Attributes). fin.get b q) (fin.get nodes m)
  lost_away m q e = ap (option_and_then (λ (b : Attributes). fin.get b q)) (left m e)

-- the node's pair in an index of this kind once the node has been given the value
abbrev pub pair_set : Option Kind → Value → Option Value → Option Value
pair_set None value old = old
pair_set (Some kind) value old = if same_kind kind (kind_of value) then Some value else None

module _ (indices : Indices) (name : List ℕ) (index : Index) where
  got_here : fin.get (fin.insert indices name index) name ≡ Some index
  got_here = fin.get-insert names_total indices name index name ∙ ap (λ b. cond b (Some index) (fin.get indices name)) (own_name name)

  pub got_away : (q : List ℕ) → eq_by_cmp name_cmp q name ≡ false → fin.get (fin.insert indices name index) q ≡ fin.get indices q
  got_away q e = fin.get-insert names_total indices name index q ∙ ap (λ b. cond b (Some index) (fin.get indices q)) e

  pub pair_here : (m : ℕ) → option_and_then (λ (i : Index). fin.get i.pairs m) (fin.get (fin.insert indices name index) name) ≡ fin.get index.pairs m
  pair_here m = ap (option_and_then (λ (i : Index). fin.get i.pairs m)) got_here

  pub kind_here : option_map (λ (i : Index). i.kind) (fin.get (fin.insert indices name index) name) ≡ Some index.kind
  kind_here = ap (option_map (λ (i : Index). i.kind)) got_here

abbrev pair_in : Indices → List ℕ → ℕ → Option Value
pair_in indices q m = option_and_then (λ (i : Index). fin.get i.pairs m) (fin.get indices q)

abbrev kind_in : Indices → List ℕ → Option Kind
kind_in indices q = option_map (λ (i : Index). i.kind) (fin.get indices q)

-- an index once a node has been given a value, which may or may not fit it
abbrev paired_if : Bool → Index → ℕ → Value → Index
paired_if fits index n value = if fits then record { kind = index.kind; pairs = fin.insert index.pairs n value } else record { kind = index.kind; pairs = fin.remove index.pairs n }

module _ (index : Index) (n : ℕ) (value : Value) where
  own_pair : fin.get (paired index n value).pairs n ≡ (if same_kind index.kind (kind_of value) then Some value else None)
  own_pair = by (same_kind index.kind (kind_of value))
    where
      by : (b : Bool) → fin.get (paired_if b index n value).pairs n ≡ (if b then Some value else None)
      by true = fin.get-insert nat_cmp_total index.pairs n value n ∙ ap (λ b. cond b (Some value) (fin.get index.pairs n)) (own_number n)
      by false = fin.get-remove nat_cmp_total index.pairs n n ∙ ap (λ b. cond b None (fin.get index.pairs n)) (own_number n)

  other_pair : (m : ℕ) → eq_by_cmp nat_cmp m n ≡ false → fin.get (paired index n value).pairs m ≡ fin.get index.pairs m
  other_pair m e = by (same_kind index.kind (kind_of value))
    where
      by : (b : Bool) → fin.get (paired_if b index n value).pairs m ≡ fin.get index.pairs m
      by true = fin.get-insert nat_cmp_total index.pairs n value m ∙ ap (λ b. cond b (Some value) (fin.get index.pairs m)) e
      by false = fin.get-remove nat_cmp_total index.pairs n m ∙ ap (λ b. cond b None (fin.get index.pairs m)) e

  own_kind : (paired index n value).kind ≡ index.kind
  own_kind = by (same_kind index.kind (kind_of value))
    where
      by : (b : Bool) → (paired_if b index n value).kind ≡ index.kind
      by true = refl
      by false = refl

module _ (indices : Indices) (name : List ℕ) (n : ℕ) (value : Value) where
  same_pair : (q : List ℕ) (m : ℕ) → eq_by_cmp name_cmp q name ≡ false → pair_in (paired_at indices name (fin.get indices name) n value) q m ≡ pair_in indices q m
  same_pair q m e = by (fin.get indices name)
    where
      by : (found : Option Index) → pair_in (paired_at indices name found n value) q m ≡ pair_in indices q m
      by None = refl
      by (Some index) = ap (option_and_then (λ (i : Index). fin.get i.pairs m)) (got_away indices name (paired index n value) q e)

  pair_stays : (m : ℕ) → eq_by_cmp nat_cmp m n ≡ false → pair_in (paired_at indices name (fin.get indices name) n value) name m ≡ pair_in indices name m
  pair_stays m e = by (fin.get indices name) refl
    where
      by : (found : Option Index) → fin.get indices name ≡ found → pair_in (paired_at indices name found n value) name m ≡ pair_in indices name m
      by None there = refl
      by (Some index) there = pair_here indices name (paired index n value) m ∙ other_pair index n value m e ∙ sym (ap (option_and_then (λ (i : Index). fin.get i.pairs m)) there)

  pair_comes : pair_in (paired_at indices name (fin.get indices name) n value) name n ≡ pair_set (kind_in indices name) value (pair_in indices name n)
  pair_comes = by (fin.get indices name) refl
    where
      by : (found : Option Index) → fin.get indices name ≡ found → pair_in (paired_at indices name found n value) name n ≡ pair_set (kind_in indices name) value (pair_in indices name n)
      by None there = sym (ap (λ (o : Option Index). pair_set (option_map (λ (i : Index). i.kind) o) value (pair_in indices name n)) there)
      by (Some index) there = pair_here indices name (paired index n value) n ∙ own_pair index n value
          ∙ sym (ap (λ (o : Option Index). pair_set (option_map (λ (i : Index). i.kind) o) value (pair_in indices name n)) there)

  kind_stays : (q : List ℕ) → kind_in (paired_at indices name (fin.get indices name) n value) q ≡ kind_in indices q
  kind_stays q = by (fin.get indices name) refl
    where
      by : (found : Option Index) → fin.get indices name ≡ found → kind_in (paired_at indices name found n value) q ≡ kind_in indices q
      by None there = refl
      by (Some index) there =
          let P : List ℕ → Type 0 = λ x. kind_in (fin.insert indices name (paired index n value)) x ≡ kind_in indices x in
          by_name name q P (kind_here indices name (paired index n value) ∙ ap Some (own_kind index n value) ∙ sym (ap (option_map (λ (i : Index). i.kind)) there))
          (λ e. ap (option_map (λ (i : Index). i.kind)) (got_away indices name (paired index n value) q e))

-- how setting an attribute of an existing node changes a volume
module _ (t : State) (n : ℕ) (name : List ℕ) (value : Value) where
  pub set_there : (m : ℕ) → fin.contains_key t.nodes n ≡ true → fin.contains_key (made t (Set n name value)).nodes m ≡ fin.contains_key t.nodes m
  set_there m h =
      let a : Attributes = fin.insert (attributes_of t.nodes n) name value in
      let P : ℕ → Type 0 = λ x. fin.contains_key (fin.insert t.nodes n a) x ≡ fin.contains_key t.nodes x in
      by_number n m P (has_here t.nodes n a ∙ sym h) (λ e _. has_away t.nodes n a m e)

  pub set_here : (q : List ℕ) → attribute (made t (Set n name value)) n q ≡ cond (eq_by_cmp name_cmp q name) (Some value) (attribute t n q)
  set_here q = attribute_here t.nodes n (fin.insert (attributes_of t.nodes n) name value) q ∙ fin.get-insert names_total (attributes_of t.nodes n) name value q
      ∙ ap (cond (eq_by_cmp name_cmp q name) (Some value)) (of_node t n q)

  pub set_away : (m : ℕ) (q : List ℕ) → eq_by_cmp nat_cmp m n ≡ false → attribute (made t (Set n name value)) m q ≡ attribute t m q
  set_away m q e = attribute_away t.nodes n (fin.insert (attributes_of t.nodes n) name value) m q e

  pub set_kind : (q : List ℕ) → index_kind (made t (Set n name value)) q ≡ index_kind t q
  set_kind q = kind_stays t.indices name n value q

  pub set_pair : (q : List ℕ) → pair_at (made t (Set n name value)) q n ≡ cond (eq_by_cmp name_cmp q name) (pair_set (index_kind t q) value (pair_at t q n)) (pair_at t q n)
  set_pair q =
      let P : List ℕ → Type 0 = λ x. pair_at (made t (Set n name value)) x n ≡ cond (eq_by_cmp name_cmp x name) (pair_set (index_kind t x) value (pair_at t x n)) (pair_at t x n) in
      by_name name q P (pair_comes t.indices name n value ∙ sym (ap (λ b. cond b (pair_set (index_kind t name) value (pair_at t name n)) (pair_at t name n)) (own_name name)))
      (λ e. same_pair t.indices name n value q n e ∙ sym (ap (λ b. cond b (pair_set (index_kind t q) value (pair_at t q n)) (pair_at t q n)) e))

  pub set_apart : (q : List ℕ) (m : ℕ) → eq_by_cmp nat_cmp m n ≡ false → pair_at (made t (Set n name value)) q m ≡ pair_at t q m
  set_apart q m e =
      let P : List ℕ → Type 0 = λ x. pair_at (made t (Set n name value)) x m ≡ pair_at t x m in
      by_name name q P (pair_stays t.indices name n value m e) (λ f. same_pair t.indices name n value q m f)

  pub set_count : fin.len (attributes_of (made t (Set n name value)).nodes n) ≤ fin.len (attributes_of t.nodes n) + 1
  set_count =
      let a : Attributes = attributes_of t.nodes n in
      subst (λ (x : Attributes). fin.len x ≤ fin.len a + 1) (sym (attributes_here t.nodes n (fin.insert a name value)))
      (subst (λ k. k ≤ fin.len a + 1) (sym (fin.len-insert names_total a name value)) (by (fin.contains_key a name)))
    where
      by : (b : Bool) → cond b (fin.len (attributes_of t.nodes n)) (fin.len (attributes_of t.nodes n) + 1) ≤ fin.len (attributes_of t.nodes n) + 1
      by true = omega arith
      by false = omega arith

-- the same when the operation is accepted
chosen : {A : Type 0} (b c : Bool) (e f : Refusal) (x : A) → b ≡ true → c ≡ false → (if not b then Err e else if c then Err f else Ok x) ≡ Ok x
chosen true false e f x h g = refl
chosen true true e f x h g = cc
chosen false c e f x h g = cc

passed : (b : Bool) (n : ℕ) → n < 64 → (not b && nat_le 64 n) ≡ false
passed true n h = refl
passed false n h = grind (arith, nat_tests)

pub set_accepted : (t : State) (n : ℕ) (name : List ℕ) (value : Value) → fin.contains_key t.nodes n ≡ true → fin.len (attributes_of t.nodes n) < 64 →
    step t (Set n name value) ≡ Ok (made t (Set n name value), Nothing)
set_accepted t n name value h few =
    chosen (fin.contains_key t.nodes n) (not (fin.contains_key (attributes_of t.nodes n) name) && nat_le 64 (fin.len (attributes_of t.nodes n))) NoNode TooManyAttrs _ h
    (passed (fin.contains_key (attributes_of t.nodes n) name) (fin.len (attributes_of t.nodes n)) few)

found : {A : Type 0} (b : Bool) (e : Refusal) (x : A) → b ≡ true → (if not b then Err e else Ok x) ≡ Ok x
found true e x h = refl
found false e x h = cc

pub drop_accepted : (t : State) (n : ℕ) → fin.contains_key t.nodes n ≡ true → step t (Drop n) ≡ Ok (made t (Drop n), Nothing)
drop_accepted t n h = found (fin.contains_key t.nodes n) NoNode _ h

allowed : {A : Type 0} (a b c : Bool) (e f g : Refusal) (x : A) → a ≡ false → b ≡ false → c ≡ true →
    (if a then Err e else if b then Err f else if not c then Err g else Ok x) ≡ Ok x
allowed true b c e f g x h i j = cc
allowed false true c e f g x h i j = cc
allowed false false true e f g x h i j = refl
allowed false false false e f g x h i j = cc

below : (n : ℕ) → n < 32 → nat_le 32 n ≡ false
below n h = grind (arith, nat_tests)

pub index_accepted : (t : State) (name : List ℕ) (kind : Kind) → fin.contains_key t.indices name ≡ false → fin.len t.indices < 32 → is_indexable kind ≡ true →
    step t (MkIndex name kind) ≡ Ok (made t (MkIndex name kind), Nothing)
index_accepted t name kind h few ix =
    allowed (fin.contains_key t.indices name) (nat_le 32 (fin.len t.indices)) (is_indexable kind) IndexExists TooManyIndices NotIndexable _ h (below _ few) ix
