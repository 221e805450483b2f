-- Accepted operations preserve a volume's soundness.
use Rattle.std.proofs.Common.{◌≡◌, ◌⊎◌, inl, inr, ◌<◌, ◌≤◌, ◌+◌, ◌++◌, ◌^◌, ℕ, Bool, true, false, cond, List, [], ◌∷◌, length, IsTrue, refl, sym, ap, ◌∙◌, subst, arith, Some, None, is_some, nat_eq, unwrap_or, fold, All, is_ok}
use Rattle.std.proofs.lemmas.List.Elements.{All-head, All-tail}
use Rattle.std.proofs.lemmas.Option.{same_Some}
use Rattle.std.specs.Prelude.{Ok, Err, Result}
use Rattle.std.specs.Option.{option_and_then, option_map}
use Rattle.std.specs.Result.{result_map_both}
use Rattle.std.specs.Ordering.{nat_cmp, is_eq, eq_by_cmp}
use Rattle.std.specs.Cmp.{IsTotalOrder, nat_cmp_is, nat_cmp_total, tied_itself}
use Rattle.std.specs.declared.cmp.Ordering.{Ordering}
use Rattle.std.specs.declared.cmp.Ordering.TheVariants.{Less, Equal, Greater}
use Rattle.std.specs.declared.option.Option.{Option}
use Rattle.std.specs.FinMap as fin
use Rattle.std.specs.FinMap.{FinMap, nat_cmp-IsAntisymmetric}
use Rattle.be_value.specs.Key.{IsValue}
use Rattle.be_value.specs.Value.{kind_of, code_of, is_indexable}
use Rattle.be_value.specs.declared.refusals.Refusal.{Refusal}
use Rattle.be_value.specs.declared.values.Kind.{Kind}
use Rattle.be_value.specs.declared.values.Kind.TheVariants as kinds
use Rattle.be_value.specs.declared.values.Value.{Value}
use Rattle.be_volume.specs.Indices.{paired, paired_at, unpaired, unpaired_at, same_kind}
use Rattle.be_volume.specs.Maps.{name_cmp, Attributes, Nodes, attributes_of}
use Rattle.be_volume.specs.Reading.{attribute}
use Rattle.be_volume.specs.Sound.{IsName, IsOperation, IsPaired, IsSound}
use Rattle.be_volume.specs.Volume.{State, step, steps, advance}
use Rattle.be_volume.specs.Ahead.{reached}
use Rattle.be_volume.specs.declared.maps.Index.{Index}
use Rattle.be_volume.specs.declared.ops.Done.{Done}
use Rattle.be_volume.specs.declared.ops.Op.{Op}
use Rattle.be_volume.specs.declared.ops.Op.TheVariants.{New, Drop, Set, Unset, MkIndex, RmIndex}
use Rattle.be_volume.proofs.MapLemmas.{names_total, exact_names}
use Rattle.be_volume.proofs.StepLemmas.{made, Found, accepted, refused_stays, not_both}
use Rattle.be_volume.proofs.FactLemmas.{next_bound, get_changed, few_attributes_stay, few_indices_stay}

tied : (r : Ordering) → is_eq r ≡ true → r ≡ Equal
tied Less h = cc
tied Equal h = refl
tied Greater h = cc

module _ {K X : Type 0} {R : K → K → Ordering} (o : IsTotalOrder R) (m : FinMap R X) (k q : K) where
  get_there : (v : X) → eq_by_cmp R q k ≡ true → fin.get (fin.insert m k v) q ≡ Some v
  get_there v e = fin.get-insert o m k v q ∙ ap (λ b. cond b (Some v) (fin.get m q)) e

  get_other : (v : X) → eq_by_cmp R q k ≡ false → fin.get (fin.insert m k v) q ≡ fin.get m q
  get_other v e = fin.get-insert o m k v q ∙ ap (λ b. cond b (Some v) (fin.get m q)) e

  gone_there : eq_by_cmp R q k ≡ true → fin.get (fin.remove m k) q ≡ None
  gone_there e = fin.get-remove o m k q ∙ ap (λ b. cond b None (fin.get m q)) e

  gone_other : eq_by_cmp R q k ≡ false → fin.get (fin.remove m k) q ≡ fin.get m q
  gone_other e = fin.get-remove o m k q ∙ ap (λ b. cond b None (fin.get m q)) e

  -- what is left after a removal was there before, at another key
  left : (v : X) → fin.get (fin.remove m k) q ≡ Some v → (eq_by_cmp R q k ≡ false) × (fin.get m q ≡ Some v)
  left v h = by (eq_by_cmp R q k) refl
    where
      by : (t : Bool) → eq_by_cmp R q k ≡ t → (eq_by_cmp R q k ≡ false) × (fin.get m q ≡ Some v)
      by true e = let none : None ≡ Some v = sym (gone_there e) ∙ h in cc
      by false e = (e, sym (gone_other e) ∙ h)

same_code : (a b : Kind) → nat_eq (code_of a) (code_of b) ≡ true → a ≡ b
same_code kinds.Cstr kinds.Cstr h = refl
same_code kinds.Long kinds.Long h = refl
same_code kinds.Llng kinds.Llng h = refl
same_code kinds.Mims kinds.Mims h = refl
same_code kinds.Rawt kinds.Rawt h = refl
same_code kinds.Ulng kinds.Ulng h = refl
same_code kinds.Ullg kinds.Ullg h = refl
same_code a b h = cc

-- the nodes' attributes
abbrev held : Nodes → ℕ → List ℕ → Option Value
held nodes n name = option_and_then (λ (a : Attributes). fin.get a name) (fin.get nodes n)

held_of : (nodes : Nodes) (n : ℕ) (name : List ℕ) → fin.get (attributes_of nodes n) name ≡ held nodes n name
held_of nodes n name = by (fin.get nodes n)
  where
    by : (found : Option Attributes) → fin.get (unwrap_or found fin.empty) name ≡ option_and_then (λ (a : Attributes). fin.get a name) found
    by None = fin.get-empty name_cmp name
    by (Some a) = refl

is_there : (nodes : Nodes) (n : ℕ) (name : List ℕ) (v : Value) → held nodes n name ≡ Some v → fin.contains_key nodes n ≡ true
is_there nodes n name v = by (fin.get nodes n)
  where
    by : (found : Option Attributes) → option_and_then (λ (a : Attributes). fin.get a name) found ≡ Some v → is_some found ≡ true
    by None h = cc
    by (Some a) h = refl

module _ (nodes : Nodes) (node : ℕ) where
  put_here : (a : Attributes) (n : ℕ) (name : List ℕ) → eq_by_cmp nat_cmp n node ≡ true → held (fin.insert nodes node a) n name ≡ fin.get a name
  put_here a n name e = ap (option_and_then (λ (b : Attributes). fin.get b name)) (get_there nat_cmp_total nodes node n a e)

  put_apart : (a : Attributes) (n : ℕ) (name : List ℕ) → eq_by_cmp nat_cmp n node ≡ false → held (fin.insert nodes node a) n name ≡ held nodes n name
  put_apart a n name e = ap (option_and_then (λ (b : Attributes). fin.get b name)) (get_other nat_cmp_total nodes node n a e)

  drop_apart : (n : ℕ) (name : List ℕ) → eq_by_cmp nat_cmp n node ≡ false → held (fin.remove nodes node) n name ≡ held nodes n name
  drop_apart n name e = ap (option_and_then (λ (b : Attributes). fin.get b name)) (gone_other nat_cmp_total nodes node n e)

  drop_here : (n : ℕ) (name : List ℕ) → eq_by_cmp nat_cmp n node ≡ true → held (fin.remove nodes node) n name ≡ None
  drop_here n name e = ap (option_and_then (λ (b : Attributes). fin.get b name)) (gone_there nat_cmp_total nodes node n e)

  -- if the node's attributes differ only at one name, other names keep theirs
  other_name : (a : Attributes) (other : List ℕ) → fin.get a other ≡ fin.get (attributes_of nodes node) other → (n : ℕ) →
      held (fin.insert nodes node a) n other ≡ held nodes n other
  other_name a other same n = by (eq_by_cmp nat_cmp n node) refl
    where
      by : (t : Bool) → eq_by_cmp nat_cmp n node ≡ t → held (fin.insert nodes node a) n other ≡ held nodes n other
      by true e = put_here a n other e ∙ same ∙ held_of nodes node other ∙ ap (λ m. held nodes m other) (sym (nat_cmp-IsAntisymmetric n node (tied _ e)))
      by false e = put_apart a n other e

  -- an existing node that is set again
  again : (a : Attributes) → fin.contains_key nodes node ≡ true → (n : ℕ) → fin.contains_key (fin.insert nodes node a) n ≡ true → fin.contains_key nodes n ≡ true
  again a exists n h = by (eq_by_cmp nat_cmp n node) refl
    where
      by : (t : Bool) → eq_by_cmp nat_cmp n node ≡ t → fin.contains_key nodes n ≡ true
      by true e = ap (fin.contains_key nodes) (nat_cmp-IsAntisymmetric n node (tied _ e)) ∙ exists
      by false e = sym (ap is_some (get_other nat_cmp_total nodes node n a e)) ∙ h

-- An index after an operation comes from the one before it. Each of its pairs is either an old one
-- whose attribute is unchanged, or the new attribute.
record Descends (s t : State) (name : List ℕ) (index : Index) : Type 0 where
  old : Index
  there : fin.get s.indices name ≡ Some old
  kind : old.kind ≡ index.kind
  each : (n : ℕ) (v : Value) → fin.get index.pairs n ≡ Some v →
      ((fin.get old.pairs n ≡ Some v) × (attribute t n name ≡ attribute s n name)) ⊎ ((attribute t n name ≡ Some v) × (kind_of v ≡ index.kind))

-- the limits
record Few (s : State) : Type 0 where
  attributes : (node : ℕ) → fin.len (attributes_of s.nodes node) ≤ 64
  indices : fin.len s.indices ≤ 32

few : (s : State) (op : Op) → IsSound s → Found s op → Few (made s op)
few s op sound found = record {
  attributes = few_attributes_stay s op found sound.few_attributes;
  indices = few_indices_stay s op found sound.few_indices;
}

-- or it is new and empty
abbrev Comes : State → State → List ℕ → Index → Type 0
Comes s t name index = Descends s t name index ⊎ (((n : ℕ) → fin.get index.pairs n ≡ None) × IsTrue (is_indexable index.kind) × IsName name)

module _ (s t : State) (sound : IsSound s) (limits : Few t) (fits : t.next < 2 ^ 64) (below : (n : ℕ) → fin.contains_key t.nodes n ≡ true → n < t.next)
    (valid : (n : ℕ) (name : List ℕ) (v : Value) → attribute t n name ≡ Some v → IsName name × IsValue v)
    (comes : (name : List ℕ) (index : Index) → fin.get t.indices name ≡ Some index → Comes s t name index) where
  pair : (name : List ℕ) (index : Index) (n : ℕ) (v : Value) → fin.get index.pairs n ≡ Some v → Comes s t name index → (attribute t n name ≡ Some v) × (kind_of v ≡ index.kind)
  pair name index n v got (inr new) = let none : None ≡ Some v = sym (new.0 n) ∙ got in cc
  pair name index n v got (inl d) = by (d.each n v got)
    where
      by : ((fin.get d.old.pairs n ≡ Some v) × (attribute t n name ≡ attribute s n name)) ⊎ ((attribute t n name ≡ Some v) × (kind_of v ≡ index.kind)) →
          (attribute t n name ≡ Some v) × (kind_of v ≡ index.kind)
      by (inl old) = let p : IsPaired s name d.old.kind n v = sound.pairs name d.old n v d.there old.0 in (old.1 ∙ p.attribute_is, p.kind_is ∙ d.kind)
      by (inr new) = new

  is_kind : (name : List ℕ) (index : Index) → Comes s t name index → IsTrue (is_indexable index.kind)
  is_kind name index (inr new) = new.1
  is_kind name index (inl d) = let P : Kind → Type 0 = λ k. IsTrue (is_indexable k) in subst P d.kind (sound.kinds name d.old d.there)

  is_named : (name : List ℕ) (index : Index) → Comes s t name index → IsName name
  is_named name index (inr new) = new.2
  is_named name index (inl d) = sound.names name d.old d.there

  finished : IsSound t
  finished = record {
    pairs = λ name index n v there got.
        let p = pair name index n v got (comes name index there) in
        let lt : n < t.next = below n (is_there t.nodes n name v p.0) in
        record { attribute_is = p.0; kind_is = p.1; is_value = (valid n name v p.0).1; node_fits = omega (arith, lt, fits); node_below = lt };
    kinds = λ name index there. is_kind name index (comes name index there);
    names = λ name index there. is_named name index (comes name index there);
    attributes = valid;
    nodes = below;
    few_attributes = limits.attributes;
    few_indices = limits.indices;
  }

-- an index is unchanged if the attributes of its pairs are
stays : (s t : State) (name : List ℕ) (index : Index) → fin.get s.indices name ≡ Some index →
    ((n : ℕ) (v : Value) → fin.get index.pairs n ≡ Some v → attribute t n name ≡ attribute s n name) → Comes s t name index
stays s t name index there same = inl (record { old = index; there = there; kind = refl; each = λ n v got. inl (got, same n v got) })

module _ (s : State) (sound : IsSound s) (fits : s.next + 1 < 2 ^ 64) where
  new_sound : IsSound (made s New)
  new_sound = finished s (made s New) sound (few s New sound tt) fits (λ n h. below n h (eq_by_cmp nat_cmp n s.next) refl)
      (λ n name v h. valid n name v h (eq_by_cmp nat_cmp n s.next) refl)
      (λ name index there. stays s (made s New) name index there (λ n v got. put_apart s.nodes s.next fin.empty n name (apart n (sound.pairs name index n v there got).node_below)))
    where
      apart : (n : ℕ) → n < s.next → eq_by_cmp nat_cmp n s.next ≡ false
      apart n lt = ap is_eq (sym (nat_cmp_is n s.next Less lt))

      below : (n : ℕ) → fin.contains_key (fin.insert s.nodes s.next fin.empty) n ≡ true → (t : Bool) → eq_by_cmp nat_cmp n s.next ≡ t → n < s.next + 1
      below n h true e = let same : n ≡ s.next = nat_cmp-IsAntisymmetric n s.next (tied _ e) in omega arith
      below n h false e = let lt : n < s.next = sound.nodes n (sym (ap is_some (get_other nat_cmp_total s.nodes s.next n fin.empty e)) ∙ h) in omega arith

      valid : (n : ℕ) (name : List ℕ) (v : Value) → held (fin.insert s.nodes s.next fin.empty) n name ≡ Some v → (t : Bool) → eq_by_cmp nat_cmp n s.next ≡ t → IsName name × IsValue v
      valid n name v h true e = let none : None ≡ Some v = sym (put_here s.nodes s.next fin.empty n name e ∙ fin.get-empty name_cmp name) ∙ h in cc
      valid n name v h false e = sound.attributes n name v (sym (put_apart s.nodes s.next fin.empty n name e) ∙ h)

  drop_sound : (node : ℕ) → Few (made s (Drop node)) → IsSound (made s (Drop node))
  drop_sound node limits = finished s (made s (Drop node)) sound limits (omega (arith, fits)) (λ n h. below n h (eq_by_cmp nat_cmp n node) refl)
      (λ n name v h. valid n name v h (eq_by_cmp nat_cmp n node) refl) (λ name index there. comes name index (fin.get s.indices name) refl
      (sym (get_changed names_total exact_names (λ i. unpaired i node) s.indices name) ∙ there))
    where
      below : (n : ℕ) → fin.contains_key (fin.remove s.nodes node) n ≡ true → (t : Bool) → eq_by_cmp nat_cmp n node ≡ t → n < s.next
      below n h true e = let no : false ≡ true = sym (ap is_some (gone_there nat_cmp_total s.nodes node n e)) ∙ h in cc
      below n h false e = sound.nodes n (sym (ap is_some (gone_other nat_cmp_total s.nodes node n e)) ∙ h)

      valid : (n : ℕ) (name : List ℕ) (v : Value) → held (fin.remove s.nodes node) n name ≡ Some v → (t : Bool) → eq_by_cmp nat_cmp n node ≡ t → IsName name × IsValue v
      valid n name v h true e = let none : None ≡ Some v = sym (drop_here s.nodes node n name e) ∙ h in cc
      valid n name v h false e = sound.attributes n name v (sym (drop_apart s.nodes node n name e) ∙ h)

      comes : (name : List ℕ) (index : Index) (found : Option Index) → fin.get s.indices name ≡ found → option_map (λ i. unpaired i node) found ≡ Some index →
          Comes s (made s (Drop node)) name index
      comes name index None g h = cc
      comes name index (Some old) g h =
          let is : unpaired old node ≡ index = same_Some _ _ h in
          inl (record {
            old = old;
            there = g;
            kind = ap (λ (i : Index). i.kind) is;
            each = λ n v got.
                let l = left nat_cmp_total old.pairs node n v (ap (λ (i : Index). fin.get i.pairs n) is ∙ got) in
                inl (l.1, drop_apart s.nodes node n name l.0);
          })

  module _ (node : ℕ) (name : List ℕ) (exists : fin.contains_key s.nodes node ≡ true) where
    -- the name's index after the node's pair has left it
    lost : (t : State) (old : Index) → fin.get s.indices name ≡ Some old → ((n : ℕ) → eq_by_cmp nat_cmp n node ≡ false → attribute t n name ≡ attribute s n name) →
        (index : Index) → unpaired old node ≡ index → Descends s t name index
    lost t old g same index is = record {
      old = old;
      there = g;
      kind = ap (λ (i : Index). i.kind) is;
      each = λ n v got.
          let l = left nat_cmp_total old.pairs node n v (ap (λ (i : Index). fin.get i.pairs n) is ∙ got) in
          inl (l.1, same n l.0);
    }

    module _ (value : Value) (named : IsName name) (is_value : IsValue value) where
      now : State
      now = made s (Set node name value)

      apart : (n : ℕ) (other : List ℕ) → eq_by_cmp nat_cmp n node ≡ false → attribute (made s (Set node name value)) n other ≡ attribute s n other
      apart n other e = put_apart s.nodes node (fin.insert (attributes_of s.nodes node) name value) n other e

      here : (n : ℕ) → eq_by_cmp nat_cmp n node ≡ true → attribute (made s (Set node name value)) n name ≡ Some value
      here n e = put_here s.nodes node (fin.insert (attributes_of s.nodes node) name value) n name e
          ∙ get_there names_total (attributes_of s.nodes node) name name value (ap is_eq (tied_itself names_total name))

      elsewhere : (other : List ℕ) → eq_by_cmp name_cmp other name ≡ false → (n : ℕ) → attribute (made s (Set node name value)) n other ≡ attribute s n other
      elsewhere other e n = other_name s.nodes node (fin.insert (attributes_of s.nodes node) name value) other (get_other names_total (attributes_of s.nodes node) name other value e) n

      valid : (n : ℕ) (other : List ℕ) (v : Value) → attribute (made s (Set node name value)) n other ≡ Some v →
          (t u : Bool) → eq_by_cmp name_cmp other name ≡ t → eq_by_cmp nat_cmp n node ≡ u → IsName other × IsValue v
      valid n other v h false u e f = sound.attributes n other v (sym (elsewhere other e n) ∙ h)
      valid n other v h true false e f = sound.attributes n other v (sym (apart n other f) ∙ h)
      valid n other v h true true e f =
          let same : other ≡ name = exact_names other name (tied _ e) in
          let is : value ≡ v = same_Some _ _ (sym (here n f) ∙ ap (λ x. attribute (made s (Set node name value)) n x) (sym same) ∙ h) in
          let N : List ℕ → Type 0 = IsName in
          let V : Value → Type 0 = IsValue in
          (subst N (sym same) named, subst V is is_value)

      -- the name's index
      own : (old : Index) → fin.get s.indices name ≡ Some old → (index : Index) (t : Bool) → same_kind old.kind (kind_of value) ≡ t →
          cond t (record { kind = old.kind; pairs = fin.insert old.pairs node value }) (unpaired old node) ≡ index → Descends s (made s (Set node name value)) name index
      own old g index false k is = lost (made s (Set node name value)) old g (λ n e. apart n name e) index is
      own old g index true k is = record { old = old; there = g; kind = ap (λ (i : Index). i.kind) is; each = λ n v got. by n v (ap (λ (i : Index). fin.get i.pairs n) is ∙ got) (eq_by_cmp nat_cmp n node) refl }
        where
          by : (n : ℕ) (v : Value) → fin.get (fin.insert old.pairs node value) n ≡ Some v → (u : Bool) → eq_by_cmp nat_cmp n node ≡ u →
              ((fin.get old.pairs n ≡ Some v) × (attribute (made s (Set node name value)) n name ≡ attribute s n name)) ⊎ ((attribute (made s (Set node name value)) n name ≡ Some v) × (kind_of v ≡ index.kind))
          by n v got true e =
              let values : value ≡ v = same_Some _ _ (sym (get_there nat_cmp_total old.pairs node n value e) ∙ got) in
              inr (here n e ∙ ap Some values, ap kind_of (sym values) ∙ sym (same_code old.kind (kind_of value) k) ∙ ap (λ (i : Index). i.kind) is)
          by n v got false e = inl (sym (get_other nat_cmp_total old.pairs node n value e) ∙ got, apart n name e)

      comes : (other : List ℕ) (index : Index) (found : Option Index) → fin.get s.indices name ≡ found → fin.get (paired_at s.indices name found node value) other ≡ Some index →
          (t : Bool) → eq_by_cmp name_cmp other name ≡ t → Comes s (made s (Set node name value)) other index
      comes other index None g there false e = stays s (made s (Set node name value)) other index there (λ n v got. elsewhere other e n)
      comes other index None g there true e =
          let none : None ≡ Some index = sym g ∙ ap (fin.get s.indices) (sym (exact_names other name (tied _ e))) ∙ there in cc
      comes other index (Some old) g there false e =
          stays s (made s (Set node name value)) other index (sym (get_other names_total s.indices name other (paired old node value) e) ∙ there) (λ n v got. elsewhere other e n)
      comes other index (Some old) g there true e =
          let P : List ℕ → Type 0 = λ x. Comes s (made s (Set node name value)) x index in
          subst P (sym (exact_names other name (tied _ e))) (inl (own old g index (same_kind old.kind (kind_of value)) refl
          (same_Some _ _ (sym (get_there names_total s.indices name other (paired old node value) e) ∙ there))))

      set_sound : Few (made s (Set node name value)) → IsSound (made s (Set node name value))
      set_sound limits = finished s (made s (Set node name value)) sound limits (omega (arith, fits)) (λ n h. sound.nodes n (again s.nodes node _ exists n h))
          (λ n other v h. valid n other v h (eq_by_cmp name_cmp other name) (eq_by_cmp nat_cmp n node) refl refl)
          (λ other index there. comes other index (fin.get s.indices name) refl there (eq_by_cmp name_cmp other name) refl)

    away : (n : ℕ) (other : List ℕ) → eq_by_cmp nat_cmp n node ≡ false → attribute (made s (Unset node name)) n other ≡ attribute s n other
    away n other e = put_apart s.nodes node (fin.remove (attributes_of s.nodes node) name) n other e

    taken : (n : ℕ) → eq_by_cmp nat_cmp n node ≡ true → attribute (made s (Unset node name)) n name ≡ None
    taken n e = put_here s.nodes node (fin.remove (attributes_of s.nodes node) name) n name e
        ∙ gone_there names_total (attributes_of s.nodes node) name name (ap is_eq (tied_itself names_total name))

    untouched : (other : List ℕ) → eq_by_cmp name_cmp other name ≡ false → (n : ℕ) → attribute (made s (Unset node name)) n other ≡ attribute s n other
    untouched other e n = other_name s.nodes node (fin.remove (attributes_of s.nodes node) name) other (gone_other names_total (attributes_of s.nodes node) name other e) n

    left_valid : (n : ℕ) (other : List ℕ) (v : Value) → attribute (made s (Unset node name)) n other ≡ Some v →
        (t u : Bool) → eq_by_cmp name_cmp other name ≡ t → eq_by_cmp nat_cmp n node ≡ u → IsName other × IsValue v
    left_valid n other v h false u e f = sound.attributes n other v (sym (untouched other e n) ∙ h)
    left_valid n other v h true false e f = sound.attributes n other v (sym (away n other f) ∙ h)
    left_valid n other v h true true e f =
        let none : None ≡ Some v = sym (taken n f) ∙ ap (λ x. attribute (made s (Unset node name)) n x) (sym (exact_names other name (tied _ e))) ∙ h in cc

    left_comes : (other : List ℕ) (index : Index) (found : Option Index) → fin.get s.indices name ≡ found → fin.get (unpaired_at s.indices name found node) other ≡ Some index →
        (t : Bool) → eq_by_cmp name_cmp other name ≡ t → Comes s (made s (Unset node name)) other index
    left_comes other index None g there false e = stays s (made s (Unset node name)) other index there (λ n v got. untouched other e n)
    left_comes other index None g there true e =
        let none : None ≡ Some index = sym g ∙ ap (fin.get s.indices) (sym (exact_names other name (tied _ e))) ∙ there in cc
    left_comes other index (Some old) g there false e =
        stays s (made s (Unset node name)) other index (sym (get_other names_total s.indices name other (unpaired old node) e) ∙ there) (λ n v got. untouched other e n)
    left_comes other index (Some old) g there true e =
        let P : List ℕ → Type 0 = λ x. Comes s (made s (Unset node name)) x index in
        subst P (sym (exact_names other name (tied _ e))) (inl (lost (made s (Unset node name)) old g (λ n f. away n name f) index
        (same_Some _ _ (sym (get_there names_total s.indices name other (unpaired old node) e) ∙ there))))

    unset_sound : Few (made s (Unset node name)) → IsSound (made s (Unset node name))
    unset_sound limits = finished s (made s (Unset node name)) sound limits (omega (arith, fits)) (λ n h. sound.nodes n (again s.nodes node _ exists n h))
        (λ n other v h. left_valid n other v h (eq_by_cmp name_cmp other name) (eq_by_cmp nat_cmp n node) refl refl)
        (λ other index there. left_comes other index (fin.get s.indices name) refl there (eq_by_cmp name_cmp other name) refl)

  index_sound : (name : List ℕ) (kind : Kind) → IsName name → is_indexable kind ≡ true → Few (made s (MkIndex name kind)) → IsSound (made s (MkIndex name kind))
  index_sound name kind named ix limits = finished s (made s (MkIndex name kind)) sound limits (omega (arith, fits)) sound.nodes sound.attributes
      (λ other index there. comes other index there (eq_by_cmp name_cmp other name) refl)
    where
      comes : (other : List ℕ) (index : Index) → fin.get (fin.insert s.indices name (record { kind = kind; pairs = fin.empty })) other ≡ Some index →
          (t : Bool) → eq_by_cmp name_cmp other name ≡ t → Comes s (made s (MkIndex name kind)) other index
      comes other index there false e =
          let new : Index = record { kind = kind; pairs = fin.empty } in
          stays s (made s (MkIndex name kind)) other index (sym (get_other names_total s.indices name other new e) ∙ there) (λ n v got. refl)
      comes other index there true e =
          let new : Index = record { kind = kind; pairs = fin.empty } in
          let is : new ≡ index = same_Some _ _ (sym (get_there names_total s.indices name other new e) ∙ there) in
          let K : Index → Type 0 = λ i. IsTrue (is_indexable i.kind) in
          let N : List ℕ → Type 0 = IsName in
          inr ((λ n. ap (λ (i : Index). fin.get i.pairs n) (sym is) ∙ fin.get-empty nat_cmp n), subst K is ix, subst N (sym (exact_names other name (tied _ e))) named)

  remove_sound : (name : List ℕ) → Few (made s (RmIndex name)) → IsSound (made s (RmIndex name))
  remove_sound name limits = finished s (made s (RmIndex name)) sound limits (omega (arith, fits)) sound.nodes sound.attributes
      (λ other index there. stays s (made s (RmIndex name)) other index (left names_total s.indices name other index there).1 (λ n v got. refl))

  made_sound : (op : Op) → IsOperation op → Found s op → IsSound (made s op)
  made_sound New v h = new_sound
  made_sound (Drop node) v h = drop_sound node (few s (Drop node) sound h)
  made_sound (Set node name value) v h = set_sound node name h.0 value v.0 v.1 (few s (Set node name value) sound h)
  made_sound (Unset node name) v h = unset_sound node name h.0 (few s (Unset node name) sound h)
  made_sound (MkIndex name kind) v h = index_sound name kind v h.2 (few s (MkIndex name kind) sound h)
  made_sound (RmIndex name) v h = remove_sound name (few s (RmIndex name) sound h)

-- an accepted operation preserves a volume's soundness
pub step_sound : (s t : State) (op : Op) (done : Done) → IsSound s → s.next + 1 < 2 ^ 64 → IsOperation op → step s op ≡ Ok (t, done) → IsSound t
step_sound s t op done sound fits is e =
    let a = accepted s op (ap is_ok e) in
    subst IsSound (sym a.is ∙ ap (reached s) e) (made_sound s sound fits op is a.found)

-- and so do several
steps_after : (s t : State) (old dones : List Done) (ops : List Op) → IsSound s → s.next + length ops < 2 ^ 64 → All IsOperation ops →
    fold advance (Ok (s, old)) ops ≡ Ok (t, dones) → IsSound t
steps_after s t old dones [] sound fits are e = subst IsSound (ap (λ r. reached s r) e) sound
steps_after s t old dones (op ∷ ops) sound fits are e =
    by (step s op) refl e (λ x now. steps_after x.0 t (old ++ x.1 ∷ []) dones ops now)
  where
    by : (r : Result (State × Done) Refusal) → step s op ≡ r → fold advance (result_map_both (λ answer. (answer.0, old ++ answer.1 ∷ [])) (λ f. f) r) ops ≡ Ok (t, dones) →
        ((x : State × Done) → IsSound x.0 → x.0.next + length ops < 2 ^ 64 → All IsOperation ops → fold advance (Ok (x.0, old ++ x.1 ∷ [])) ops ≡ Ok (t, dones) → IsSound t) → IsSound t
    by (Err f) g h rest = absurd (not_both f (t, dones) (sym (refused_stays f ops) ∙ h))
    by (Ok x) g h rest =
        let grew : x.0.next ≤ s.next + 1 = next_bound s x.0 op x.1 g in
        let long : s.next + length (op ∷ ops) < 2 ^ 64 = fits in
        rest x (step_sound s x.0 op x.1 sound (omega arith) (All-head IsOperation op ops are) g) (omega arith) (All-tail IsOperation op ops are) h

pub steps_sound : (s t : State) (dones : List Done) (ops : List Op) → IsSound s → s.next + length ops < 2 ^ 64 → All IsOperation ops → steps s ops ≡ Ok (t, dones) → IsSound t
steps_sound s t dones ops sound fits are e = steps_after s t [] dones ops sound fits are e

-- a volume before any operation
pub empty_sound : IsSound (record { next = 1; nodes = fin.empty; indices = fin.empty })
empty_sound = record {
  pairs = λ name index n v there got. let none : None ≡ Some index = sym (fin.get-empty name_cmp name) ∙ there in cc;
  kinds = λ name index there. let none : None ≡ Some index = sym (fin.get-empty name_cmp name) ∙ there in cc;
  names = λ name index there. let none : None ≡ Some index = sym (fin.get-empty name_cmp name) ∙ there in cc;
  attributes = λ n name v h. let none : None ≡ Some v = sym (ap (option_and_then (λ (a : Attributes). fin.get a name)) (fin.get-empty nat_cmp n)) ∙ h in cc;
  nodes = λ n h. let no : false ≡ true = sym (ap is_some (fin.get-empty nat_cmp n)) ∙ h in cc;
  few_attributes = λ n. let none : fin.len (attributes_of fin.empty n) ≡ 0 = ap (λ (o : Option Attributes). fin.len (unwrap_or o fin.empty)) (fin.get-empty nat_cmp n) ∙ fin.len-empty name_cmp Value in omega arith;
  few_indices = subst (λ n. n ≤ 32) (sym (fin.len-empty name_cmp Index)) (omega arith);
}
