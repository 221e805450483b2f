-- A node's pair in an index: the old value's pair is removed, and the new value's is inserted.
use Rattle.std.proofs.Common.{◌≡◌, ℕ, ◌<◌, ◌^◌, Bool, true, false, cond, List, [], IsTrue, Some, None, ap, sym, subst, ◌∙◌, refl, is_some}
use Rattle.std.specs.Option.{IfSome, IfNone, option_map}
use Rattle.std.specs.declared.option.Option.{Option}
use Rattle.std.specs.FinMap as fin
use Rattle.be_value.specs.Key.{key, IsValue}
use Rattle.be_value.specs.Value.{kind_of, is_indexable}
use Rattle.be_value.specs.declared.values.Kind.{Kind}
use Rattle.be_value.specs.declared.values.Kind.TheVariants as kinds
use Rattle.be_value.specs.declared.values.Value.{Value}
use Rattle.be_value.proofs.KeyPairs.{one_pair_of}
use Rattle.be_tree_reading.specs.Pair.{Pair}
use Rattle.be_tree_reading.specs.Key.{payload_at, put}
use Rattle.be_volume.specs.Indices.{paired, unpaired, same_kind}
use Rattle.be_volume.specs.Sound.{IsSound}
use Rattle.be_volume.specs.Reading.{attribute}
use Rattle.be_volume.specs.Volume.{State}
use Rattle.be_volume.specs.declared.maps.Index.{Index}
use Rattle.be_paged_reading.specs.Catalog.{IsPairOf, IsIndexOf}
use Rattle.be_paged.specs.Changes.{IsReady, repaired, key_taken, key_put}
use Rattle.be_paged_reading.proofs.CatalogPairs.Finding.{found_pair}
use Rattle.be_paged_reading.proofs.IndexEntries.IndexKeys.{index_without, index_bare, index_with, index_still}

pub kinds_agree : (a b : Kind) → a ≡ b → same_kind a b ≡ true
kinds_agree a b e = ap (same_kind a) (sym e) ∙ itself a
  where
    itself : (k : Kind) → same_kind k k ≡ true
    itself kinds.Cstr = refl
    itself kinds.Long = refl
    itself kinds.Llng = refl
    itself kinds.Mims = refl
    itself kinds.Rawt = refl
    itself kinds.Ulng = refl
    itself kinds.Ullg = refl

pub kinds_same : (a b : Kind) → same_kind a b ≡ true → a ≡ b
kinds_same kinds.Cstr kinds.Cstr h = refl
kinds_same kinds.Long kinds.Long h = refl
kinds_same kinds.Llng kinds.Llng h = refl
kinds_same kinds.Mims kinds.Mims h = refl
kinds_same kinds.Rawt kinds.Rawt h = refl
kinds_same kinds.Ulng kinds.Ulng h = refl
kinds_same kinds.Ullg kinds.Ullg h = refl
kinds_same a b h = cc

pub same_value : (a b : Value) → Some a ≡ Some b → a ≡ b
same_value a b e = cc

-- there is a value, it is of this kind, and this is its key
abbrev pub Leaves : Kind → ℕ → Option Value → List ℕ → Type 0
Leaves kind node value k = (v : Value) × (value ≡ Some v) × (kind_of v ≡ kind) × IsValue v × (k ≡ key v node)

abbrev pub HasNone : Kind → Option Value → Type 0
HasNone kind value = (v : Value) → value ≡ Some v → kind_of v ≡ kind → IsTrue (is_indexable kind) → ⊥

module _ (index : Index) (kind : Kind) (node : ℕ) (old : Option Value) (fits : node < 2 ^ 64) (ready : IsReady index kind node old) where
  bare : HasNone kind old → fin.get index.pairs node ≡ None
  bare none = by (fin.get index.pairs node) refl
    where
      by : (found : Option Value) → fin.get index.pairs node ≡ found → found ≡ None
      by None e = refl
      by (Some w) e = absurd (none w (ready.own w e) (ready.valid node w e).1 ready.indexable)

  pub taken : (items : List Pair) (leaves : Option (List ℕ)) → IfSome leaves (Leaves kind node old) → IfNone leaves (HasNone kind old) → IsIndexOf items index → IsIndexOf (key_taken leaves items) (unpaired index node)
  taken items None some none h = index_bare items index node (bare none) h
  taken items (Some k) some none h =
      index_without items index node some.0 k fits ready.fits (λ w e. same_value w some.0 (sym (ready.own w e) ∙ some.1)) some.4 h

  -- the new value's pair is inserted
  enters_not : (v : Value) → (kind_of v ≡ kind → ⊥) → unpaired index node ≡ paired index node v
  enters_not v ne = by (same_kind index.kind (kind_of v)) refl
    where
      by : (b : Bool) → same_kind index.kind (kind_of v) ≡ b → unpaired index node ≡ cond b (record { kind = index.kind; pairs = fin.insert index.pairs node v }) (record { kind = index.kind; pairs = fin.remove index.pairs node })
      by true e = absurd (ne (sym (kinds_same index.kind (kind_of v) e) ∙ ready.kind_is))
      by false e = refl

  enters_so : (v : Value) → kind_of v ≡ kind → record { kind = index.kind; pairs = fin.insert index.pairs node v } ≡ paired index node v
  enters_so v e = ap (λ b. cond b (record { kind = index.kind; pairs = fin.insert index.pairs node v }) (record { kind = index.kind; pairs = fin.remove index.pairs node })) (sym (kinds_agree index.kind (kind_of v) (ready.kind_is ∙ sym e)))

  pub entered : (items : List Pair) (enters : Option (List ℕ)) (new : Option Value) → IfSome enters (Leaves kind node new) → IfNone enters (HasNone kind new) → IsIndexOf items (unpaired index node)
      → IsIndexOf (key_put enters items) (repaired index node new)
  entered items None None some none h = h
  entered items None (Some v) some none h = subst (IsIndexOf items) (enters_not v (λ e. none v refl e ready.indexable)) h
  entered items (Some k) None some none h = absurd (clash some.0 some.1)
    where
      clash : (v : Value) → None ≡ Some v → ⊥
      clash v e = cc
  entered items (Some k) (Some v) some none h =
      let same = same_value v some.0 some.1 in
      subst (IsIndexOf (put (record { key = k; payload = [] }) items)) (enters_so v (ap kind_of same ∙ some.2))
      (index_with items index node v (record { key = k; payload = [] }) fits ready.fits (some.4 ∙ ap (λ (w : Value). key w node) (sym same)) refl h)

  -- the new value's pair is already there
  pub lies : (items : List Pair) (k : List ℕ) (new : Option Value) → Leaves kind node new k → IsTrue (is_indexable kind) → is_some (payload_at items k) ≡ true → IsIndexOf items index → IsIndexOf items (repaired index node new)
  lies items k None some indexable found h = absurd (clash some.0 some.1)
    where
      clash : (v : Value) → None ≡ Some v → ⊥
      clash v e = cc
  lies items k (Some v) some indexable found h =
      let same = same_value v some.0 some.1 in
      let pair = found_pair (IsPairOf index) k items h.only found in
      let p = pair.1 in
      let w = p.value in
      let small = ready.fits p.node w p.there in
      let valid = ready.valid p.node w p.there in
      let one = one_pair_of w some.0 p.node node valid.0 some.3 small fits (subst (λ (x : Kind). IsTrue (is_indexable x)) (sym valid.1) indexable) (valid.1 ∙ sym some.2)
      (sym p.is ∙ pair.2 ∙ some.4) in
      subst (IsIndexOf items) (enters_so v (ap kind_of same ∙ some.2))
      (index_still items index node v (ap (fin.get index.pairs) (sym one.1) ∙ p.there ∙ ap Some (one.0 ∙ sym same)) h)

-- an index of a sound volume is ready for a change to its node's pair
pub ready_index : (s : State) (name : List ℕ) (index : Index) (kind : Kind) (node : ℕ) (old : Option Value) → IsSound s → fin.get s.indices name ≡ Some index → index.kind ≡ kind → old ≡ attribute s node name → IsReady index kind node old
ready_index s name index kind node old sound at is e = record {
  kind_is = is;
  indexable = subst (λ (k : Kind). IsTrue (is_indexable k)) is (sound.kinds name index at);
  fits = λ n v p. (sound.pairs name index n v at p).node_fits;
  valid = λ n v p. ((sound.pairs name index n v at p).is_value, (sound.pairs name index n v at p).kind_is ∙ is);
  own = λ v p. e ∙ (sound.pairs name index node v at p).attribute_is;
}

-- what holds for a result also holds for a function of it
pub seen_some : {A B : Type 0} (f : A → B) (P : B → Type 0) (r : Option A) → IfSome r (λ x. P (f x)) → IfSome (option_map f r) P
seen_some f P None h = h
seen_some f P (Some x) h = h

pub seen_none : {A B : Type 0} (f : A → B) (P : Type 0) (r : Option A) → IfNone r P → IfNone (option_map f r) P
seen_none f P None h = h
seen_none f P (Some x) h = h

pub seen_at : {B : Type 0} (P : B → Type 0) (r : Option B) (x : B) → IfSome r P → r ≡ Some x → P x
seen_at {B} P None x h e = absurd (clash e)
  where
    clash : None ≡ Some x → ⊥
    clash e = cc
seen_at {B} P (Some y) x h e = subst P (same y x e) h
  where
    same : (a b : B) → Some a ≡ Some b → a ≡ b
    same a b e = cc

-- a value of the kind has a key
pub key_there : (kind : Kind) (node : ℕ) (value : Option Value) (seen : Option (List ℕ)) → IfSome seen (Leaves kind node value) → IfNone seen (HasNone kind value)
    → (v : Value) → value ≡ Some v → kind_of v ≡ kind → IsTrue (is_indexable kind) → seen ≡ Some (key v node)
key_there kind node value None some none v is of_kind indexable = absurd (none v is of_kind indexable)
key_there kind node value (Some k) some none v is of_kind indexable = ap Some (some.4 ∙ ap (λ (w : Value). key w node) (same_value some.0 v (sym some.1 ∙ is)))
