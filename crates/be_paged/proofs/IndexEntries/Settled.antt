-- A Set of what is already set: its index already has the pair, so the entry is unchanged.
use Rattle.std.proofs.Common.{◌≡◌, ℕ, suc, ◌<◌, Bool, true, false, cond, List, ◌∷◌, ◌++◌, take, drop, length, get_or, IsTrue, IsOk, Some, None, Ok, ap, sym, subst, ◌∙◌, refl, is_ok, is_some}
use Rattle.std.specs.Option.{IfSome, option_map, option_and_then}
use Rattle.std.specs.Result.{IfOk}
use Rattle.std.specs.Cmp.{nat_cmp_total}
use Rattle.std.specs.declared.option.Option.{Option}
use Rattle.std.specs.declared.result.Result.{Result}
use Rattle.std.specs.declared.result.Result.TheVariants as results
use Rattle.std.specs.Ordering.{nat_cmp}
use Rattle.std.specs.FinMap as fin
use Rattle.std.specs.FinMap.{FinMap, nat_cmp-IsAntisymmetric}
use Rattle.be_value.specs.Key.{key}
use Rattle.be_value.specs.Value.{kind_of, is_indexable}
use Rattle.be_value.specs.declared.refusals.Refusal.{Refusal}
use Rattle.be_value.specs.declared.values.Kind.{Kind}
use Rattle.be_value.specs.declared.values.Value.{Value}
use Rattle.be_tree_reading.specs.Key.{payload_at}
use Rattle.be_tree_reading.specs.Pair.{Pair}
use Rattle.be_tree_reading.proofs.TreeFacts.{in_three}
use Rattle.be_volume.specs.Ahead.{reached}
use Rattle.be_volume.specs.Indices.{Indices, paired, paired_at, same_kind, with_pair}
use Rattle.be_volume.specs.Maps.{attributes_of, Attributes}
use Rattle.be_volume.specs.Reading.{attribute}
use Rattle.be_volume.specs.Volume.{State, step}
use Rattle.be_volume.specs.declared.maps.Index.{Index}
use Rattle.be_volume.specs.declared.ops.Done.{Done}
use Rattle.be_volume.specs.declared.ops.Done.TheVariants.{Unit as Nothing}
use Rattle.be_volume.specs.declared.ops.Op.{Op}
use Rattle.be_volume.specs.declared.ops.Op.TheVariants.{New, Drop, Set, Unset, MkIndex, RmIndex}
use Rattle.be_volume.proofs.MapLemmas.{exact_names, names_total}
use Rattle.be_volume.proofs.StepLemmas.{made}
use Rattle.be_paged_reading.specs.Catalog.{IsIndexOf}
use Rattle.be_paged.specs.Changes.{SetsSameValue}
use Rattle.be_paged_reading.specs.Entries.{with_root}
use Rattle.be_paged_reading.specs.Entry.{Entry}
use Rattle.be_paged_reading.proofs.CatalogPairs.Items.{get_here}
use Rattle.be_paged.proofs.IndexEntries.Repairs.{Leaves, kinds_agree, kinds_same, same_value}
use Rattle.be_paged.proofs.Applying.Stepping.{stepped_is}

same_made : (s t : State) (d e : Done) → ◌≡◌ {A = Result (State × Done) Refusal} (Ok (s, d)) (Ok (t, e)) → s ≡ t
same_made s t d e h = ap (reached s) h

same_index : (i j : Index) → Some i ≡ Some j → i ≡ j
same_index i j h = cc

clash : false ≡ true → ⊥
clash h = cc

-- the step of a Set of what is already set
sets_step : (s : State) (op : Op) → SetsSameValue s op → step s op ≡ Ok (s, Nothing)
sets_step s New h = absurd h
sets_step s (Drop node) h = absurd h
sets_step s (Set node name value) h = h
sets_step s (Unset node name) h = absurd h
sets_step s (MkIndex name kind) h = absurd h
sets_step s (RmIndex name) h = absurd h

pub sets_ok : (s : State) (op : Op) → SetsSameValue s op → IsOk (step s op)
sets_ok s op h = ap is_ok (sets_step s op h)

pub sets_same : (s reached : State) (op : Op) (done : Done) → SetsSameValue s op → step s op ≡ Ok (reached, done) → reached ≡ s
sets_same s reached op done h is = same_made reached s done Nothing (sym is ∙ sets_step s op h)

-- the volume's contents if a Set leaves it unchanged
pub record Settled (s : State) (node : ℕ) (name : List ℕ) (value : Value) : Type 0 where
  pub has : attribute s node name ≡ Some value
  pub indices : with_pair s.indices name node value ≡ s.indices

pub settled : (s : State) (node : ℕ) (name : List ℕ) (value : Value) → SetsSameValue s (Set node name value) → Settled s node name value
settled s node name value h =
    let op = Set node name value in
    let is = same_made (made s op) s _ Nothing (sym (stepped_is s op (ap is_ok h)) ∙ h) in
    record {
      has = subst (λ (t : State). attribute t node name ≡ Some value) is here;
      indices = ap (λ (t : State). t.indices) is;
    }
  where
    here : attribute (made s (Set node name value)) node name ≡ Some value
    here =
        let attributes = fin.insert (attributes_of s.nodes node) name value in
        ap (option_and_then (λ (a : Attributes). fin.get a name)) (get_here nat_cmp_total nat_cmp-IsAntisymmetric s.nodes node attributes)
        ∙ get_here names_total exact_names (attributes_of s.nodes node) name value

-- the index with this name is unchanged
pub paired_same : (indices : Indices) (name : List ℕ) (index : Index) (node : ℕ) (value : Value) → fin.get indices name ≡ Some index → with_pair indices name node value ≡ indices → paired index node value ≡ index
paired_same indices name index node value there same =
    same_index (paired index node value) index
    (sym (get_here names_total exact_names indices name (paired index node value))
    ∙ ap (λ (is : Indices). fin.get is name) (sym (ap (λ (i : Option Index). paired_at indices name i node value) there) ∙ same)
    ∙ there)

has_pair : (index : Index) (node : ℕ) (value : Value) → index.kind ≡ kind_of value → paired index node value ≡ index → fin.get index.pairs node ≡ Some value
has_pair index node value of_kind same =
    let chosen = λ (b : Bool). cond {A = Index} b (record { kind = index.kind; pairs = fin.insert index.pairs node value }) (record { kind = index.kind; pairs = fin.remove index.pairs node }) in
    let pairs : fin.insert index.pairs node value ≡ index.pairs = ap (λ (i : Index). i.pairs) (ap chosen (sym (kinds_agree index.kind (kind_of value) of_kind)) ∙ same) in
    sym (ap (λ (m : FinMap nat_cmp Value). fin.get m node) pairs) ∙ get_here nat_cmp_total nat_cmp-IsAntisymmetric index.pairs node value

-- what holds both if the index has the value's key and if the value is of another kind always holds
pub by_kinds : (items : List Pair) (index : Index) (kind : Kind) (node : ℕ) (v : Value) (old new : Option Value) (P Q : Type 0) → IsIndexOf items index → index.kind ≡ kind → IsTrue (is_indexable kind)
    → paired index node v ≡ index → old ≡ Some v → new ≡ Some v
    → ((u : Value) → kind_of u ≡ kind → IsTrue (is_indexable kind) → old ≡ Some u → new ≡ Some u → is_some (payload_at items (key u node)) ≡ true → P × Q)
    → ((u : Value) → (kind_of u ≡ kind → ⊥) → old ≡ Some u → new ≡ Some u → P) → P
by_kinds items index kind node v old new P Q keys is indexable same was now stays apart = by (same_kind index.kind (kind_of v)) refl
  where
    by : (b : Bool) → same_kind index.kind (kind_of v) ≡ b → P
    by true e =
        let k = kinds_same index.kind (kind_of v) e in
        (stays v (sym k ∙ is) indexable was now (ap is_some (keys.each node v (has_pair index node v k same)))).0
    by false e = apart v (λ k. clash (sym e ∙ kinds_agree index.kind (kind_of v) (is ∙ sym k))) was now

-- a value of another kind has no key
pub no_key : (kind : Kind) (node : ℕ) (value : Option Value) (seen : Option (List ℕ)) → IfSome seen (Leaves kind node value) → (v : Value) → value ≡ Some v → (kind_of v ≡ kind → ⊥) → seen ≡ None
no_key kind node value None some v is ne = refl
no_key kind node value (Some k) some v is ne = absurd (ne (ap kind_of (same_value v some.0 (sym is ∙ some.1)) ∙ some.2))

pub key_clash : {A B : Type 0} (f : A → B) (r : Option A) (x : A) → r ≡ Some x → option_map f r ≡ None → ⊥
key_clash f r x is none = no (sym (ap (option_map f) is) ∙ none)
  where
    no : Some (f x) ≡ None → ⊥
    no e = cc

-- an entry that gets the root it already has
pub root_kept : (es : List Entry) (i : ℕ) (d : Entry) (root : ℕ) → i < length es → root ≡ (get_or es i d).root → with_root es i (get_or es i d) root ≡ es
root_kept es i d root lt e =
    let entry = get_or es i d in
    ap (λ (r : ℕ). take i es ++ record { name = entry.name; kind = entry.kind; root = r } ∷ drop (suc i) es) e ∙ sym (in_three es i d lt)

-- what holds for all values holds for the result
pub if_ok : {A E : Type 0} (r : Result A E) (P : A → Type 0) → ((x : A) → P x) → IfOk r P
if_ok (results.Ok x) P h = h x
if_ok (results.Err e) P h = tt
