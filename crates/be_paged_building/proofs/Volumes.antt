-- The volume that was given, with one more index, node or attribute.
use Rattle.std.proofs.Common.{◌≡◌, ℕ, ◌+◌, ◌<◌, ◌≤◌, ◌^◌, Bool, true, false, cond, not, List, Some, None, Ok, Err, IsTrue, Result, is_some, nat_eq, unwrap_or, ap, sym, subst, ◌∙◌, refl, arith, inl, inr}
use Rattle.std.specs.Prelude.{◌&&◌, nat_le, if◌then◌else◌}
use Rattle.std.specs.Option.{option_and_then}
use Rattle.std.specs.Ordering.{nat_cmp}
use Rattle.std.specs.Cmp.{nat_cmp_total, ranked, tied_itself}
use Rattle.std.specs.declared.cmp.Ordering.{Ordering}
use Rattle.std.specs.declared.cmp.Ordering.TheVariants.{Less, Equal, Greater}
use Rattle.std.specs.declared.option.Option.{Option}
use Rattle.std.specs.FinMap as fin
use Rattle.std.specs.FinMap.{nat_cmp-IsAntisymmetric}
use Rattle.std.proofs.lemmas.Bool.{cases_eq}
use Rattle.std.proofs.lemmas.Bool.Decides.{nat_tests}
use Rattle.be_value.specs.Key.{IsValue}
use Rattle.be_value.specs.Value.{code_of, is_indexable, kind_of}
use Rattle.be_value.specs.declared.refusals.Refusal.{Refusal}
use Rattle.be_value.specs.declared.refusals.Refusal.TheVariants.{IndexExists, NoNode, NotIndexable, TooManyAttrs, TooManyIndices}
use Rattle.be_value.specs.declared.values.Kind.{Kind}
use Rattle.be_value.specs.declared.values.Value.{Value}
use Rattle.be_volume.specs.Indices.{paired_at, same_kind, with_pair}
use Rattle.be_volume.specs.Maps.{Attributes, Nodes, attributes_of, name_cmp, with_attribute}
use Rattle.be_volume.specs.Reading.{attribute}
use Rattle.be_volume.specs.Sound.{IsName, IsSound}
use Rattle.be_volume.specs.Volume.{State}
use Rattle.be_volume.specs.declared.maps.Index.{Index}
use Rattle.be_volume.specs.declared.ops.Done.{Done}
use Rattle.be_volume.specs.declared.ops.Done.TheVariants.{Node, Unit as Nothing}
use Rattle.be_volume.specs.declared.ops.Op.TheVariants.{MkIndex, New, Set}
use Rattle.be_volume.proofs.MapLemmas.{exact_names, names_total}
use Rattle.be_volume.proofs.Soundness.{step_sound}
use Rattle.be_paged_reading.proofs.CatalogPairs.Items.{get_here, get_other}
use Rattle.be_paged_reading.proofs.CatalogPairs.Segments.{value_there}
use Rattle.be_paged_building.specs.Given.{with_held, with_index, with_next, with_node}

abbrev Reached : Type 0
Reached = Result (State × Done) Refusal

-- a node that comes later
pub next_sound : (volume : State) (next : ℕ) → IsSound volume → volume.next ≤ next → IsSound (with_next volume next)
next_sound volume next sound le = record {
  pairs = λ name index node value a b.
      let p = sound.pairs name index node value a b in
      record { attribute_is = p.attribute_is; kind_is = p.kind_is; is_value = p.is_value; node_fits = p.node_fits; node_below = omega (arith, p.node_below, le) };
  kinds = sound.kinds;
  names = sound.names;
  attributes = sound.attributes;
  nodes = λ node there. omega (arith, sound.nodes node there, le);
  few_attributes = sound.few_attributes;
  few_indices = sound.few_indices;
}

pub node_sound : (volume : State) (node : ℕ) → IsSound volume → volume.next ≤ node → node < 2 ^ 63 → IsSound (with_node volume node)
node_sound volume node sound le fits = step_sound (with_next volume node) (with_node volume node) New (Node node) (next_sound volume node sound le) (omega (arith, fits)) tt refl

made_index : (a b c : Bool) (x : Reached) → a ≡ false → b ≡ false → c ≡ true → (if a then Err IndexExists else if b then Err TooManyIndices else if not c then Err NotIndexable else x) ≡ x
made_index false false true x p q r = refl
made_index false false false x p q r = cc
made_index false true c x p q r = cc
made_index true b c x p q r = cc

pub index_sound : (volume : State) (name : List ℕ) (kind : Kind) → IsSound volume → volume.next ≤ 2 ^ 63 → IsName name → IsTrue (is_indexable kind) → fin.contains_key volume.indices name ≡ false → fin.len volume.indices < 32
    → IsSound (with_index volume name kind)
index_sound volume name kind sound fits named indexable absent few =
    let more : nat_le 32 (fin.len volume.indices) ≡ false = grind (arith, nat_tests) in
    step_sound volume (with_index volume name kind) (MkIndex name kind) Nothing sound (omega (arith, fits)) named
    (made_index (fin.contains_key volume.indices name) (nat_le 32 (fin.len volume.indices)) (is_indexable kind) (Ok (with_index volume name kind, Nothing)) absent more indexable)

set_attribute : (a b c : Bool) (x : Reached) → a ≡ true → c ≡ false → (if not a then Err NoNode else if not b && c then Err TooManyAttrs else x) ≡ x
set_attribute true true false x p q = refl
set_attribute true false false x p q = refl
set_attribute true b true x p q = cc
set_attribute false b c x p q = cc

-- a node's attributes, and whether it has one
pub attributes_are : (nodes : Nodes) (node : ℕ) (attributes : Attributes) → attributes_of (fin.insert nodes node attributes) node ≡ attributes
attributes_are nodes node attributes = ap (λ (a : Option Attributes). unwrap_or a fin.empty) (get_here nat_cmp_total nat_cmp-IsAntisymmetric nodes node attributes)

pub none_of : {A : Type 0} (o : Option A) → is_some o ≡ false → o ≡ None
none_of None e = refl
none_of (Some a) e = cc

pub not_there : (b : Bool) → (b ≡ true → ⊥) → b ≡ false
not_there true never = absurd (never refl)
not_there false never = refl

-- a name that is above all others isn't among them
pub above_absent : {X : Type 0} (m : fin.FinMap name_cmp X) (name : List ℕ) → ((other : List ℕ) → fin.contains_key m other ≡ true → name_cmp other name ≡ Less) → fin.contains_key m name ≡ false
above_absent m name above = not_there (fin.contains_key m name) (λ there. never (sym (above name there) ∙ tied_itself names_total name))
  where
    never : Less ≡ Equal → ⊥
    never e = cc

pub no_value : (nodes : Nodes) (node : ℕ) (name : List ℕ) → fin.contains_key (attributes_of nodes node) name ≡ false → option_and_then (λ (attributes : Attributes). fin.get attributes name) (fin.get nodes node) ≡ None
no_value nodes node name absent = sym (value_there nodes node name) ∙ none_of (fin.get (attributes_of nodes node) name) absent

-- an index has no pair of a node without an attribute of its name
pub no_pair : (volume : State) (name : List ℕ) (index : Index) (node : ℕ) → IsSound volume → attribute volume node name ≡ None → fin.get volume.indices name ≡ Some index → fin.get index.pairs node ≡ None
no_pair volume name index node sound none there = by (fin.get index.pairs node) refl
  where
    clash : (v : Value) → None ≡ Some v → ⊥
    clash v e = cc

    by : (o : Option Value) → fin.get index.pairs node ≡ o → o ≡ None
    by None e = refl
    by (Some v) e = absurd (clash v (sym none ∙ (sound.pairs name index node v there e).attribute_is))

module _ (volume : State) (node : ℕ) (name : List ℕ) (value : Value) (there : fin.contains_key volume.nodes node ≡ true) (few : fin.len (attributes_of volume.nodes node) < 64)
    (absent : fin.contains_key (attributes_of volume.nodes node) name ≡ false) where
  abbrev nodes : Nodes
  nodes = with_attribute volume.nodes node name value

  pub attributes_more : attributes_of nodes node ≡ fin.insert (attributes_of volume.nodes node) name value
  attributes_more = attributes_are volume.nodes node (fin.insert (attributes_of volume.nodes node) name value)

  pub count_more : fin.len (attributes_of nodes node) ≡ fin.len (attributes_of volume.nodes node) + 1
  count_more =
      ap fin.len attributes_more ∙ fin.len-insert names_total (attributes_of volume.nodes node) name value
      ∙ ap (λ b. cond b (fin.len (attributes_of volume.nodes node)) (fin.len (attributes_of volume.nodes node) + 1)) absent

  module _ (sound : IsSound volume) (fits : volume.next ≤ 2 ^ 63) (named : IsName name) (valid : IsValue value) where
    set_sound : IsSound (with_held volume node name value true)
    set_sound =
        let most : nat_le 64 (fin.len (attributes_of volume.nodes node)) ≡ false = grind (arith, nat_tests) in
        step_sound volume (with_held volume node name value true) (Set node name value) Nothing sound (omega (arith, fits)) (named, valid)
        (set_attribute (fin.contains_key volume.nodes node) (fin.contains_key (attributes_of volume.nodes node) name) (nat_le 64 (fin.len (attributes_of volume.nodes node))) (Ok (with_held volume node name value true, Nothing)) there most)

    -- the attributes that were there stay
    stays : (n : ℕ) (m : List ℕ) (v : Value) → attribute volume n m ≡ Some v → attribute (with_held volume node name value false) n m ≡ Some v
    stays n m v e = elim (cases_eq n node) [
      | inl s ↦ subst (λ q. attribute (with_held volume node name value false) q m ≡ Some v) (sym s) (here (subst (λ q. attribute volume q m ≡ Some v) s e))
      | inr ne ↦ ap (λ (a : Option Attributes). option_and_then (λ (attributes : Attributes). fin.get attributes m) a) (get_other nat_cmp_total nat_cmp-IsAntisymmetric volume.nodes node (fin.insert (attributes_of volume.nodes node) name value) n ne) ∙ e
    ]
      where
        clash : None ≡ Some v → ⊥
        clash f = cc

        other : attribute volume node m ≡ Some v → m ≡ name → ⊥
        other f s = clash (sym (no_value volume.nodes node name absent) ∙ ap (attribute volume node) (sym s) ∙ f)

        here : attribute volume node m ≡ Some v → attribute (with_held volume node name value false) node m ≡ Some v
        here f =
            sym (value_there nodes node m) ∙ ap (λ (a : Attributes). fin.get a m) attributes_more
            ∙ get_other names_total exact_names (attributes_of volume.nodes node) name value m (other f)
            ∙ value_there volume.nodes node m ∙ f

    pub held_sound : (held : Bool) → IsSound (with_held volume node name value held)
    held_sound true = set_sound
    held_sound false = record {
      pairs = λ m index n v a b.
          let p = sound.pairs m index n v a b in
          record { attribute_is = stays n m v p.attribute_is; kind_is = p.kind_is; is_value = p.is_value; node_fits = p.node_fits; node_below = p.node_below };
      kinds = sound.kinds;
      names = sound.names;
      attributes = set_sound.attributes;
      nodes = set_sound.nodes;
      few_attributes = set_sound.few_attributes;
      few_indices = sound.few_indices;
    }

-- an index of the attribute's kind gains a pair
pub pair_more : (volume : State) (node : ℕ) (name : List ℕ) (value : Value) (index : Index) → fin.get volume.indices name ≡ Some index → index.kind ≡ kind_of value
    → with_pair volume.indices name node value ≡ fin.insert volume.indices name (record { kind = index.kind; pairs = fin.insert index.pairs node value })
pair_more volume node name value index there kind =
    let same : same_kind index.kind (kind_of value) ≡ true = ap (λ k. nat_eq (code_of k) (code_of (kind_of value))) kind ∙ reflexive (code_of (kind_of value)) in
    ap (λ (o : Option Index). paired_at volume.indices name o node value) there
    ∙ ap (λ b. fin.insert volume.indices name (if b then record { kind = index.kind; pairs = fin.insert index.pairs node value } else record { kind = index.kind; pairs = fin.remove index.pairs node })) same
  where
    reflexive : (n : ℕ) → nat_eq n n ≡ true
    reflexive n = grind (arith, nat_tests)

pub number_less : (m n : ℕ) → m < n → nat_cmp m n ≡ Less
number_less m n lt = by (nat_cmp m n) refl
  where
    by : (o : Ordering) → nat_cmp m n ≡ o → o ≡ Less
    by Less e = refl
    by Equal e = let same : m ≡ n = ranked m n Equal (sym e) in absurd (omega (arith, same, lt))
    by Greater e = let more : n < m = ranked m n Greater (sym e) in absurd (omega (arith, more, lt))
