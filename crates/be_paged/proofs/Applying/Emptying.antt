-- A node's first attribute, and the volume without it.
use Rattle.std.proofs.Common.{◌≡◌, ℕ, ◌+◌, ◌<◌, ◌≤◌, ◌^◌, true, cond, List, [], ◌∷◌, length, Some, None, Ok, ap, sym, subst, ◌∙◌, refl, arith, is_some, IsOk}
use Rattle.std.specs.List.{slice_get}
use Rattle.std.specs.Option.{option_map}
use Rattle.std.specs.Ordering.{is_eq}
use Rattle.std.specs.Cmp.{tied_itself}
use Rattle.std.specs.declared.result.Result.{Result}
use Rattle.std.specs.declared.result.Result.TheVariants.{Err}
use Rattle.std.specs.FinMap as fin
use Rattle.std.specs.FinMap.Entries.{find}
use Rattle.be_value.specs.declared.refusals.Refusal.{Refusal}
use Rattle.be_value.specs.declared.values.Value.{Value}
use Rattle.be_volume.specs.Maps.{name_cmp, Nodes, attributes_of}
use Rattle.be_volume.specs.Sound.{IsName}
use Rattle.be_volume.specs.Volume.{State, step}
use Rattle.be_volume.specs.declared.ops.Done.{Done}
use Rattle.be_volume.specs.declared.ops.Op.TheVariants.{Unset}
use Rattle.be_volume.proofs.MapLemmas.{names_total}
use Rattle.be_volume.proofs.StepLemmas.{made}
use Rattle.be_paged.specs.Changes.{Leaves, Steps, IsThinned}
use Rattle.be_paged_reading.specs.Page.{Contents}
use Rattle.be_paged_reading.specs.Reading.{AreValid}
use Rattle.be_paged_reading.specs.Version.{Encodes}
use Rattle.be_paged.proofs.Applying.Dropping.{leaves_more, less_to_count}
use Rattle.be_paged_reading.proofs.CatalogPairs.Segments.{value_there}
use Rattle.be_paged.proofs.Applying.Stepping.{stepped_found}

abbrev name_of : List ℕ × Value → List ℕ
name_of e = e.0

-- the first entry is found by its name
first_found : (es : List (List ℕ × Value)) (name : List ℕ) → Some name ≡ option_map name_of (slice_get es 0) → (v : Value) × (find name_cmp name es ≡ Some v)
first_found [] name e = absurd (clash e)
  where
    clash : Some name ≡ None → ⊥
    clash e = cc
first_found (x ∷ es) name e =
    let same : name ≡ x.0 = inner name x.0 e in
    (x.1, ap (λ n. cond (is_eq (name_cmp n x.0)) (Some x.1) (find name_cmp n es)) same ∙ ap (λ o. cond (is_eq o) (Some x.1) (find name_cmp x.0 es)) (tied_itself names_total x.0))
  where
    inner : (a b : List ℕ) → Some a ≡ Some b → a ≡ b
    inner a b e = cc

pub first_has : (nodes : Nodes) (node : ℕ) (name : List ℕ) → AreValid nodes → Some name ≡ option_map name_of (slice_get (fin.entries (attributes_of nodes node)) 0) → IsName name × (fin.contains_key (attributes_of nodes node) name ≡ true)
first_has nodes node name valid e =
    let found = first_found (fin.entries (attributes_of nodes node)) name e in
    let at = fin.get-entries (attributes_of nodes node) name ∙ found.1 in
    ((valid node name found.0 (sym (value_there nodes node name) ∙ at)).0, ap is_some at)

none_first : (es : List (List ℕ × Value)) → None ≡ option_map name_of (slice_get es 0) → length es ≡ 0
none_first [] e = refl
none_first (x ∷ es) e = absurd (clash e)
  where
    clash : None ≡ Some x.0 → ⊥
    clash e = cc

pub bare_of : (nodes : Nodes) (node : ℕ) → None ≡ option_map name_of (slice_get (fin.entries (attributes_of nodes node)) 0) → fin.len (attributes_of nodes node) ≡ 0
bare_of nodes node e = fin.len-entries (attributes_of nodes node) ∙ none_first (fin.entries (attributes_of nodes node)) e

ok_of : {A : Type 0} (r : Result A Refusal) (x : A) → r ≡ Ok x → IsOk r
ok_of (Ok y) x e = refl
ok_of (Err f) x e = cc

same_made : (a b : State × Done) → ◌≡◌ {A = Result (State × Done) Refusal} (Ok a) (Ok b) → a.0 ≡ b.0
same_made a b e = cc

-- one attribute fewer
module _ (volume left : State) (node : ℕ) (name : List ℕ) (h : Leaves volume left node) (has : fin.contains_key (attributes_of left.nodes node) name ≡ true) where
  pub unset_ok : IsOk (step left (Unset node name))
  unset_ok = ok_of (step left (Unset node name)) _ (stepped_found left (Unset node name) (h.there, has))

  pub thinner : (words : ℕ → ℕ → ℕ) (c : Contents) (done : Done) (gone : ℕ) → IsName name → left.next + 1 < 2 ^ 64 → 0 < fin.len (attributes_of left.nodes node) → fin.len (attributes_of left.nodes node) + gone ≤ 64
      → Steps words c left (Unset node name) done → IsThinned words c volume node (gone + 1)
  thinner words c done gone named fits some count steps =
      let same = same_made (steps.made, done) (made left (Unset node name), _) (sym steps.stepped ∙ stepped_found left (Unset node name) (h.there, has)) in
      record {
        left = made left (Unset node name);
        encodes = subst (Encodes words c) same steps.encodes;
        leaves = leaves_more volume left node h name has named fits;
        counted = omega (arith, count, some, less_to_count volume left node h name has);
      }

pub some_there : (nodes : Nodes) (node : ℕ) (name : List ℕ) → Some name ≡ option_map name_of (slice_get (fin.entries (attributes_of nodes node)) 0) → 0 < fin.len (attributes_of nodes node)
some_there nodes node name e = omega (arith, fin.len-entries (attributes_of nodes node), positive (fin.entries (attributes_of nodes node)) e)
  where
    positive : (es : List (List ℕ × Value)) → Some name ≡ option_map name_of (slice_get es 0) → 0 < length es
    positive [] e = absurd (clash e)
      where
        clash : Some name ≡ None → ⊥
        clash e = cc
    positive (x ∷ es) e = omega arith
