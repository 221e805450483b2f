-- A node loses its attributes one by one, and is then removed.
use Rattle.std.proofs.Common.{◌≡◌, ℕ, ◌+◌, ◌-◌, ◌<◌, ◌^◌, Bool, true, false, cond, List, [], ◌∷◌, map, Some, None, ap, sym, subst, ◌∙◌, refl, is_some, inl, inr, unwrap_or}
use Rattle.std.specs.Option.{option_map}
use Rattle.std.specs.Ordering.{nat_cmp, eq_by_cmp}
use Rattle.std.specs.Cmp.{nat_cmp_total}
use Rattle.std.specs.declared.option.Option.{Option}
use Rattle.std.specs.FinMap as fin
use Rattle.std.specs.FinMap.{FinMap, nat_cmp-IsAntisymmetric, same_map, get-from_entries, get-entries, get-empty, len-remove, empty_of_len}
use Rattle.std.specs.FinMap.Entries.{find}
use Rattle.std.proofs.lemmas.Bool.{cases_eq}
use Rattle.be_value.specs.declared.values.Value.{Value}
use Rattle.be_volume.specs.Indices.{Indices, unpaired, unpaired_at, without_pair, without_node}
use Rattle.be_volume.specs.Maps.{name_cmp, Nodes, Attributes, attributes_of}
use Rattle.be_volume.specs.Sound.{IsSound, IsName}
use Rattle.be_volume.specs.Volume.{State}
use Rattle.be_volume.specs.declared.maps.Index.{Index}
use Rattle.be_volume.specs.declared.ops.Op.TheVariants.{Unset}
use Rattle.be_volume.proofs.MapLemmas.{names_total, exact_names}
use Rattle.be_volume.proofs.StepLemmas.{made}
use Rattle.be_volume.proofs.Soundness.{step_sound}
use Rattle.be_paged_reading.specs.Catalog.{value_at}
use Rattle.be_paged.specs.Changes.{Leaves}
use Rattle.be_paged_reading.proofs.CatalogPairs.Items.{get_here, get_other, gone_here, gone_other, keys_decided}
use Rattle.be_paged_reading.proofs.CatalogPairs.Segments.{value_there}
use Rattle.be_paged.proofs.Applying.Stepping.{stepped_found}

pub leaves_first : (volume : State) (node : ℕ) → IsSound volume → fin.contains_key volume.nodes node ≡ true → Leaves volume volume node
leaves_first volume node sound there = record { sound = sound; there = there; next = refl; nodes = refl; indices = refl }

find_mapped : (node : ℕ) (q : List ℕ) (es : List (List ℕ × Index)) → find name_cmp q (map (λ e. (e.0, unpaired e.1 node)) es) ≡ option_map (λ (i : Index). unpaired i node) (find name_cmp q es)
find_mapped node q [] = refl
find_mapped node q (e ∷ es) = ap (cond (eq_by_cmp name_cmp q e.0) (Some (unpaired e.1 node))) (find_mapped node q es) ∙ by (eq_by_cmp name_cmp q e.0)
  where
    by : (b : Bool) → cond b (Some (unpaired e.1 node)) (option_map (λ (i : Index). unpaired i node) (find name_cmp q es)) ≡ option_map (λ (i : Index). unpaired i node) (cond b (Some e.1) (find name_cmp q es))
    by true = refl
    by false = refl

get_left : (indices : Indices) (node : ℕ) (q : List ℕ) → fin.get (without_node indices node) q ≡ option_map (λ (i : Index). unpaired i node) (fin.get indices q)
get_left indices node q = get-from_entries names_total (map (λ e. (e.0, unpaired e.1 node)) (fin.entries indices)) q ∙ find_mapped node q (fin.entries indices) ∙ ap (option_map (λ (i : Index). unpaired i node)) (sym (get-entries indices q))

same_pairs : (m : FinMap nat_cmp Value) (node : ℕ) → fin.remove (fin.remove m node) node ≡ fin.remove m node
same_pairs m node = same_map nat_cmp_total nat_cmp-IsAntisymmetric _ _ (λ q. elim (cases_eq q node) [
  | inl e ↦ subst (λ n. fin.get (fin.remove (fin.remove m node) node) n ≡ fin.get (fin.remove m node) n) (sym e) (gone_here nat_cmp_total nat_cmp-IsAntisymmetric (fin.remove m node) node ∙ sym (gone_here nat_cmp_total nat_cmp-IsAntisymmetric m node))
  | inr ne ↦ gone_other nat_cmp_total nat_cmp-IsAntisymmetric (fin.remove m node) node q ne
])

twice : (index : Index) (node : ℕ) → unpaired (unpaired index node) node ≡ unpaired index node
twice index node = ap (λ (m : FinMap nat_cmp Value). record { kind = index.kind; pairs = m }) (same_pairs index.pairs node)

-- an index that has lost the node's pair can't lose it again
indices_left : (indices : Indices) (name : List ℕ) (node : ℕ) → without_node (without_pair indices name node) node ≡ without_node indices node
indices_left indices name node = by (fin.get indices name) refl
  where
    by : (found : Option Index) → fin.get indices name ≡ found → without_node (unpaired_at indices name found node) node ≡ without_node indices node
    by None e = refl
    by (Some index) e = same_map names_total exact_names _ _ (λ q. get_left (fin.insert indices name (unpaired index node)) node q ∙ (elim (keys_decided q name) [
      | inl s ↦ subst (λ n. option_map (λ (i : Index). unpaired i node) (fin.get (fin.insert indices name (unpaired index node)) n) ≡ option_map (λ (i : Index). unpaired i node) (fin.get indices n)) (sym s)
          (ap (option_map (λ (i : Index). unpaired i node)) (get_here names_total exact_names indices name (unpaired index node)) ∙ ap Some (twice index node) ∙ sym (ap (option_map (λ (i : Index). unpaired i node)) e))
      | inr ne ↦ ap (option_map (λ (i : Index). unpaired i node)) (get_other names_total exact_names indices name (unpaired index node) q ne)
    ]) ∙ sym (get_left indices node q))

nodes_left : (nodes : Nodes) (node : ℕ) (a : Attributes) → fin.remove (fin.insert nodes node a) node ≡ fin.remove nodes node
nodes_left nodes node a = same_map nat_cmp_total nat_cmp-IsAntisymmetric _ _ (λ q. elim (cases_eq q node) [
  | inl e ↦ subst (λ n. fin.get (fin.remove (fin.insert nodes node a) node) n ≡ fin.get (fin.remove nodes node) n) (sym e) (gone_here nat_cmp_total nat_cmp-IsAntisymmetric (fin.insert nodes node a) node ∙ sym (gone_here nat_cmp_total nat_cmp-IsAntisymmetric nodes node))
  | inr ne ↦ gone_other nat_cmp_total nat_cmp-IsAntisymmetric (fin.insert nodes node a) node q ne ∙ get_other nat_cmp_total nat_cmp-IsAntisymmetric nodes node a q ne ∙ sym (gone_other nat_cmp_total nat_cmp-IsAntisymmetric nodes node q ne)
])

module _ (volume left : State) (node : ℕ) (h : Leaves volume left node) where
  -- one more attribute is removed
  pub leaves_more : (name : List ℕ) → fin.contains_key (attributes_of left.nodes node) name ≡ true → IsName name → left.next + 1 < 2 ^ 64 → Leaves volume (made left (Unset node name)) node
  leaves_more name has named fits = record {
    sound = step_sound left (made left (Unset node name)) (Unset node name) _ h.sound fits named (stepped_found left (Unset node name) (h.there, has));
    there = ap is_some (get_here nat_cmp_total nat_cmp-IsAntisymmetric left.nodes node (fin.remove (attributes_of left.nodes node) name));
    next = h.next;
    nodes = nodes_left left.nodes node (fin.remove (attributes_of left.nodes node) name) ∙ h.nodes;
    indices = indices_left left.indices name node ∙ h.indices;
  }

  -- one attribute fewer to count
  pub less_to_count : (name : List ℕ) → fin.contains_key (attributes_of left.nodes node) name ≡ true → fin.len (attributes_of (made left (Unset node name)).nodes node) ≡ fin.len (attributes_of left.nodes node) - 1
  less_to_count name has =
      ap (λ (a : Option Attributes). fin.len (unwrap_or a fin.empty)) (get_here nat_cmp_total nat_cmp-IsAntisymmetric left.nodes node (fin.remove (attributes_of left.nodes node) name))
      ∙ len-remove names_total (attributes_of left.nodes node) name ∙ ap (λ b. cond b (fin.len (attributes_of left.nodes node) - 1) (fin.len (attributes_of left.nodes node))) has

  module _ (bare : fin.len (attributes_of left.nodes node) ≡ 0) where
    pub no_values : (m : List ℕ) → value_at left.nodes node m ≡ None
    no_values m = sym (value_there left.nodes node m) ∙ ap (λ (a : Attributes). fin.get a m) (empty_of_len (attributes_of left.nodes node) bare) ∙ get-empty name_cmp m

    no_pair : (name : List ℕ) (index : Index) → fin.get left.indices name ≡ Some index → fin.get index.pairs node ≡ None
    no_pair name index at = by (fin.get index.pairs node) refl
      where
        clash : (v : Value) → None ≡ Some v → ⊥
        clash v e = cc

        by : (v : Option Value) → fin.get index.pairs node ≡ v → v ≡ None
        by None e = refl
        by (Some v) e = absurd (clash v (sym (no_values name) ∙ (h.sound.pairs name index node v at e).attribute_is))

    unchanged : (index : Index) → fin.get index.pairs node ≡ None → unpaired index node ≡ index
    unchanged index none = ap (λ (m : FinMap nat_cmp Value). record { kind = index.kind; pairs = m }) (same_map nat_cmp_total nat_cmp-IsAntisymmetric _ _ (λ q. elim (cases_eq q node) [
      | inl e ↦ subst (λ n. fin.get (fin.remove index.pairs node) n ≡ fin.get index.pairs n) (sym e) (gone_here nat_cmp_total nat_cmp-IsAntisymmetric index.pairs node ∙ sym none)
      | inr ne ↦ gone_other nat_cmp_total nat_cmp-IsAntisymmetric index.pairs node q ne
    ]))

    -- no index has a pair of the node any more
    pub indices_bare : left.indices ≡ without_node volume.indices node
    indices_bare = same_map names_total exact_names _ _ (λ q. sym (get_left left.indices node q ∙ by q (fin.get left.indices q) refl)) ∙ h.indices
      where
        by : (q : List ℕ) (found : Option Index) → fin.get left.indices q ≡ found → option_map (λ (i : Index). unpaired i node) found ≡ found
        by q None e = refl
        by q (Some index) e = ap Some (unchanged index (no_pair q index e))
