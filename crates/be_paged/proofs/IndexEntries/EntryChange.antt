-- What contents encode after a node's pair in the index with a given name has changed.
use Rattle.std.proofs.Common.{◌≡◌, ℕ, Bool, true, false, cond, List, get_or, Some, None, ap, sym, subst, ◌∙◌, refl}
use Rattle.std.specs.declared.option.Option.{Option}
use Rattle.std.specs.FinMap as fin
use Rattle.be_value.specs.Value.{kind_of}
use Rattle.be_value.specs.declared.values.Value.{Value}
use Rattle.be_tree_reading.specs.Tree.{pairs}
use Rattle.be_volume.specs.Indices.{Indices, paired_at, unpaired_at, same_kind}
use Rattle.be_volume.specs.Reading.{attribute}
use Rattle.be_volume.specs.Sound.{IsSound}
use Rattle.be_volume.specs.Volume.{State}
use Rattle.be_volume.specs.declared.maps.Index.{Index}
use Rattle.be_paged_reading.specs.Entry.{Entry}
use Rattle.be_paged_reading.specs.Page.{Contents, IsNamedAt, IsGapAt}
use Rattle.be_paged_reading.specs.Catalog.{IsIndexOf}
use Rattle.be_paged.specs.Changes.{IsReady, repaired, with_change, with_indices}
use Rattle.be_paged_reading.specs.Version.{Encodes}
use Rattle.be_paged_reading.proofs.IndexEntries.Indexing.{Found, named_found, gap_none}
use Rattle.be_paged.proofs.IndexEntries.Repairs.{ready_index}

change_none : (indices : Indices) (name : List ℕ) (node : ℕ) (value : Option Value) → fin.get indices name ≡ None → with_change indices name node value ≡ indices
change_none indices name node None e = ap (λ i. unpaired_at indices name i node) e
change_none indices name node (Some v) e = ap (λ i. paired_at indices name i node v) e

change_some : (indices : Indices) (name : List ℕ) (node : ℕ) (value : Option Value) (index : Index) → fin.get indices name ≡ Some index → with_change indices name node value ≡ fin.insert indices name (repaired index node value)
change_some indices name node None index e = ap (λ i. unpaired_at indices name i node) e
change_some indices name node (Some v) index e = ap (λ i. paired_at indices name i node v) e

-- nothing changes if the name has no index
pub encodes_unindexed : (w : ℕ → ℕ → ℕ) (c : Contents) (volume : State) (name : List ℕ) (node i : ℕ) (value : Option Value) → Encodes w c volume → IsGapAt c.entries name i → Encodes w c (with_indices volume name node value)
encodes_unindexed w c volume name node i value encodes gap =
    let none = fin.get-entries volume.indices name ∙ gap_none w c.entries (fin.entries volume.indices) name i encodes.indices (fin.entries_sorted volume.indices) gap in
    subst (λ (is : Indices). Encodes w c (record { next = volume.next; nodes = volume.nodes; indices = is })) (sym (change_none volume.indices name node value none)) encodes

-- the name has an index
pub record Indexed (w : ℕ → ℕ → ℕ) (c : Contents) (volume : State) (name : List ℕ) (node i : ℕ) (old new : Option Value) : Type 0 where
  pub index : Index
  pub there : fin.get volume.indices name ≡ Some index
  pub keys : (d : Entry) → IsIndexOf (pairs w (get_or c.entries i d).root) index
  pub ready : (d : Entry) → IsReady index (get_or c.entries i d).kind node old
  pub changed : with_change volume.indices name node new ≡ fin.insert volume.indices name (repaired index node new)
  pub kind : (d : Entry) → (get_or c.entries i d).kind ≡ index.kind
  pub kept : index.kind ≡ (repaired index node new).kind

repaired_kind : (index : Index) (node : ℕ) (value : Option Value) → index.kind ≡ (repaired index node value).kind
repaired_kind index node None = refl
repaired_kind index node (Some v) = by (same_kind index.kind (kind_of v))
  where
    by : (b : Bool) → index.kind ≡ (cond {A = Index} b (record { kind = index.kind; pairs = fin.insert index.pairs node v }) (record { kind = index.kind; pairs = fin.remove index.pairs node })).kind
    by true = refl
    by false = refl

pub indexed : (w : ℕ → ℕ → ℕ) (c : Contents) (volume : State) (name : List ℕ) (node i : ℕ) (old new : Option Value) → Encodes w c volume → IsSound volume → old ≡ attribute volume node name → IsNamedAt c.entries name i
    → Indexed w c volume name node i old new
indexed w c volume name node i old new encodes sound value at =
    let found : Found w c.entries (fin.entries volume.indices) name i = named_found w c.entries (fin.entries volume.indices) name i encodes.indices at in
    let there = fin.get-entries volume.indices name ∙ found.found in
    record {
      index = found.index;
      there = there;
      keys = λ d. (found.entry d).keys;
      ready = λ d. ready_index volume name found.index (get_or c.entries i d).kind node old sound there (sym (found.entry d).kind_is) value;
      changed = change_some volume.indices name node new found.index there;
      kind = λ d. (found.entry d).kind_is;
      kept = repaired_kind found.index node new;
    }
