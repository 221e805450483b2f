-- A volume in order, as bytes: its indices, and its nodes with their attributes.
use Rattle.std.specs.Prelude.{◌≡◌, ℕ, if◌then◌else◌, List, ◌∷◌, ◌++◌, map as each}
use Rattle.std.specs.FinMap as map
use Rattle.std.specs.Int.{to_le_bytes, w64}
use Rattle.std.specs.List.{concat, flat_map}
use Rattle.be_value.specs.declared.values.Kind.{Kind}
use Rattle.be_value.specs.declared.values.Value.{Value}
use Rattle.be_volume.specs.Maps.{Attributes}
use Rattle.be_volume.specs.Reading.{index_kinds}
use Rattle.be_volume.specs.Volume.{State}
use Rattle.be_volume_state.specs.Rebuilding.{is_held}
use Rattle.be_kept.specs.Batches.{counted, kind_bytes, value_bytes}

abbrev pub index_record : List ℕ × Kind → List ℕ
index_record index = 1 ∷ (counted index.0 ++ kind_bytes index.1)

-- an attribute of a node, which the index of its name has or doesn't have
abbrev pub attribute_record : State → ℕ → List ℕ × Value → List ℕ
attribute_record s node attribute = (if is_held s node attribute.0 then 4 else 3)
    ∷ (counted attribute.0 ++ value_bytes attribute.1)

-- a node, followed by its attributes in ascending order of names
abbrev pub node_records : State → ℕ × Attributes → List (List ℕ)
node_records s node = (2 ∷ to_le_bytes w64 node.0)
    ∷ each (attribute_record s node.0) (map.entries node.1)

-- the indices in ascending order of names, then the nodes in ascending order
abbrev pub records : State → List (List ℕ)
records s = each index_record (index_kinds s) ++ flat_map (node_records s) (map.entries s.nodes)

-- `BEV`, the version of this encoding, and some records
abbrev pub batch_of : List (List ℕ) → List ℕ
batch_of some = 66 ∷ 69 ∷ 86 ∷ 1 ∷ concat some

-- the batches have the records, in order, divided among them in any way
abbrev pub IsListing : State → List (List ℕ) → Type 0
IsListing s batches = (groups : List (List (List ℕ)))
    × (flat_map (λ group. group) groups ≡ records s)
    × (batches ≡ each batch_of groups)
