-- What a reader of the catalog relies on, and what a walk over the attributes of a node finds.
use Rattle.std.specs.Prelude.{◌≡◌, ℕ, Bool, List, [], ◌∷◌, Some, map as each, nat_eq, if◌then◌else◌}
use Rattle.std.specs.FinMap as map
use Rattle.std.specs.Int.{to_be_bytes, w64}
use Rattle.std.specs.List.{starts_with}
use Rattle.be_value.specs.Key.{IsValue}
use Rattle.be_value.specs.declared.values.Value.{Value}
use Rattle.be_tree_reading.specs.Pair.{Pair}
use Rattle.be_volume.specs.Maps.{Attributes, Nodes}
use Rattle.be_volume.specs.Sound.{IsName}
use Rattle.be_paged_reading.specs.Catalog.{catalog_key, payload_of, value_at}

-- Every attribute has a valid name and a valid value.
abbrev pub AreValid : Nodes → Type 0
AreValid nodes = (node : ℕ) (name : List ℕ) (value : Value) → value_at nodes node name ≡ Some value
    → IsName name × IsValue value

-- The key begins with the node.
abbrev pub is_of : ℕ → List ℕ → Bool
is_of node k = starts_with nat_eq k (to_be_bytes w64 node)

-- The leading pairs whose keys begin with the node.
abbrev pub front_of_node : ℕ → List Pair → List Pair
front_of_node node [] = []
front_of_node node (x ∷ xs) = if is_of node x.key then x ∷ front_of_node node xs else []

-- The catalog's pair for an attribute.
abbrev pub attribute_pair : ℕ → List ℕ × Value → Pair
attribute_pair node e = record { key = catalog_key node e.0; payload = payload_of e.1 }

-- The pairs for the attributes of a node, in ascending order of their names.
abbrev pub attribute_pairs : ℕ → Attributes → List Pair
attribute_pairs node attributes = each (attribute_pair node) (map.entries attributes)
