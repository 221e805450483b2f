-- What the pairs in the catalog tree and in the tree of an index encode.
use Rattle.std.specs.Prelude.{◌≡◌, ℕ, ◌^◌, ◌<◌, List, [], ◌∷◌, ◌++◌, All, Some}
use Rattle.std.specs.Option.{option_map, option_and_then}
use Rattle.std.specs.Int.{to_be_bytes, cast_unsigned, w32, w64}
use Rattle.std.specs.FinMap as map
use Rattle.std.specs.declared.option.Option.{Option}
use Rattle.be_value.specs.Key.{key}
use Rattle.be_value.specs.declared.values.Value.{Value}
use Rattle.be_value.specs.declared.values.Value.TheVariants.{Cstr, Long, Llng, Mims, Rawt, Ulng}
use Rattle.be_value.specs.declared.values.Value.TheVariants.{Ullg}
use Rattle.be_volume.specs.Maps.{Nodes}
use Rattle.be_volume.specs.declared.maps.Index.{Index}
use Rattle.be_tree_reading.specs.Pair.{Pair}
use Rattle.be_tree_reading.specs.Key.{payload_at}

-- The key of a node's attribute. With an empty name, it is the key of the node's mark.
abbrev pub catalog_key : ℕ → List ℕ → List ℕ
catalog_key node name = to_be_bytes w64 node ++ name

-- The payload that encodes a value: the number of its kind, followed by its data.
abbrev pub payload_of : Value → List ℕ
payload_of (Cstr text) = 1 ∷ text
payload_of (Long n) = 2 ∷ to_be_bytes w32 (cast_unsigned w32 n)
payload_of (Llng n) = 3 ∷ to_be_bytes w64 (cast_unsigned w64 n)
payload_of (Mims text) = 4 ∷ text
payload_of (Rawt bytes) = 5 ∷ bytes
payload_of (Ulng n) = 6 ∷ to_be_bytes w32 n
payload_of (Ullg n) = 7 ∷ to_be_bytes w64 n

-- The value of a node for a name.
abbrev pub value_at : Nodes → ℕ → List ℕ → Option Value
value_at nodes node name = option_and_then (λ attributes. map.get attributes name)
    (map.get nodes node)

-- The payload at the key for a node and a name. The payload of a mark is empty.
abbrev pub stored : Nodes → ℕ → List ℕ → Option (List ℕ)
stored nodes node [] = option_map (λ _. []) (map.get nodes node)
stored nodes node (c ∷ name) = option_map payload_of (value_at nodes node (c ∷ name))

-- This is the key for some node and some name.
pub record IsCatalogKey (k : List ℕ) : Type 0 where
  pub node : ℕ
  pub name : List ℕ
  pub fits : node < 2 ^ 64
  pub is : k ≡ catalog_key node name

-- The pairs are exactly the marks and attributes of the nodes: each key has the payload that the
-- nodes determine, and there are no other keys.
pub record IsCatalog (pairs : List Pair) (nodes : Nodes) : Type 0 where
  pub each : (node : ℕ) (name : List ℕ) → node < 2 ^ 64 → payload_at pairs (catalog_key node name)
      ≡ stored nodes node name
  pub only : All (λ pair. IsCatalogKey pair.key) pairs

-- The key of the pair is that of a node and of the value that the index has for this node.
pub record IsPairOf (index : Index) (pair : Pair) : Type 0 where
  pub node : ℕ
  pub value : Value
  pub there : map.get index.pairs node ≡ Some value
  pub is : pair.key ≡ key value node
  pub empty : pair.payload ≡ []

-- The pairs are exactly the keys of the index, with empty payloads.
pub record IsIndexOf (pairs : List Pair) (index : Index) : Type 0 where
  pub each : (node : ℕ) (value : Value) → map.get index.pairs node ≡ Some value
      → payload_at pairs (key value node) ≡ Some []
  pub only : All (IsPairOf index) pairs
