-- What holds for every volume that operations have created.
use Rattle.std.specs.Prelude.{◌≡◌, ◌<◌, ◌≤◌, ◌^◌, ⊤, ℕ, true, List, Some, Ok, IsTrue, IsUtf8}
use Rattle.std.specs.FinMap as map
use Rattle.be_value.specs.Key.{IsValue}
use Rattle.be_value.specs.Name.{name_from}
use Rattle.be_value.specs.Value.{kind_of, is_indexable}
use Rattle.be_value.specs.declared.values.Kind.{Kind}
use Rattle.be_value.specs.declared.values.Value.{Value}
use Rattle.be_volume.specs.Maps.{attributes_of}
use Rattle.be_volume.specs.Reading.{attribute}
use Rattle.be_volume.specs.Volume.{State}
use Rattle.be_volume.specs.declared.maps.Index.{Index}
use Rattle.be_volume.specs.declared.ops.Op.{Op}
use Rattle.be_volume.specs.declared.ops.Op.TheVariants.{New, Drop, Set, Unset, MkIndex, RmIndex}

-- the name is valid
abbrev pub IsName : List ℕ → Type 0
IsName name = (name_from name ≡ Ok name) × IsUtf8 name

-- the operation's names and values are valid
abbrev pub IsOperation : Op → Type 0
IsOperation New = ⊤
IsOperation (Drop node) = ⊤
IsOperation (Set node name value) = IsName name × IsValue value
IsOperation (Unset node name) = IsName name
IsOperation (MkIndex name kind) = IsName name
IsOperation (RmIndex name) = IsName name

-- what a pair (value, node) in an index of this name and kind implies: it is the node's attribute,
-- and has the index's kind
pub record IsPaired (s : State) (name : List ℕ) (kind : Kind) (node : ℕ) (value : Value) : Type 0
  where
    pub attribute_is : attribute s node name ≡ Some value
    pub kind_is : kind_of value ≡ kind
    pub is_value : IsValue value
    pub node_fits : node < 2 ^ 64
    pub node_below : node < s.next

-- Each pair of an index is its node's attribute with that name, and has the index's kind, which is
-- indexable. Attributes have valid names and values, and each node's number is lower than the next
-- one. A node has at most 64 attributes, and there are at most 32 indices.
pub record IsSound (s : State) : Type 0 where
  pub pairs : (name : List ℕ) (index : Index) (node : ℕ) (value : Value) → map.get s.indices name
      ≡ Some index → map.get index.pairs node ≡ Some value →
      IsPaired s name index.kind node value
  pub kinds : (name : List ℕ) (index : Index) → map.get s.indices name ≡ Some index
      → IsTrue (is_indexable index.kind)
  pub names : (name : List ℕ) (index : Index) → map.get s.indices name ≡ Some index → IsName name
  pub attributes : (node : ℕ) (name : List ℕ) (value : Value) → attribute s node name ≡ Some value
      → IsName name × IsValue value
  pub nodes : (node : ℕ) → map.contains_key s.nodes node ≡ true → node < s.next
  pub few_attributes : (node : ℕ) → map.len (attributes_of s.nodes node) ≤ 64
  pub few_indices : map.len s.indices ≤ 32
