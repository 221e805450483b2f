-- The operations that rebuild a volume from the empty one.
use Rattle.std.specs.Prelude.{◌≡◌, ◌≤◌, ℕ, ◌-◌, Bool, false, not, is_some, List, [], ◌∷◌, ◌++◌}
use Rattle.std.specs.Prelude.{if◌then◌else◌, filter, map as each}
use Rattle.std.specs.List.{flat_map, range_with_len}
use Rattle.std.specs.Option.{option_and_then}
use Rattle.std.specs.FinMap as map
use Rattle.std.specs.declared.option.Option.{Option}
use Rattle.be_value.specs.declared.values.Value.{Value}
use Rattle.be_volume.specs.Maps.{attributes_of}
use Rattle.be_volume.specs.Reading.{index_kinds}
use Rattle.be_volume.specs.Volume.{State}
use Rattle.be_volume.specs.declared.ops.Op.{Op}
use Rattle.be_volume.specs.declared.ops.Op.TheVariants.{New, Drop, Set, MkIndex}

-- the value that the index of that name has for the node
abbrev pub pair_at : State → List ℕ → ℕ → Option Value
pair_at s name node = option_and_then (λ index. map.get index.pairs node) (map.get s.indices name)

-- whether the node is in the index of that name
abbrev pub is_held : State → ℕ → List ℕ → Bool
is_held s node name = is_some (pair_at s name node)

-- a node's attributes that no index has
abbrev pub outside : State → ℕ → List (List ℕ × Value)
outside s node = filter (λ e. not (is_held s node e.0)) (map.entries (attributes_of s.nodes node))

-- a node's attributes that an index has
abbrev pub held : State → ℕ → List (List ℕ × Value)
held s node = filter (λ e. is_held s node e.0) (map.entries (attributes_of s.nodes node))

-- the operations that set these attributes of the node
abbrev pub set_all : ℕ → List (List ℕ × Value) → List Op
set_all node attributes = each (λ e. Set node e.0 e.1) attributes

-- The operations for a number create its node and set the attributes that no index has. If the
-- volume has no such node, they then drop it.
abbrev pub number_ops : State → ℕ → List Op
number_ops s node = New ∷ (if map.contains_key s.nodes node then set_all node (outside s node)
    else Drop node ∷ [])

-- the operations that create the indices
abbrev pub index_ops : State → List Op
index_ops s = each (λ e. MkIndex e.0 e.1) (index_kinds s)

-- the operations that set the node's attributes that an index has
abbrev pub held_ops : State → ℕ → List Op
held_ops s node = set_all node (held s node)

-- the numbers from this one to the last that was given to a node
abbrev pub numbers_from : State → ℕ → List ℕ
numbers_from s node = range_with_len node (s.next - node)

-- For each number, its node and the attributes that no index has; then the indices; then, for each
-- number, the attributes that an index has.
abbrev pub state_ops : State → List Op
state_ops s = flat_map (number_ops s) (numbers_from s 1)
    ++ (index_ops s ++ flat_map (held_ops s) (numbers_from s 1))

-- Numbers begin at 1, as in every volume that operations have created.
pub record IsNumbered (s : State) : Type 0 where
  pub begins : 1 ≤ s.next
  pub no_zero : map.contains_key s.nodes 0 ≡ false
