-- What can be read from a volume.
use Rattle.std.specs.Prelude.{ℕ, List, map as each}
use Rattle.std.specs.Option.{option_map, option_map_or, option_and_then}
use Rattle.std.specs.FinMap as map
use Rattle.std.specs.declared.option.Option.{Option}
use Rattle.std.specs.declared.result.Result.{Result}
use Rattle.std.specs.declared.result.Result.TheVariants.{Ok, Err}
use Rattle.be_value.specs.declared.refusals.Refusal.{Refusal}
use Rattle.be_value.specs.declared.refusals.Refusal.TheVariants.{NoNode}
use Rattle.be_value.specs.declared.values.Kind.{Kind}
use Rattle.be_value.specs.declared.values.Value.{Value}
use Rattle.be_volume.specs.Volume.{State}

-- a node's value at a name
abbrev pub attribute : State → ℕ → List ℕ → Option Value
attribute s node name = option_and_then (λ attributes. map.get attributes name)
    (map.get s.nodes node)

-- the node's attributes, in ascending order of their names
abbrev pub attributes_at : State → ℕ → Result (List (List ℕ × Value)) Refusal
attributes_at s node = option_map_or (λ attributes. Ok (map.entries attributes))
    (map.get s.nodes node) (Err NoNode)

-- the kind of the index with this name
abbrev pub index_kind : State → List ℕ → Option Kind
index_kind s name = option_map (λ index. index.kind) (map.get s.indices name)

-- the indices' names and kinds, in ascending order of the names
abbrev pub index_kinds : State → List (List ℕ × Kind)
index_kinds s = each (λ e. (e.0, e.1.kind)) (map.entries s.indices)
