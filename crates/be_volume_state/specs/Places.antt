-- How far a volume's operations have been read.
use Rattle.std.specs.Prelude.{◌<◌, ℕ, ◌+◌, ◌-◌, ⊤, List, [], ◌++◌}
use Rattle.std.specs.List.{flat_map}
use Rattle.std.specs.Option.{option_map_or}
use Rattle.std.specs.declared.option.Option.{Option}
use Rattle.std.specs.declared.result.Result.{Result}
use Rattle.std.specs.declared.result.Result.TheVariants.{Ok, Err}
use Rattle.be_volume.specs.Volume.{State}
use Rattle.be_volume.specs.declared.ops.Op.{Op}
use Rattle.be_volume_state.specs.Rebuilding.{number_ops, index_ops, held_ops, numbers_from}
use Rattle.be_volume_state.specs.declared.lists.Place.{Place}
use Rattle.be_volume_state.specs.declared.lists.Step.{Step}
use Rattle.be_volume_state.specs.declared.lists.Step.TheVariants.{Number, Indices, Held}

-- the operations from this step on
abbrev pub left_from : State → Step → List Op
left_from s (Number node) = flat_map (number_ops s) (numbers_from s node)
    ++ (index_ops s ++ flat_map (held_ops s) (numbers_from s 1))
left_from s Indices = index_ops s ++ flat_map (held_ops s) (numbers_from s 1)
left_from s (Held node) = flat_map (held_ops s) (numbers_from s node)

-- the operations that have not been returned yet
abbrev pub left : State → Place → List Op
left s place = place.ready.items ++ left_from s place.step

-- the operations of the list that was returned, as given by a function of it; none if no list was
-- returned
abbrev pub given : {X E : Type 0} → (X → List Op) → Result (Option X) E → List Op
given view (Ok list) = option_map_or view list []
given view (Err e) = []

-- this step isn't the last
abbrev pub IsNotLast : Step → ℕ → Type 0
IsNotLast (Number node) next = ⊤
IsNotLast Indices next = ⊤
IsNotLast (Held node) next = node < next

-- the maximum number of steps left, if this is the volume's next number
abbrev pub steps_left : ℕ → Step → ℕ
steps_left next (Number node) = (next - node) + (next + 2)
steps_left next Indices = next + 1
steps_left next (Held node) = next - node
