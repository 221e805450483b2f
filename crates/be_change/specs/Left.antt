-- What one operation says about one attribute, and about the index of one name.
use Rattle.std.specs.Prelude.{ℕ, ◌&&◌, Bool, true, false, List, Some, None, fold, nat_eq, unwrap_or}
use Rattle.std.specs.Prelude.{if◌then◌else◌}
use Rattle.std.specs.Cmp.Lexicographic.{pointwise}
use Rattle.std.specs.declared.option.Option.{Option}
use Rattle.be_value.specs.declared.values.Kind.{Kind}
use Rattle.be_value.specs.declared.values.Value.{Value}
use Rattle.be_volume.specs.Reading.{index_kind}
use Rattle.be_volume.specs.Volume.{State}
use Rattle.be_volume.specs.declared.ops.Op.{Op}
use Rattle.be_volume.specs.declared.ops.Op.TheVariants.{New, Drop, Set, Unset, MkIndex, RmIndex}

-- Whether an operation creates a node.
abbrev pub is_new : Op → Bool
is_new New = true
is_new (Drop node) = false
is_new (Set node name value) = false
is_new (Unset node name) = false
is_new (MkIndex name kind) = false
is_new (RmIndex name) = false

-- What the operation leaves of this attribute, if it affects it. A node that the operation creates
-- has the number `next`.
abbrev pub left_by : Op → ℕ → ℕ → List ℕ → Option (Option Value)
left_by New next node name = if nat_eq node next then Some None else None
left_by (Drop dropped) next node name = if nat_eq node dropped then Some None else None
left_by (Set changed set value) next node name =
    if nat_eq node changed && pointwise nat_eq name set then Some (Some value) else None
left_by (Unset changed unset) next node name =
    if nat_eq node changed && pointwise nat_eq name unset then Some None else None
left_by (MkIndex made kind) next node name = None
left_by (RmIndex removed) next node name = None

-- What the operation leaves of the index of this name, if it affects it.
abbrev pub index_left_by : Op → List ℕ → Option (Option Kind)
index_left_by New name = None
index_left_by (Drop node) name = None
index_left_by (Set node set value) name = None
index_left_by (Unset node unset) name = None
index_left_by (MkIndex made kind) name = if pointwise nat_eq name made then Some (Some kind)
    else None
index_left_by (RmIndex removed) name = if pointwise nat_eq name removed then Some None else None

-- The kind of the index of this name, as these operations leave it. Every operation counts, even if
-- the volume refuses one of them.
abbrev pub index_kind_left : State → List Op → List ℕ → Option Kind
index_kind_left base ops name =
    fold (λ kind op. unwrap_or (index_left_by op name) kind) (index_kind base name) ops
