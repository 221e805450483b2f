-- Whether the sets in a list have the kinds that the indices of their names take.
use Rattle.std.specs.Prelude.{◌≡◌, ◌≢◌, ◌<◌, ℕ, List, None, Some, slice_get, take}
use Rattle.std.specs.declared.option.Option.{Option}
use Rattle.be_value.specs.Value.{kind_of}
use Rattle.be_value.specs.declared.values.Kind.{Kind}
use Rattle.be_volume.specs.Volume.{State}
use Rattle.be_volume.specs.declared.ops.Op.{Op}
use Rattle.be_volume.specs.declared.ops.Op.TheVariants.{New, Drop, Set, Unset, MkIndex, RmIndex}
use Rattle.be_change.specs.Collecting.{TakesKind}
use Rattle.be_change.specs.Left.{index_kind_left}

-- If this operation sets an attribute, its value has the kind of the index of its name, as the
-- operations before it leave that index.
abbrev pub HasRightKind : State → List Op → Op → Type 0
HasRightKind base before New = Unit {0}
HasRightKind base before (Drop node) = Unit {0}
HasRightKind base before (Set node name value) =
    TakesKind (index_kind_left base before name) (kind_of value)
HasRightKind base before (Unset node name) = Unit {0}
HasRightKind base before (MkIndex name kind) = Unit {0}
HasRightKind base before (RmIndex name) = Unit {0}

-- This operation sets an attribute, and the index of its name, as the operations before it leave
-- that index, takes this other kind.
abbrev pub HasWrongKind : State → List Op → Op → Kind → Type 0
HasWrongKind base before New index = ⊥
HasWrongKind base before (Drop node) index = ⊥
HasWrongKind base before (Set node name value) index = (index ≢ kind_of value)
    × (index_kind_left base before name ≡ Some index)
HasWrongKind base before (Unset node name) index = ⊥
HasWrongKind base before (MkIndex name kind) index = ⊥
HasWrongKind base before (RmIndex name) index = ⊥

-- Either the operation has the right kind, or the other kind of its index is returned.
abbrev pub ComparesKinds : State → List Op → Op → Option Kind → Type 0
ComparesKinds base before op None = HasRightKind base before op
ComparesKinds base before op (Some index) = HasWrongKind base before op index

-- The first n operations have the right kinds.
abbrev pub HaveRightKinds : State → List Op → ℕ → Type 0
HaveRightKinds base ops n = (i : ℕ) (op : Op) → i < n → slice_get ops i ≡ Some op
    → HasRightKind base (take i ops) op

-- The first operation of a wrong kind is at this place, counting from 0, and the index of its name
-- takes this kind.
abbrev pub IsFirstOfWrongKind : State → List Op → ℕ → Kind → Type 0
IsFirstOfWrongKind base ops place index = HaveRightKinds base ops place
    × (op : Op) × (slice_get ops place ≡ Some op) × HasWrongKind base (take place ops) op index
