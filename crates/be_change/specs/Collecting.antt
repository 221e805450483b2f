-- Why an operation isn't collected.
use Rattle.std.specs.Prelude.{◌≡◌, ◌≢◌, ◌⊎◌, ◌<◌, ℕ, true, List, Some, length}
use Rattle.std.specs.declared.option.Option.{Option}
use Rattle.be_value.specs.declared.values.Kind.{Kind}
use Rattle.be_volume.specs.Volume.{State}
use Rattle.be_change.specs.Changing.{Changing, Reads}
use Rattle.be_change.specs.Left.{index_kind_left}
use Rattle.be_change.specs.declared.errors.CollectError.{CollectError}
use Rattle.be_change.specs.declared.errors.CollectError.TheVariants.{TooMany, WrongKind}
use Rattle.be_change.specs.declared.errors.CollectError.TheVariants.{OutOfMemory}

-- Either the change has 64 operations, or it has fewer and memory ran out.
abbrev pub HasNoRoom : Changing → CollectError → Type 0
HasNoRoom c e = ((e ≡ TooMany) × (length c.ops ≡ 64))
    ⊎ ((e ≡ OutOfMemory) × (length c.ops < 64))

-- If there is an index, its kind is that of the value.
abbrev pub TakesKind : Option Kind → Kind → Type 0
TakesKind index kind = (indexed : Kind) → index ≡ Some indexed → indexed ≡ kind

-- The index of this name, as the collected operations leave it, has this kind if it exists.
abbrev pub IsOfRightKind : Changing → List ℕ → Kind → Type 0
IsOfRightKind c name kind = (base : State) → Reads c base
    → TakesKind (index_kind_left base c.ops name) kind

-- The change checks kinds, and the index of this name, as the collected operations leave it, takes
-- values of another kind.
abbrev pub IsOfWrongKind : Changing → List ℕ → Kind → CollectError → Type 0
IsOfWrongKind c name kind e = (indexed : Kind) × (e ≡ WrongKind indexed kind)
    × (indexed ≢ kind) × (c.checks ≡ true)
    × ((base : State) → Reads c base → index_kind_left base c.ops name ≡ Some indexed)
