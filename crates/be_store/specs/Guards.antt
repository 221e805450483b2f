-- What calls through a guard of a pinned pass leave unchanged.
use Rattle.std.specs.Prelude.{◌≡◌}
use Rattle.be_store.specs.Passes.{HasRead}
use Rattle.be_store.specs.declared.pinned.Pinned.{Pinned}

-- The guard still guards the same pass of the same store, with the same number.
abbrev pub IsSameGuard : Pinned → Pinned → Type 0
IsSameGuard old new = (new.pass.ghost_name ≡ old.pass.ghost_name)
    × (new.store.now ≡ old.store.now) × (new.number ≡ old.number)

-- As in `IsSameGuard`, and the pass has only read.
abbrev pub HasReadThrough : Pinned → Pinned → Type 0
HasReadThrough old new = IsSameGuard old new × HasRead old.pass.now.knows new.pass.now.knows
