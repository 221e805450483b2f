-- How far the operations that rebuild a version have been returned.
use Rattle.std.specs.Prelude.{◌≡◌, ◌⊎◌, ◌<◌, ◌≤◌, ◌++◌, ℕ, List, [], length}
use Rattle.be_session.specs.declared.lists.Operation.{Operation}
use Rattle.be_session.specs.declared.states.StatePlace.{StatePlace}
use Rattle.be_volume_state.specs.Places.{left}
use Rattle.be_volume.specs.Volume.{State}
use Rattle.be_volume.specs.declared.ops.Op.{Op}

-- The operations that were read but haven't been returned yet.
abbrev pub waiting : StatePlace → List Op
waiting p = p.ready.items

-- The operations of a volume that haven't been read yet.
abbrev pub unread : State → StatePlace → List Op
unread volume p = left volume p.place

-- The operations of a volume that are still to be returned.
abbrev pub unreported : State → StatePlace → List Op
unreported volume p = waiting p ++ unread volume p

-- The encoding fits into this many operations and bytes.
abbrev pub HaveRoom : ℕ → ℕ → List Operation → List ℕ → Type 0
HaveRoom operations_room bytes_room os bytes = (length os ≤ operations_room)
    × (length bytes ≤ bytes_room)

-- The encoding does not fit.
abbrev pub LackRoom : ℕ → ℕ → List Operation → List ℕ → Type 0
LackRoom operations_room bytes_room os bytes = (operations_room < length os)
    ⊎ (bytes_room < length bytes)

-- What is still ready after these operations were encoded. If there was room for the encoding,
-- nothing is ready, and otherwise the same operations are.
abbrev pub WaitAfter : List Op → ℕ → ℕ → List Operation → List ℕ → List Op → Type 0
WaitAfter ops operations_room bytes_room os bytes still =
    (HaveRoom operations_room bytes_room os bytes × (still ≡ []))
    ⊎ (LackRoom operations_room bytes_room os bytes × (still ≡ ops))
