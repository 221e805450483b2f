-- How C gets the operations that rebuild a version.
use Rattle.std.specs.Prelude.{◌≡◌, ◌⊎◌, ◌≤◌, ◌<◌, ◌++◌, ℕ, List, [], length, None, Some}
use Rattle.std.specs.declared.option.Option.{Option}
use Rattle.be_session.specs.States.{unreported}
use Rattle.be_session.specs.declared.lists.Operation.{Operation}
use Rattle.be_session.specs.declared.states.StatePlace.{StatePlace}
use Rattle.be_volume_state.specs.Rebuilding.{state_ops}
use Rattle.be_volume.specs.Volume.{State}
use Rattle.be_volume.specs.declared.ops.Op.{Op}
use Rattle.bestore_c.specs.Calls.{IsPutOut}
use Rattle.bestore_c.specs.declared.handle.Counts.{Counts}

-- The operations of the volume that are still to be returned, which are all of them if the handle
-- of the place is closed.
abbrev pub unreported_at : State → Option StatePlace → List Op
unreported_at volume None = state_ops volume
unreported_at volume (Some p) = unreported volume p

-- A list that comes before the rest. It has up to 64 operations, and is empty only if the rest is
-- empty too.
abbrev pub IsNextList : List Op → List Op → Type 0
IsNextList ops rest = (length ops ≤ 64) × (ops ≡ [] → rest ≡ [])

-- What is still to be returned after the call. If the whole list fitted, this is the rest, and
-- otherwise the list and the rest.
abbrev pub RemainsToReport : List Op → List Op → Counts → List Operation → List ℕ → List Op → Type 0
RemainsToReport ops rest counts places byte_places still =
    ((counts.operations ≤ length places) × (counts.bytes ≤ length byte_places) × (still ≡ rest))
    ⊎ (((length places < counts.operations) ⊎ (length byte_places < counts.bytes))
    × (still ≡ ops ++ rest))

-- The call returns the next list of the operations that are still to be returned. If memory runs
-- out, all of them are still to be returned.
abbrev pub ReportsNext : List Op → List Op → Counts → List Operation → List Operation → List ℕ
    → List ℕ → ℕ → Type 0
ReportsNext left still counts places filled byte_places bytes code =
    ((code ≡ 10) × (still ≡ left))
    ⊎ ((ops : List Op) × (rest : List Op) × (left ≡ ops ++ rest) × IsNextList ops rest × (code ≡ 0)
    × IsPutOut ops counts places filled byte_places bytes code
    × RemainsToReport ops rest counts places byte_places still)

-- The call returns the next list in the pinned version. Without a pin, it returns 66 or 10.
abbrev pub ReportsState : Option ℕ → List Op → List Op → Counts → List Operation → List Operation
    → List ℕ → List ℕ → ℕ → Type 0
ReportsState None left still counts places filled byte_places bytes code =
    ((code ≡ 66) ⊎ (code ≡ 10)) × (still ≡ left)
ReportsState (Some n) left still counts places filled byte_places bytes code = ReportsNext left
    still counts places filled byte_places bytes code
