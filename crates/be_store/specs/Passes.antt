-- What it means to be a pass of a store, and what such a pass can read.
use Rattle.std.specs.Prelude.{◌≡◌, ℕ, take, Some}
use Rattle.std.specs.Coded.{Coded-set, coded_ℕ, Unit-prop, →_prop}
use Rattle.std.specs.Option.{option_map_or}
use Rattle.be_core.specs.declared.event.Phase.{Phase}
use Rattle.be_core.specs.declared.event.Phase.TheVariants.{Idle, Looked, Announced, Pinned}
use Rattle.be_journal.specs.Journal.{replay_from}
use Rattle.be_table.specs.declared.pass.Knowledge.{Knowledge}
use Rattle.be_table.specs.Place.{Opened, SeatFacts}
use Rattle.be_table.specs.Rule.{entries}
use Rattle.be_table.specs.Seats.{pinned_number}
use Rattle.be_table.specs.Works.{IsSeatOf}
use Rattle.be_volume.specs.Volume.{State, empty}

-- Between two calls, a pass is either pinned or not pinned, never halfway to a pin. If it is the
-- store's only pass, it is pinned to exactly the version that it has published in its reader slot.
abbrev pub IsBetweenCalls : ℕ → Phase → Type 0
IsBetweenCalls passes Idle = Unit {0}
IsBetweenCalls passes (Looked x) = ⊥
IsBetweenCalls passes (Announced x) = ⊥
IsBetweenCalls passes (Pinned x n) = passes ≡ 1 → x ≡ n

pub IsBetweenCalls-prop : (passes : ℕ) (p : Phase) → IsProp (IsBetweenCalls passes p)
IsBetweenCalls-prop passes Idle = Unit-prop
IsBetweenCalls-prop passes (Looked x) = λ a b. absurd a
IsBetweenCalls-prop passes (Announced x) = λ a b. absurd a
IsBetweenCalls-prop passes (Pinned x n) = →_prop (Coded-set coded_ℕ x n)

-- `IsBetweenCalls` for a pass of this store.
abbrev pub IsAtRest : Opened → SeatFacts → Type 0
IsAtRest store pass = IsBetweenCalls store.limits.passes pass.knows.phase

pub IsAtRest-prop : (store : Opened) (pass : SeatFacts) → IsProp (IsAtRest store pass)
IsAtRest-prop store pass = IsBetweenCalls-prop store.limits.passes pass.knows.phase

-- This is a pass of this store, between two calls.
abbrev pub IsPassOf : Opened → SeatFacts → Type 0
IsPassOf store pass = IsSeatOf store pass × IsBetweenCalls store.limits.passes pass.knows.phase

-- The pass is pinned to the first n entries of the journal.
abbrev pub IsPinnedTo : Knowledge → ℕ → Type 0
IsPinnedTo a n = pinned_number a.phase ≡ Some n

-- The volume after everything that the pass has seen.
abbrev pub volume_seen : Knowledge → State
volume_seen a = replay_from a.limits.volume (entries a.seen)

-- The volume that a pinned pass reads. For a pass that is pinned to n, this is the volume after the
-- first n entries of the journal.
abbrev pub volume_pinned : Knowledge → State
volume_pinned a = option_map_or (λ n. replay_from a.limits.volume (take n (entries a.seen)))
    (pinned_number a.phase) empty

-- The pass has only read, so nothing but its count of steps has changed.
abbrev pub HasRead : Knowledge → Knowledge → Type 0
HasRead a c = c ≡ record a { steps = c.steps }
