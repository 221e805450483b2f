-- Seats between two calls of a test.
use Rattle.std.specs.Prelude.{◌≡◌, ℕ}
use Rattle.be_core.specs.declared.event.Phase.{Phase}
use Rattle.be_core.specs.declared.event.Phase.TheVariants.{Idle, Looked, Announced, Pinned}
use Rattle.be_table.specs.Place.{Opened, SeatFacts}
use Rattle.be_table.specs.Works.{IsSeatOf}

-- The pass is pinned or idle; it hasn't stopped on the way to a pin.
abbrev pub IsAtRest : Phase → Type 0
IsAtRest Idle = Unit {0}
IsAtRest (Looked x) = ⊥
IsAtRest (Announced x) = ⊥
IsAtRest (Pinned x n) = Unit {0}

-- a seat of this table at rest
abbrev pub IsResting : Opened → SeatFacts → Type 0
IsResting table seat = IsSeatOf table seat × IsAtRest seat.knows.phase

-- it is still such a seat, with the same number
abbrev pub StaysSeat : Opened → SeatFacts → SeatFacts → Type 0
StaysSeat table old new = IsResting table new × (new.knows.number ≡ old.knows.number)

-- a seat of this table whose pass is pinned
abbrev pub IsPinnedSeat : Opened → SeatFacts → Type 0
IsPinnedSeat table seat = IsSeatOf table seat
    × ((x : ℕ) × (n : ℕ) × (seat.knows.phase ≡ Pinned x n))
