-- What a call leaves unchanged about a pass.
use Rattle.std.specs.Prelude.{◌≡◌}
use Rattle.be_store.specs.Passes.{IsPassOf}
use Rattle.be_table.specs.Place.{Opened, SeatFacts}

-- it is still a pass of this store, with the same number
abbrev pub StaysPass : Opened → SeatFacts → SeatFacts → Type 0
StaysPass store old new = IsPassOf store new × (new.knows.number ≡ old.knows.number)
