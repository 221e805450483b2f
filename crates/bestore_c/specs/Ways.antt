-- What a call returns about the ranges that an answer walked.
use Rattle.std.specs.Prelude.{◌≡◌, ◌⊎◌, ℕ, List}
use Rattle.be_query.specs.Grammar.{Formula, IsTextOf}
use Rattle.be_session.specs.Sitting.{IsNoQuery, Sitting}
use Rattle.be_session.specs.Ways.{if_answered, ShowsWays}
use Rattle.be_session.specs.declared.faults.Fault.{Fault}
use Rattle.be_store.specs.Passes.{HasRead, volume_pinned}
use Rattle.be_table.specs.Seats.{pinned_number}
use Rattle.be_volume.specs.Query.{scan}
use Rattle.bestore_c.specs.Calls.{PutsOutAtPin, Refuses}

-- Answering a query that is given by its text, and returning the ranges that were walked. If the
-- bytes aren't a query, nothing happens.
abbrev pub ReturnsWays : Sitting → Sitting → List ℕ → List ℕ → List ℕ → ℕ → ℕ → Type 0
ReturnsWays s t text places filled count code =
    ((e : Fault) × Refuses e count code × IsNoQuery text e × (t ≡ s))
    ⊎ ((query : Formula) × IsTextOf text query × HasRead s.knows t.knows
    × ((shown : List ℕ) × ShowsWays (volume_pinned s.knows) shown
    × PutsOutAtPin (pinned_number s.knows.phase)
    (if_answered shown (scan (volume_pinned s.knows) query)) places filled count code))
