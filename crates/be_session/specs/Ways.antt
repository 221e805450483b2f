-- The text of the ranges that an answer walked.
use Rattle.std.specs.Prelude.{ℕ, List, All, Ok, Err}
use Rattle.std.specs.declared.result.Result.{Result}
use Rattle.be_value.specs.declared.refusals.Refusal.{Refusal}
use Rattle.be_volume.specs.Volume.{State}
use Rattle.be_ways.specs.Text.{AreLines}
use Rattle.be_ways.specs.Ways.{IsWay}
use Rattle.be_ways.specs.declared.way.Way.{Way}

-- The text has a line for each of some ways in the volume.
abbrev pub ShowsWays : State → List ℕ → Type 0
ShowsWays volume text = (ways : List Way) × All (IsWay volume) ways × AreLines ways text

-- The text, if the query has an answer, or the reason why it has none.
abbrev pub if_answered : List ℕ → Result (List ℕ) Refusal → Result (List ℕ) Refusal
if_answered text (Ok nodes) = Ok text
if_answered text (Err e) = Err e
