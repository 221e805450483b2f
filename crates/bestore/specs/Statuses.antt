-- The exit status of each outcome, as in bestore(1).
use Rattle.std.specs.Prelude.{ℕ}
use Rattle.bestore.specs.declared.outcomes.Outcome.{Outcome}
use Rattle.bestore.specs.declared.outcomes.Outcome.TheVariants.{Done, Refused, Wrong, Failed}
use Rattle.bestore.specs.declared.outcomes.Outcome.TheVariants.{Misused}

abbrev pub status_of : Outcome → ℕ
status_of Done = 0
status_of Refused = 1
status_of Wrong = 1
status_of Failed = 1
status_of Misused = 2
