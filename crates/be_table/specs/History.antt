-- What a pass has seen of a journal.
use Rattle.std.specs.Prelude.{◌≡◌, ℕ, ◌<◌, List, [], ◌∷◌, ◌++◌, All}
use Rattle.be_journal.specs.Journal.{IsLegalFrom, HasOperations}
use Rattle.be_journal.specs.declared.entries.Entry.{Entry}
use Rattle.be_volume.specs.Volume.{State}

-- log begins with seen
abbrev pub StartsWith : {A : Type 0} → List A → List A → Type 0
StartsWith {A} log seen = (rest : List A) × (log ≡ seen ++ rest)

-- each entry was written by one of `passes` passes
unfoldable pub AreOfPasses : ℕ → List Entry → Type 0
AreOfPasses passes [] = Unit {0}
AreOfPasses passes (e ∷ es) = (e.by < passes) × AreOfPasses passes es

-- a journal of the program's operations that is legal from this volume on
unfoldable pub IsHistory : State → List Entry → Type 0
IsHistory volume log = IsLegalFrom volume log × All HasOperations log
