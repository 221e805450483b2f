-- A store that its last session has closed.
use Rattle.std.specs.Prelude.{◌≡◌, ◌⊎◌, ◌<◌, ◌++◌, ℕ, All, List, ◌∷◌}
use Rattle.be_journal.specs.Journal.{IsLegalFrom, Log}
use Rattle.be_store.specs.Calls.{AreInOneTrace, HasWrites, ReadsFronts}
use Rattle.be_table.specs.History.{AreOfPasses}
use Rattle.be_table.specs.Setting.{Setting}
use Rattle.be_table.specs.Steps.{Has, KeepsSeen}
use Rattle.be_table.specs.Versions.{CanEncodeEach}
use Rattle.be_table.specs.declared.pass.Knowledge.{Knowledge}
use Rattle.be_value.specs.declared.refusals.Refusal.TheVariants.{OutOfMemory}
use Rattle.be_session.specs.Sitting.{Sitting}
use Rattle.be_session.specs.declared.faults.Fault.{Fault}
use Rattle.be_session.specs.declared.faults.Fault.TheVariants.{InUse, Refused}
use Rattle.be_session.specs.declared.finishing.Unfinished.{Unfinished}
use Rattle.be_session.specs.declared.finishing.Unfinished.TheVariants.{Kept, PassLost}

-- A store with this setting was closed with this journal, and its passes know this. There is one
-- pass for each number. The journal is legal from the store's first volume on, each entry is by a
-- pass of the store, and the volume after each entry fits into the pages. The journal begins with
-- what each pass has seen, and contains exactly the writes of each pass. Every accepted write is at
-- its commit number, and every pin was to a prefix of the journal. The moves of all calls lie in
-- one trace.
pub record IsClosedWith (limits : Setting) (passes : List Knowledge) (log : Log) : Type 0 where
  pub all : (k : ℕ) → k < limits.passes → Has passes k
  pub legal : IsLegalFrom limits.volume log.entries
  pub by : AreOfPasses limits.passes log.entries
  pub seen : KeepsSeen log.entries passes
  pub writes : All (HasWrites log.entries) passes
  pub reads : All (ReadsFronts log.entries) passes
  pub volumes : CanEncodeEach limits.pages limits.volume log.entries
  pub limit : log.limit ≡ limits.commits
  pub moves : AreInOneTrace limits passes

-- The store of a pass that knew this was closed with this journal.
abbrev pub IsFinishedBy : Setting → Knowledge → Log → Type 0
IsFinishedBy limits a log = (first : List Knowledge) × (rest : List Knowledge)
    × IsClosedWith limits (first ++ a ∷ rest) log

-- The session's store was closed with this journal.
abbrev pub IsFinished : Sitting → Log → Type 0
IsFinished s log = IsFinishedBy s.store.limits s.knows log

-- The reason why a session can't close its store. Either another session is open, or memory ran
-- out.
abbrev pub IsNotLast : Fault → Type 0
IsNotLast e = (e ≡ InUse) ⊎ (e ≡ Refused OutOfMemory)

-- The reason why the store wasn't closed. Either the session is unchanged, or it is gone together
-- with the store.
abbrev pub IsUnfinished : Sitting → Unfinished → Type 0
IsUnfinished s (Kept t e) = (t ≡ s) × IsNotLast e
IsUnfinished s PassLost = Unit {0}
