-- What C learns about how full a store is.
use Rattle.std.specs.Prelude.{◌≡◌, ◌⊎◌, ℕ, false, true, Some, None}
use Rattle.std.specs.declared.option.Option.{Option}
use Rattle.be_session.specs.Sitting.{Sitting}
use Rattle.be_session.specs.declared.faults.Fault.TheVariants.{Refused}
use Rattle.be_store.specs.History.{Learns}
use Rattle.be_store.specs.Statuses.{ReportsStatus}
use Rattle.be_table.specs.Works.{FoundHeld}
use Rattle.be_table.specs.declared.status.Announcement.{Announcement}
use Rattle.be_table.specs.declared.status.Status.{Status}
use Rattle.be_value.specs.declared.refusals.Refusal.{Refusal}
use Rattle.bestore_c.specs.Calls.{Refuses}
use Rattle.bestore_c.specs.declared.handle.Usage.{Usage}

-- The oldest published version, if there is one, with the pass that published it.
abbrev pub ShowsOldest : Option Announcement → Usage → Type 0
ShowsOldest None u = (u.is_held ≡ false) × (u.oldest ≡ 0) × (u.holder ≡ 0)
ShowsOldest (Some a) u = (u.is_held ≡ true) × (u.oldest ≡ a.number) × (u.holder ≡ a.pass)

-- The figures of a status.
pub record Shows (s : Status) (u : Usage) : Type 0 where
  pub pages : u.pages ≡ s.pages
  pub free : u.free ≡ s.free
  pub retired : u.retired ≡ s.retired
  pub entries : u.entries ≡ s.entries
  pub commits : u.commits ≡ s.commits
  pub oldest : ShowsOldest s.oldest u

-- The call returns what the store reports about how full it is. If another pass holds the lock, it
-- returns an error that names this pass.
abbrev pub ReportsUsage : Sitting → Sitting → Usage → ℕ → ℕ → Type 0
ReportsUsage s t usage number code =
    Learns s.knows t.knows
    × (((code ≡ 0) × (number ≡ 0) × (reported : Status) × ReportsStatus s.knows t.knows reported
    × Shows reported usage)
    ⊎ ((why : Refusal) × Refuses (Refused why) number code × FoundHeld why s.knows t.knows))
