-- A table's report on itself.
use Rattle.std.specs.Prelude.{◌≡◌, ℕ, suc, ◌<◌, ◌≤◌, List, length, count_by, slice_index, Option}
use Rattle.std.specs.Prelude.{Some, None}
use Rattle.be_core.specs.Machine.{World}
use Rattle.be_pages.specs.declared.page_pool.Place.{Place}
use Rattle.be_pages.specs.Place.{is_free, is_retired}
use Rattle.be_table.specs.Setting.{Setting as Limits}
use Rattle.be_table.specs.declared.pass.Knowledge.{Knowledge}
use Rattle.be_table.specs.declared.pass.Move.{Move}
use Rattle.be_table.specs.declared.status.Announcement.{Announcement}
use Rattle.be_table.specs.declared.status.Status.{Status}
use Rattle.be_table.specs.WriterState.{ShowsPlaces}
use Rattle.be_table.specs.Steps.{AreFound}
use Rattle.be_table.specs.Trace.{RunsTo}

-- The lowest announced number, and the first pass that has announced it. Each pass's word is the
-- number that it has announced plus 1, or 0 if it has announced none.
abbrev pub IsOldest : List ℕ → Option Announcement → Type 0
IsOldest words None = (k : ℕ) → k < length words → slice_index words k ≡ 0
IsOldest words (Some o) =
    (o.pass < length words) × (slice_index words o.pass ≡ suc o.number)
    × ((k a : ℕ) → k < length words → slice_index words k ≡ suc a → (o.number ≤ a)
    × (k < o.pass → o.number < a))

-- the lowest of the numbers that a whole scan by pass k found, one after another, in the reader
-- slots
pub record FindsOldest (limits : Limits) (k : ℕ) (before after : List Move)
    (reported : Option Announcement) : Type 0 where
  pub found : List ℕ
  pub each : length found ≡ limits.passes
  pub by_scans : AreFound limits k before after found
  pub oldest : IsOldest found reported

-- after these moves the machine's pages are at these places
pub record LieAt (limits : Limits) (moves : List Move) (places : List Place) : Type 0 where
  pub words : ℕ → ℕ → ℕ
  pub world : World
  pub runs : RunsTo limits words moves world
  pub shown : ShowsPlaces places world

-- the figures of the status are those of the limits, of the pages as the pass knows them, and of
-- the journal that it has seen
pub record Reports (a : Knowledge) (s : Status) : Type 0 where
  pub pages : s.pages ≡ a.limits.pages
  pub free : s.free ≡ count_by is_free a.places
  pub retired : s.retired ≡ count_by is_retired a.places
  pub entries : s.entries ≡ length a.seen
  pub commits : s.commits ≡ a.limits.commits
