-- What holds for each seat.
use Rattle.std.specs.Prelude.{◌≡◌, ℕ, ◌<◌, Bool, true, false, List, [], ◌∷◌, length, Option, Some}
use Rattle.std.specs.Prelude.{None}
use Rattle.be_core.specs.declared.event.Phase.{Phase}
use Rattle.be_core.specs.declared.event.Phase.TheVariants.{Idle, Looked, Announced, Pinned}
use Rattle.be_table.specs.declared.marks.Marks.{Marks}
use Rattle.be_table.specs.declared.marks.PinnedVersion.{PinnedVersion}
use Rattle.be_table.specs.declared.pass.Commit.{Commit}
use Rattle.be_table.specs.declared.pass.Knowledge.{Knowledge}
use Rattle.be_table.specs.declared.pass.View.{View}
use Rattle.be_table.specs.declared.seat.Seat.TheInside.{Inside}
use Rattle.be_table.specs.Place.{SeatFacts}
use Rattle.be_table.specs.Rule.{pass_of, nobody, alone, page_at}
use Rattle.be_table.specs.Steps.{IsPass}

abbrev pub is_vacant : List View → Bool
is_vacant [] = true
is_vacant (v ∷ vs) = false

abbrev pub known_of : List View → Knowledge
known_of [] = nobody
known_of (v ∷ vs) = pass_of v

abbrev pub facts_of : Inside → SeatFacts
facts_of s = record {
  blank = is_vacant s.badge.views;
  table = s.badge.table_id;
  knows = known_of s.badge.views;
}

-- the seat's numbers are those of its pass, which doesn't hold the lock
pub record IsReported (a : Knowledge) (number seen : ℕ) : Type 0 where
  pub number_is : a.number ≡ number
  pub seen_is : length a.seen ≡ seen
  pub writes : a.writes ≡ false
  pub pass : IsPass a

-- the number of the pinned version
abbrev pub pinned_number : Phase → Option ℕ
pinned_number Idle = None
pinned_number (Looked a) = None
pinned_number (Announced a) = None
pinned_number (Pinned a n) = Some n

-- the pinned version, with its version page
abbrev pub pin_of : Phase → List Commit → Option PinnedVersion
pin_of Idle seen = None
pin_of (Looked a) seen = None
pin_of (Announced a) seen = None
pin_of (Pinned a n) seen = Some record { number = n; page = page_at seen n }

abbrev pub IsSeated : List View → Marks → Type 0
IsSeated [] m = Unit {0}
IsSeated (v ∷ vs) m = ((v ∷ vs) ≡ alone (pass_of v) ∷ []) × IsReported (pass_of v) m.number m.seen
    × (m.pin ≡ pin_of (pass_of v).phase (pass_of v).seen)

abbrev pub IsPlaced : Inside → Type 0
IsPlaced s = (s.marks.number < 64) × IsSeated s.badge.views s.marks
