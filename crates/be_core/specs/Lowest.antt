-- What a write's scans find: the minimum of the current number and the numbers in the reader slots.
use Rattle.std.specs.Prelude.{◌≡◌, ◌≢◌, ◌⊎◌, ℕ, suc, ◌≤◌, List, [], ◌∷◌, All, Contains, Option}
use Rattle.std.specs.Prelude.{Some, None}
use Rattle.be_core.specs.declared.event.Phase.{Phase}
use Rattle.be_core.specs.declared.event.Phase.TheVariants.{Idle, Looked, Announced, Pinned}
use Rattle.be_core.specs.declared.event.Event.TheVariants.{Scan}
use Rattle.be_core.specs.Machine.{World, Writer, Move, happens, Run, MayScan, after_scan}

-- the number that a pass in this phase has in its reader slot
abbrev pub announced : Phase → Option ℕ
announced Idle = None
announced (Looked a) = None
announced (Announced a) = Some a
announced (Pinned a n) = Some a

-- the minimum of the number c and the numbers read from reader slots
pub record IsLowest (least c : ℕ) (read : List (Option ℕ)) : Type 0 where
  pub below_start : least ≤ c
  pub below_each : (a : ℕ) → Contains read (Some a) → least ≤ a
  pub among : (least ≡ c) ⊎ Contains read (Some least)

-- none of the moves is a scan
abbrev pub NoScan : List Move → Type 0
NoScan moves = All (λ m. (k j : ℕ) → m ≢ happens (Scan k j)) moves

-- Pass k makes its scans from the j-th to the last, with any other moves between them, and finds
-- these numbers in the reader slots
abbrev pub ScansFrom : World → ℕ → ℕ → List (Option ℕ) → World → Type 0
ScansFrom w k j [] w' = (j ≡ w.passes) × (w' ≡ w)
ScansFrom w k j (a ∷ read) w' =
    (between : List Move) × (mid : World) × NoScan between × Run w between mid × MayScan mid k j
    × (a ≡ announced (mid.phases j))
    × ScansFrom (after_scan mid j) k (suc j) read w'

-- A whole scan that begins in w. The lock isn't released during it, because the first scan after a
-- lock has number 0
abbrev pub WholeScan : World → ℕ → List (Option ℕ) → World → Type 0
WholeScan w k [] w' = ⊥
WholeScan w k (a ∷ read) w' = MayScan w k 0 × (a ≡ announced (w.phases 0))
    × ScansFrom (after_scan w 0) k 1 read w'

-- a whole scan leaves the minimum of the number that was current when it began and the numbers that
-- it read from reader slots
abbrev pub FindsLowest : Type 0
FindsLowest = (w w' : World) (k : ℕ) (read : List (Option ℕ)) → WholeScan w k read w'
    → (h : Writer) × (w'.writer ≡ Some h) × IsLowest h.least w.current read
