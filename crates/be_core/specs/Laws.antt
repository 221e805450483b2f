-- What the machine's laws say.
use Rattle.std.specs.Prelude.{◌≡◌, ℕ, suc, ◌<◌, ◌≤◌, List, map, Some, IsTrue, IsFalse, ◌||◌}
use Rattle.be_core.specs.declared.event.Event.{Event}
use Rattle.be_core.specs.declared.event.Event.TheVariants.{Look, Announce, LookAgain, Read, Unpin}
use Rattle.be_core.specs.declared.event.Event.TheVariants.{Lock, Scan, Fill, Publish, Unlock}
use Rattle.be_core.specs.declared.event.Phase.TheVariants.{Pinned}
use Rattle.be_core.specs.Machine.{World, Writer, Run, Move, happens, first_state, Unreached}
use Rattle.be_core.specs.Machine.{after_scan, MayScan, MayFill}

-- P holds after every schedule, from the first state of any size with any pages in version 0
-- and any words
abbrev pub Always : (World → Type 0) → Type 0
Always P = (pages used passes commits : ℕ) (words : ℕ → ℕ → ℕ) (moves : List Move) (w : World)
    → used ≤ pages
    → Run (first_state pages used passes commits words) moves w → P w

-- no page that a pinned version reaches may be filled
abbrev pub FillsNoPinned : World → Type 0
FillsNoPinned w = (k p i j a n : ℕ) → MayFill w k p i → w.phases j ≡ Pinned a n
    → IsFalse (w.reach n p)

-- After a scan of the last reader slot, each page that isn't reached by any version from the
-- minimum on is free or taken
abbrev pub LeavesNone : World → Event → World → Type 0
LeavesNone w (Scan k j) w' = suc j ≡ w.passes → (h : Writer) → w'.writer ≡ Some h
    → (p : ℕ) → p < w'.pages → Unreached w' h.least w'.current p → IsTrue (w'.free p || w'.taken p)
LeavesNone w (Look k) w' = Unit {0}
LeavesNone w (Announce k) w' = Unit {0}
LeavesNone w (LookAgain k) w' = Unit {0}
LeavesNone w (Read k p i) w' = Unit {0}
LeavesNone w (Unpin k) w' = Unit {0}
LeavesNone w (Lock k) w' = Unit {0}
LeavesNone w (Fill k p i word) w' = Unit {0}
LeavesNone w (Publish k v given) w' = Unit {0}
LeavesNone w (Unlock k) w' = Unit {0}

abbrev pub ScanLeavesNone : World → Type 0
ScanLeavesNone w = (k j : ℕ) → MayScan w k j → LeavesNone w (Scan k j) (after_scan w j)

-- every list of events has a run from every state
abbrev pub EachScheduleRuns : Type 0
EachScheduleRuns = (w : World) (events : List Event) → (w' : World) × Run w (map happens events) w'
