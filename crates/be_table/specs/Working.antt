-- What a pass does between its lock and its unlock, and when it scans.
use Rattle.std.specs.Prelude.{◌≡◌, ◌⊎◌, ℕ, zero, suc, List, [], ◌∷◌, ◌++◌, IsFalse}
use Rattle.be_core.specs.Machine.{World}
use Rattle.be_table.specs.Setting.{Setting as Limits}
use Rattle.be_table.specs.declared.pass.Move.{Move}
use Rattle.be_table.specs.declared.pass.Move.TheVariants.{Look, Announce, LookAgain, Unpin, Lock}
use Rattle.be_table.specs.declared.pass.Move.TheVariants.{Scan, Fill, Publish, Unlock, Return}
use Rattle.be_table.specs.Steps.{scans_of}
use Rattle.be_table.specs.Trace.{RunsTo, NoneBy, Makes, AreWork, upto_lock}

-- after these moves the machine has no free page
pub record HasNoneFree (limits : Limits) (moves : List Move) : Type 0 where
  pub words : ℕ → ℕ → ℕ
  pub world : World
  pub runs : RunsTo limits words moves world
  pub none : (p : ℕ) → IsFalse (world.free p)

-- A whole scan begins with the reader slot of pass 0, for the reason that the machine has no free
-- page. Other moves need no reason.
abbrev pub HasReason : Limits → List Move → Move → Type 0
HasReason limits before (Look j) = Unit {0}
HasReason limits before (Announce j) = Unit {0}
HasReason limits before (LookAgain j) = Unit {0}
HasReason limits before (Unpin j) = Unit {0}
HasReason limits before (Lock j) = Unit {0}
HasReason limits before (Scan j zero) = HasNoneFree limits before
HasReason limits before (Scan j (suc i)) = Unit {0}
HasReason limits before (Fill j p i word) = Unit {0}
HasReason limits before (Publish j page given) = Unit {0}
HasReason limits before (Unlock j) = Unit {0}
HasReason limits before (Return j p) = Unit {0}

-- Pass k makes these moves one after another, as in `Makes`, each with its reason.
abbrev pub MakesForReason : Limits → ℕ → List Move → List Move → List Move → Type 0
MakesForReason limits k old [] new = new ≡ old
MakesForReason limits k old (m ∷ ms) new = (others : List Move) × NoneBy k others
    × HasReason limits (old ++ others) m
    × MakesForReason limits k ((old ++ others) ++ m ∷ []) ms new

-- While it holds the lock, pass k extends its history from `old` to `new`. First it may make one
-- whole scan. Then it fills pages, returns pages and scans; each of these whole scans begins when
-- no page is free.
pub record WorksOn (limits : Limits) (k : ℕ) (old new : List Move) : Type 0 where
  pub first : List Move
  pub early : (first ≡ []) ⊎ (first ≡ scans_of k limits.passes)
  pub begun : List Move
  pub scanned : Makes k old first begun
  pub own : List Move
  pub work : AreWork k own
  pub made : MakesForReason limits k begun own new

-- since it took the lock, pass k has only scanned, filled and returned pages
abbrev pub HasWorked : Limits → ℕ → List Move → Type 0
HasWorked limits k history = WorksOn limits k (upto_lock k history) history
