-- What a pass learns about how full the store is.
use Rattle.std.specs.Prelude.{List, [], ◌∷◌}
use Rattle.be_table.specs.declared.pass.Knowledge.{Knowledge}
use Rattle.be_table.specs.declared.pass.Move.{Move}
use Rattle.be_table.specs.declared.pass.Move.TheVariants.{Lock, Unlock}
use Rattle.be_table.specs.declared.status.Status.{Status}
use Rattle.be_table.specs.Rule.{Reaches}
use Rattle.be_table.specs.Statuses.{FindsOldest, LieAt, Reports}
use Rattle.be_table.specs.Steps.{scans_of}
use Rattle.be_table.specs.Trace.{Makes}

-- The pass takes the lock, reads each reader slot, and releases the lock. The numbers describe what
-- the pass has then seen and the pages as they are after the scan. The status also has the oldest
-- version that the scan found published in a reader slot.
pub record ReportsStatus (a c : Knowledge) (s : Status) : Type 0 where
  pub reports : Reports c s
  pub locked : List Move
  pub scanned : List Move
  pub lock : Makes a.number a.history (Lock a.number ∷ []) locked
  pub scans : Makes a.number locked (scans_of a.number a.limits.passes) scanned
  pub unlock : Makes a.number scanned (Unlock a.number ∷ []) c.history
  pub at : Reaches c (λ w. Unit {0})
  pub places : LieAt a.limits scanned c.places
  pub oldest : FindsOldest a.limits a.number locked scanned s.oldest
