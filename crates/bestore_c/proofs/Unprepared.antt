-- A query that the call couldn't prepare.
use Rattle.std.proofs.Common.{◌≡◌, ℕ, Option, Some, None, false}
use Rattle.std.proofs.lemmas.Bool.{true≢false}
use Rattle.be_query.specs.Grammar.{Formula}
use Rattle.be_session.specs.Fault.{fault_code}
use Rattle.be_session.specs.Prepared.{PreparedQuery}
use Rattle.be_session.specs.declared.faults.Fault.{Fault}
use Rattle.bestore_c.specs.Calls.{Prepares}
use Rattle.std.specs.Prelude.{is_some}

-- The handle of the query stays closed.
pub prepares_none : (is_meant : Formula → Type 0) (is_fault : Fault → ℕ → Type 0) (o : Option PreparedQuery) (e : Fault) (place code : ℕ) → is_some o ≡ false
    → code ≡ fault_code e → is_fault e place → Prepares is_meant is_fault o o place code
prepares_none is_meant is_fault None e place code lacking is why = (e, is, why)
prepares_none is_meant is_fault (Some q) e place code lacking is why = absurd (true≢false lacking)
