-- What C gets of the answer of a prepared query.
use Rattle.std.proofs.Common.{◌≡◌, ℕ, List, [], length, Result, Ok, Err, inl, inr}
use Rattle.std.specs.Prelude.{IfErr, OnOk}
use Rattle.be_session.specs.Prepared.{PreparedQuery, with_found}
use Rattle.be_session.specs.Sitting.{IsUnrefreshed, Sitting}
use Rattle.be_session.specs.declared.faults.Fault.{Fault}
use Rattle.be_store.specs.Passes.{IsPinnedTo, volume_pinned}
use Rattle.be_table.specs.Seats.{pinned_number}
use Rattle.be_volume.specs.Query.{scan}
use Rattle.bestore_c.specs.Calls.{Asked, Refuses}
use Rattle.bestore_c.specs.Places.{over}

-- A prepared query was run.
pub asked : {T : Type 0} (s : Sitting) (p q : PreparedQuery) (places filled : List ℕ) (count code : ℕ) (answer : Result T Fault)
    → q ≡ with_found p q.found → OnOk answer (scan (volume_pinned s.knows) p.live.query ≡ Ok q.found) → OnOk answer ((n : ℕ) × IsPinnedTo s.knows n)
    → IfErr answer (λ e. (q.found ≡ []) × IsUnrefreshed (pinned_number s.knows.phase) (scan (volume_pinned s.knows) p.live.query) e)
    → OnOk answer ((code ≡ 0) × (count ≡ length q.found) × (filled ≡ over q.found places)) → IfErr answer (λ e. Refuses e count code)
    → Asked s p q places filled count code
asked s p q places filled count code (Ok x) same nodes pin err found refused = (same, inl (found.0, pin.0, pin.1, nodes, found.1, found.2))
asked s p q places filled count code (Err e) same nodes pin err found refused = (same, inr (e, refused, err.0, err.1))
