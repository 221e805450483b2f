-- What a pin's number says about the phase.
use Rattle.std.proofs.Common.{◌≡◌, ℕ, Some, None, refl}
use Rattle.be_core.specs.declared.event.Phase.{Phase}
use Rattle.be_core.specs.declared.event.Phase.TheVariants.{Idle, Looked, Announced, Pinned}
use Rattle.be_table.specs.Seats.{pinned_number}
use Rattle.be_table_tests.specs.Resting.{IsAtRest}

pub idle_at_rest : (p : Phase) → IsAtRest p → pinned_number p ≡ None → p ≡ Idle
idle_at_rest Idle rests e = refl
idle_at_rest (Looked a) rests e = absurd rests
idle_at_rest (Announced a) rests e = absurd rests
idle_at_rest (Pinned a m) rests e = absurd cc

pub pinned_phase : (p : Phase) (n : ℕ) → pinned_number p ≡ Some n → (x : ℕ) × (m : ℕ) × (p ≡ Pinned x m)
pinned_phase Idle n e = absurd cc
pinned_phase (Looked a) n e = absurd cc
pinned_phase (Announced a) n e = absurd cc
pinned_phase (Pinned a m) n e = (a, m, refl)
