-- Which step each call of a pass is, what the pass knows after each call, and what the journal says
-- at the end.
use Rattle.std.specs.Prelude.{◌≡◌, ℕ, ◌-◌, All, List, [], ◌∷◌, map, Some, IfSome, slice_get}
use Rattle.std.specs.Prelude.{take}
use Rattle.be_journal.specs.declared.entries.Entry.{Entry}
use Rattle.be_journal.specs.Journal.{replay_from}
use Rattle.be_table.specs.declared.pass.Knowledge.{Knowledge}
use Rattle.be_table.specs.History.{StartsWith}
use Rattle.be_table.specs.Rule.{entries}
use Rattle.be_table.specs.Steps.{IsPass, entry_by}
use Rattle.be_table.specs.Trace.{HasTrace}
use Rattle.be_table.specs.Setting.{Setting as Limits}
use Rattle.be_table.specs.declared.pass.Move.{Move}
use Rattle.be_volume.specs.declared.ops.Done.{Done}
use Rattle.be_volume.specs.declared.ops.Op.{Op}
use Rattle.be_store.specs.History.{Accepts, Learns, Pins, Unpins}
use Rattle.be_store.specs.Passes.{HasRead, IsPinnedTo, volume_pinned}
use Rattle.be_store.specs.SmallMachine.{PassView, Step, Apply, Learn, Pin, Unpin, Read}
use Rattle.be_store.specs.SmallMachine.{first_view}
use Rattle.be_store.specs.Views.{view_of, volume}

-- A call of a pass is this step, given what the pass knew before (a) and knows afterwards (c).
-- Every call of a store has one of these forms, except `refresh_changed`, which is two steps. Learn
-- covers a refused write, reading the journal or the status, meeting another pass, joining a
-- witness, and making a witness.
abbrev pub Call : Knowledge → Step volume → Knowledge → Type 0
Call a (Apply e n) c = (ops : List Op) × (dones : List Done) × (e ≡ entry_by a ops dones)
    × Accepts a c ops n dones
Call a (Learn log) c = Learns a c × (log ≡ entries c.seen)
Call a (Pin n) c = Pins a c n
Call a Unpin c = Unpins a c
Call a (Read q r) c = (n : ℕ) × IsPinnedTo a n
    × IfSome r (λ x. x ≡ volume.answer q (volume_pinned a)) × HasRead a c

-- Consecutive calls of a pass that are these steps. The pass knew a at first and knows z at the
-- end. The law `steps_are_shown` says that the steps include every accepted write, pin and unpin. A
-- read may be missing or may be listed as a Learn, because it changes only the pass's count of
-- steps.
abbrev pub Calls : Knowledge → List (Step volume) → Knowledge → Type 0
Calls a [] z = a ≡ z
Calls a (s ∷ steps) z = (c : Knowledge) × Call a s c × Calls c steps z

-- What the pass knew after each of these calls.
abbrev pub known_after : (a : Knowledge) (steps : List (Step volume)) (z : Knowledge)
    → Calls a steps z → List Knowledge
known_after a [] z calls = []
known_after a (s ∷ steps) z calls = calls.0 ∷ known_after calls.0 steps z calls.2

-- The steps of all calls of a pass, from the first to the last. Before the first call, the pass had
-- made no move and seen nothing.
pub record PassCalls : Type 0 where
  pub first : Knowledge
  pub steps : List (Step volume)
  pub last : Knowledge
  pub new : view_of first ≡ first_view volume first.limits.volume first.number
  pub fresh : first.history ≡ []
  pub made : Calls first steps last

-- The views after these calls.
abbrev pub views_known : PassCalls → List (PassView volume)
views_known p = map view_of (known_after p.first p.steps p.last p.made)

-- If a write of the pass was accepted with the number n, the n-th entry of the journal is by this
-- pass, with these operations and outcomes, whatever was called afterwards.
abbrev pub HasWrites : List Entry → Knowledge → Type 0
HasWrites log z = (a c : Knowledge) (steps : List (Step volume)) (ops : List Op) (n : ℕ)
    (dones : List Done) →
    Accepts a c ops n dones → Calls c steps z → slice_get log (n - 1) ≡ Some (entry_by a ops dones)

-- Whenever the pass was pinned to n, it read the volume after the first n entries of the journal.
abbrev pub ReadsFronts : List Entry → Knowledge → Type 0
ReadsFronts log z = (a : Knowledge) (steps : List (Step volume)) (n : ℕ) → IsPass a
    → IsPinnedTo a n → Calls a steps z → volume_pinned a
    ≡ replay_from a.limits.volume (take n log)

-- After each of its calls, the pass's history was a prefix of this list of moves.
abbrev pub HasFronts : List Move → Knowledge → Type 0
HasFronts trace z = (c : Knowledge) (steps : List (Step volume)) → Calls c steps z
    → StartsWith trace c.history

-- The calls of all passes are in one list of moves of the machine. After each call, the history of
-- its pass is a prefix of the list, and no move of a pass comes after its final history.
pub record AreInOneTrace (limits : Limits) (passes : List Knowledge) : Type 0 where
  pub has : HasTrace limits passes
  pub fronts : All (HasFronts has.trace) passes
