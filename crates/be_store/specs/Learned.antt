-- What a pass does after it has learned of commits by other passes.
use Rattle.std.specs.Prelude.{ℕ, ◌<◌, ◌≤◌, List, length}
use Rattle.be_table.specs.History.{StartsWith}
use Rattle.be_table.specs.declared.pass.Commit.{Commit}
use Rattle.be_table.specs.declared.pass.Knowledge.{Knowledge}
use Rattle.be_volume.specs.declared.ops.Done.{Done}
use Rattle.be_volume.specs.declared.ops.Op.{Op}
use Rattle.be_store.specs.Calls.{Calls}
use Rattle.be_store.specs.History.{Accepts, Pins}
use Rattle.be_store.specs.SmallMachine.{Step}
use Rattle.be_store.specs.Views.{volume}

-- The call after which its pass knew `c` ended before the call after which its pass knew `d`, in
-- one list of moves, because the history of `c` is a prefix of the history of `d`.
abbrev pub EndedBefore : Knowledge → Knowledge → Type 0
EndedBefore c d = StartsWith d.history c.history

-- Everything that the pass does from here on comes after these commits. Each pin names a prefix of
-- the journal that includes them, and each accepted write has a later number.
pub record ComesAfter (reported : List Commit) (d : Knowledge) : Type 0 where
  pub pins : (a z : Knowledge) (steps : List (Step volume)) (n : ℕ) → Calls d steps a → Pins a z n
      → StartsWith z.seen reported × (length reported ≤ n)
  pub writes : (a z : Knowledge) (steps : List (Step volume)) (ops : List Op) (n : ℕ)
      (dones : List Done) → Calls d steps a → Accepts a z ops n dones → StartsWith z.seen reported
      × (length reported < n)
