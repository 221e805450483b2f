-- Conditional writes, which are made only if the journal has as many entries as the caller expects.
use Rattle.std.specs.Prelude.{◌≡◌, ◌≢◌, ◌⊎◌, ℕ, ◌+◌, Bool, false, List, [], ◌∷◌, length}
use Rattle.std.specs.Prelude.{MatchResult}
use Rattle.std.specs.declared.result.Result.{Result}
use Rattle.std.specs.declared.result.Result.TheVariants.{Ok, Err}
use Rattle.be_journal.specs.Journal.{Agrees}
use Rattle.be_table.specs.Steps.{entry_by}
use Rattle.be_table.specs.Trace.{Makes}
use Rattle.be_table.specs.Works.{FoundHeld}
use Rattle.be_table.specs.declared.pass.Knowledge.{Knowledge}
use Rattle.be_table.specs.declared.pass.Move.{Move}
use Rattle.be_table.specs.declared.pass.Move.TheVariants.{Lock, Unlock}
use Rattle.be_volume.specs.declared.ops.Done.{Done}
use Rattle.be_volume.specs.declared.ops.Op.{Op}
use Rattle.be_store.specs.History.{Accepts, IsHeldThrough, IsRefusedAt, Learns, LocksOnly}
use Rattle.be_store.specs.History.{is_busy}
use Rattle.be_store.specs.Passes.{IsPinnedTo, volume_pinned}
use Rattle.be_store.specs.Writing.{IsHeldBack, Publishes}
use Rattle.be_store.specs.declared.conditional.ApplyIfError.{ApplyIfError}
use Rattle.be_store.specs.declared.conditional.ApplyIfError.TheVariants.{Conflict, Refused}

-- An accepted write that is based on a read. Its entry comes right after the first `number`
-- entries. If the pass was pinned to these, it has written to exactly the volume that it read.
pub record AcceptsAt (a c : Knowledge) (number : ℕ) (ops : List Op) (n : ℕ) (dones : List Done) :
    Type 0 where
  pub accepts : Accepts a c ops n dones
  pub next : n ≡ number + 1
  pub read : IsPinnedTo a number → Agrees (volume_pinned a) (entry_by a ops dones)

-- Another write came first, and the pass has then seen the whole journal. The journal's length is
-- the length that was found, which isn't the one that the caller passed. The pass took the lock and
-- released it, and did nothing in between.
pub record IsConflict (a c : Knowledge) (number found : ℕ) : Type 0 where
  pub learns : Learns a c
  pub found_is : found ≡ length c.seen
  pub other : found ≢ number
  pub locked : List Move
  pub lock : Makes a.number a.history (Lock a.number ∷ []) locked
  pub unlock : Makes a.number locked (Unlock a.number ∷ []) c.history

-- The reason why a conditional write was not made. `Busy` takes precedence; any other refusal means
-- that the journal had the length that the caller passed.
abbrev pub IsUnapplied : (a c : Knowledge) → ℕ → List Op → ApplyIfError → Type 0
IsUnapplied a c number ops (Conflict found) = IsConflict a c number found
IsUnapplied a c number ops (Refused e) = Learns a c
    × ((FoundHeld e a c × (c.seen ≡ a.seen))
    ⊎ (IsRefusedAt c ops e × (length c.seen ≡ number) × LocksOnly a c))

-- Whether the write failed because another pass held the lock.
abbrev pub was_held : {X : Type 0} → Result X ApplyIfError → Bool
was_held (Ok x) = false
was_held (Err (Conflict found)) = false
was_held (Err (Refused e)) = is_busy e

-- The reason why a conditional write that is attempted up to `tries` times was not made. Either
-- every attempt found that another pass held the lock, and `Busy` names the last one, or the write
-- got the lock and was refused.
abbrev pub IsLastUnapplied : ℕ → (a c : Knowledge) → ℕ → List Op → ApplyIfError → Type 0
IsLastUnapplied tries a c number ops (Conflict found) = IsConflict a c number found
IsLastUnapplied tries a c number ops (Refused e) = Learns a c
    × (IsHeldThrough tries a c e
    ⊎ (IsRefusedAt c ops e × (length c.seen ≡ number) × LocksOnly a c))

-- The reason why a conditional write that has the lock isn't made. Either the journal has a
-- different length, and nothing has changed, or the write is refused.
abbrev pub IsHeldBackIf : (w v : Knowledge) → ℕ → List Op → ApplyIfError → Type 0
IsHeldBackIf w v number ops (Conflict found) = (v ≡ w) × (found ≡ length w.seen) × (found ≢ number)
IsHeldBackIf w v number ops (Refused e) = IsHeldBack w v ops e × (length w.seen ≡ number)

-- What a conditional write that has the lock returns.
abbrev pub WritesIf : Knowledge → Knowledge → ℕ → List Op → List Done → Result ℕ ApplyIfError
    → Type 0
WritesIf w v number ops dones result = MatchResult result
    (λ n. Publishes w v ops n dones × (length w.seen ≡ number)) (λ e. IsHeldBackIf w v number ops e)
