-- How a call changes what its pass knows: what it has seen of the journal, its own writes, and its
-- pin.
use Rattle.std.specs.Prelude.{◌≡◌, ◌≢◌, ◌⊎◌, ℕ, ◌+◌, ◌<◌, Bool, true, false, List, [], ◌∷◌, ◌++◌}
use Rattle.std.specs.Prelude.{drop, length, take, IsOk}
use Rattle.std.specs.declared.result.Result.{Result}
use Rattle.std.specs.declared.result.Result.TheVariants.{Ok, Err}
use Rattle.be_journal.specs.declared.entries.Entry.{Entry}
use Rattle.be_journal.specs.Journal.{Agrees, by_pass, replay_from}
use Rattle.be_journal.specs.Text.{lines_from}
use Rattle.be_pages.specs.Refusal.{IsFullOf}
use Rattle.be_table.specs.declared.pass.Commit.{Commit}
use Rattle.be_table.specs.declared.pass.Knowledge.{Knowledge}
use Rattle.be_table.specs.History.{StartsWith}
use Rattle.be_table.specs.Rule.{Reaches, entries}
use Rattle.be_table.specs.Steps.{entry_by, unpins, with_history}
use Rattle.be_table.specs.Trace.{Makes}
use Rattle.be_table.specs.Working.{WorksOn}
use Rattle.be_table.specs.declared.pass.Move.{Move}
use Rattle.be_table.specs.declared.pass.Move.TheVariants.{Look, Announce, LookAgain, Lock, Publish}
use Rattle.be_table.specs.declared.pass.Move.TheVariants.{Unlock, Unpin}
use Rattle.be_table.specs.Works.{MovesNow, FoundHeld, HasNoRoom}
use Rattle.be_value.specs.declared.refusals.Refusal.{Refusal}
use Rattle.be_value.specs.declared.refusals.Refusal.TheVariants.{Busy, OutOfMemory}
use Rattle.be_volume.specs.Volume.{steps}
use Rattle.be_volume.specs.declared.ops.Done.{Done}
use Rattle.be_volume.specs.declared.ops.Op.{Op}
use Rattle.be_store.specs.Capacity.{IsShort}
use Rattle.be_store.specs.Passes.{IsPinnedTo, volume_seen}

-- The moves of an accepted write. The pass takes the lock, works on pages, publishes this version
-- page in one move, and releases the lock. If there is a whole scan, it comes right after the lock
-- is taken, or when no page is free. Moves of other passes may come in between. Afterwards the
-- machine is in the state that the pass knows.
pub record PublishesOnce (a c : Knowledge) (page : ℕ) : Type 0 where
  pub locked : List Move
  pub lock : Makes a.number a.history (Lock a.number ∷ []) locked
  pub worked : List Move
  pub work : WorksOn a.limits a.number locked worked
  pub given : List ℕ
  pub publish : Makes a.number worked (Publish a.number page given ∷ Unlock a.number ∷ []) c.history
  pub at : Reaches c (λ w. Unit {0})

-- The moves of a call that took the lock, worked on pages, published nothing, and released the
-- lock.
pub record LocksOnly (a c : Knowledge) : Type 0 where
  pub locked : List Move
  pub lock : Makes a.number a.history (Lock a.number ∷ []) locked
  pub worked : List Move
  pub work : WorksOn a.limits a.number locked worked
  pub unlock : Makes a.number worked (Unlock a.number ∷ []) c.history

-- The pass took the lock and released it, and made no other move.
abbrev pub LocksAndUnlocks : Knowledge → Knowledge → Type 0
LocksAndUnlocks a c = Makes a.number a.history (Lock a.number ∷ Unlock a.number ∷ []) c.history

-- The pass either made no move, or only took the lock and released it.
abbrev pub LocksAtMostOnce : Knowledge → Knowledge → Type 0
LocksAtMostOnce a c = (c.history ≡ a.history) ⊎ LocksAndUnlocks a c

-- An accepted write of the pass. The pass has now seen what it had seen before, then entries of
-- other passes, and then its own entry. The outcomes are those that the volume returns at that
-- point.
pub record Accepts (a c : Knowledge) (ops : List Op) (n : ℕ) (dones : List Done) : Type 0 where
  pub others : List Commit
  pub commit : Commit
  pub seen : c.seen ≡ (a.seen ++ others) ++ commit ∷ []
  pub entry : commit.entry ≡ entry_by a ops dones
  pub apart : by_pass a.number (entries others) ≡ []
  pub answered : Agrees (replay_from a.limits.volume (entries (a.seen ++ others)))
      (entry_by a ops dones)
  pub number : n ≡ length c.seen
  pub mine : c.mine ≡ a.mine ++ entry_by a ops dones ∷ []
  pub pass : c.number ≡ a.number
  pub limits : c.limits ≡ a.limits
  pub pin : c.phase ≡ a.phase
  pub moves : PublishesOnce a c commit.page

-- The pass may have seen more, but it has written nothing. It made no move, or took the lock and
-- released it.
pub record Learns (a c : Knowledge) : Type 0 where
  pub more : StartsWith c.seen a.seen
  pub mine : c.mine ≡ a.mine
  pub pass : c.number ≡ a.number
  pub limits : c.limits ≡ a.limits
  pub pin : c.phase ≡ a.phase
  pub moves : (c.history ≡ a.history) ⊎ LocksOnly a c

-- The reason why a pass that holds the lock is refused, once it has seen this much of the journal.
-- Either the volume at that point refuses the write, or it accepts the write but the journal has no
-- room, or it accepts the write but no page is free.
abbrev pub IsRefusedAt : (c : Knowledge) (ops : List Op) → Refusal → Type 0
IsRefusedAt c ops e =
    (steps (volume_seen c) ops ≡ Err e)
    ⊎ (IsOk (steps (volume_seen c) ops) × HasNoRoom e c)
    ⊎ (IsOk (steps (volume_seen c) ops) × (length c.seen < c.limits.commits)
    × IsFullOf (IsShort c ops) e)

-- The reason why a write is refused. Either its only attempt found that another pass held the lock,
-- and the pass saw nothing more, or the pass took the lock, was refused, and released the lock.
abbrev pub IsReason : (a c : Knowledge) (ops : List Op) → Refusal → Type 0
IsReason a c ops e = (FoundHeld e a c × (c.seen ≡ a.seen)) ⊎ (IsRefusedAt c ops e × LocksOnly a c)

-- Whether the refusal says that another pass holds the lock.
abbrev pub is_busy : Refusal → Bool
is_busy (Busy b) = true
is_busy e = false

-- Whether the write failed because another pass held the lock.
abbrev pub was_busy : {X : Type 0} → Result X Refusal → Bool
was_busy (Ok x) = false
was_busy (Err e) = is_busy e

-- The pass after failed attempts that found the lock held by these passes, most recent first.
abbrev pub tried : Knowledge → List ℕ → Knowledge
tried a writers = record a { writers = writers ++ a.writers; steps = a.steps + length writers }

-- Each of `tries` attempts found that another pass held the lock, and saw nothing more. The refusal
-- names the last of these passes.
abbrev pub IsHeldThrough : ℕ → (a c : Knowledge) → Refusal → Type 0
IsHeldThrough tries a c e = (b : ℕ) × (before : List ℕ) × (e ≡ Busy b) × (b < a.limits.passes)
    × (b ≢ a.number) × (length before + 1 ≡ tries) × (c ≡ tried a (b ∷ before))

-- The reason why a write that is attempted up to `tries` times is refused. Either every attempt
-- found that another pass held the lock, or one attempt took the lock, was refused, and released
-- the lock.
abbrev pub IsLastReason : ℕ → (a c : Knowledge) (ops : List Op) → Refusal → Type 0
IsLastReason tries a c ops e = IsHeldThrough tries a c e ⊎ (IsRefusedAt c ops e × LocksOnly a c)

-- The pass is pinned to everything that it has now seen. It made three steps, which are the moves
-- Look, Announce and LookAgain of the reclamation machine.
pub record Pins (a c : Knowledge) (n : ℕ) : Type 0 where
  pub more : StartsWith c.seen a.seen
  pub number : n ≡ length c.seen
  pub pin : IsPinnedTo c n
  pub moves : MovesNow a (Look a.number ∷ Announce a.number ∷ LookAgain a.number ∷ []) c
  pub same : c ≡ record a {
    seen = c.seen;
    phase = c.phase;
    image = c.image;
    steps = a.steps
        + 3;
    history = c.history;
  }

-- The pass is no longer pinned. It made one step, which is the move Unpin of the reclamation
-- machine.
abbrev pub Unpins : Knowledge → Knowledge → Type 0
Unpins a c = (c ≡ unpins (with_history a c.history))
    × Makes a.number a.history (Unpin a.number ∷ []) c.history

-- The journal's text as far as the pass has seen it.
abbrev pub text_seen : Knowledge → List ℕ
text_seen a = lines_from 1 (entries a.seen)

-- Up to `most` entries, starting at an index.
abbrev pub entries_from : List Entry → ℕ → ℕ → List Entry
entries_from log from most = take most (drop from log)

-- The reason why the journal isn't returned. Either the only attempt found that another pass held
-- the lock, and the pass saw nothing more, or memory ran out between taking and releasing the lock.
abbrev pub IsUnreported : (a c : Knowledge) → Refusal → Type 0
IsUnreported a c e = (FoundHeld e a c × (c.seen ≡ a.seen))
    ⊎ ((e ≡ OutOfMemory) × LocksAndUnlocks a c)
