-- The store that a script runs on.
use Rattle.std.specs.Prelude.{◌≡◌, ◌≢◌, ◌⊎◌, ◌<◌, ◌≤◌, ℕ, List, [], ◌∷◌, ◌++◌, All, fold, length}
use Rattle.std.specs.Prelude.{nat_lt, if◌then◌else◌, IsOk, Some, None, refl}
use Rattle.std.specs.Coded.{Coded, code_by, coded_ℕ, coded_list, coded_option, coded×}
use Rattle.std.specs.Option.{option_map_or}
use Rattle.std.specs.declared.option.Option.{Option}
use Rattle.std.specs.declared.result.Result.{Result}
use Rattle.std.specs.declared.result.Result.TheVariants.{Ok, Err}
use Rattle.be_value.specs.declared.refusals.Refusal.{Refusal}
use Rattle.be_value.specs.declared.refusals.Refusal.TheVariants.{Busy, CommitsSpent, OutOfMemory}
use Rattle.be_value.specs.declared.refusals.Refusal.TheVariants.{Full}
use Rattle.be_volume.specs.Ahead.{state_after}
use Rattle.be_volume.specs.Volume.{State, coded_state, steps, empty}
use Rattle.be_volume.specs.declared.ops.Done.{Done}
use Rattle.be_volume.specs.declared.ops.Op.{Op}
use Rattle.be_journal.specs.declared.entries.Entry.{Entry}
use Rattle.be_journal.specs.Journal.{coded_entry}

-- a pinned version: the number of writes that it includes, and its volume
pub record PinnedVolume : Type 0 where
  pub number : ℕ
  pub volume : State

-- A store as its serving pass sees it. It contains the accepted writes, the volume after them, the
-- limit on their number, the number of passes, this pass's own number, and the version that this
-- pass has pinned, if any.
pub record Store : Type 0 where
  pub journal : List Entry
  pub volume : State
  pub limit : ℕ
  pub passes : ℕ
  pub pass : ℕ
  pub pin : Option PinnedVolume

abbrev pub coded_pin : Coded PinnedVolume
coded_pin = code_by _ (coded× coded_ℕ coded_state) (λ p. (p.number, p.volume))
    (λ q. record { number = q.0; volume = q.1 }) (λ _. refl)

abbrev pub coded_store : Coded Store
coded_store = code_by _ (coded× (coded_list coded_entry)
    (coded× coded_state (coded× coded_ℕ
    (coded× coded_ℕ (coded× coded_ℕ (coded_option coded_pin))))))
    (λ s. (s.journal, (s.volume, (s.limit, (s.passes, (s.pass, s.pin))))))
    (λ q. record {
      journal = q.0;
      volume = q.1.0;
      limit = q.1.1.0;
      passes = q.1.1.1.0;
      pass = q.1.1.1.1.0;
      pin = q.1.1.1.1.1;
    }) (λ _. refl)

-- a new store with one pass and no pin
abbrev pub start : ℕ → Store
start limit = record {
  journal = [];
  volume = empty;
  limit = limit;
  passes = 1;
  pass = 0;
  pin = None;
}

-- the store has a pass with this number, and it isn't this one
abbrev pub IsOther : Store → ℕ → Type 0
IsOther s k = (k < s.passes) × (k ≢ s.pass)

-- What the other passes may have done to the store: they append entries, and the volume is the one
-- after those entries.
pub record Joins (old new : Store) : Type 0 where
  pub others : List Entry
  pub theirs : All (λ e. IsOther old e.by) others
  pub store : new ≡ record old {
    journal = old.journal
        ++ others;
    volume = fold (λ v e. state_after v e.ops) old.volume others;
  }

-- The other passes may have written in the meantime, and P holds for the store as they left it.
pub record Meanwhile (old : Store) (P : Store → Type 0) : Type 0 where
  pub now : Store
  pub joins : Joins old now
  pub is : P now

-- the volume that reads see: the pinned volume, or the volume after all writes if none is pinned
abbrev pub viewed : Store → State
viewed s = option_map_or (λ (p : PinnedVolume). p.volume) s.pin s.volume

-- the store with the version after all writes pinned
abbrev pub pinned : Store → Store
pinned s = record s { pin = Some (record { number = length s.journal; volume = s.volume }) }

-- the store without a pin
abbrev pub unpinned : Store → Store
unpinned s = record s { pin = None }

-- the store after this pass's write, which the volume accepts with these outcomes; a pin is left in
-- place
abbrev pub entered : Store → List Op → State → List Done → Store
entered s ops volume dones = record s {
  journal = s.journal ++ record { by = s.pass; ops = ops; dones = dones }
      ∷ [];
  volume = volume;
}

-- A write. The volume's error takes precedence over that of a journal at its limit.
abbrev pub written_by : Store → List Op → Result (State × List Done) Refusal
    → Result (Store × List Done) Refusal
written_by s ops (Ok answer) = if nat_lt (length s.journal) s.limit
    then Ok (entered s ops answer.0 answer.1, answer.1) else Err CommitsSpent
written_by s ops (Err e) = Err e

abbrev pub written : Store → List Op → Result (Store × List Done) Refusal
written s ops = written_by s ops (steps s.volume ops)

-- the version that reads see, as the number of writes that it includes: the pinned version, or the
-- version after all writes
abbrev pub viewed_number : Store → ℕ
viewed_number s = option_map_or (λ (p : PinnedVolume). p.number) s.pin (length s.journal)

-- The oldest version that a full store reports is no later than the version that reads see. If
-- there is no other pass, it is that version.
abbrev pub IsLowestOf : Store → ℕ → Type 0
IsLowestOf s least = (least ≤ viewed_number s) × (s.passes ≡ 1 → least ≡ viewed_number s)

-- an error because memory ran out, or because pages ran out, with the oldest version in use
abbrev pub IsWant : Store → Refusal → Type 0
IsWant s e = (e ≡ OutOfMemory) ⊎ ((least : ℕ) × (e ≡ Full least) × IsLowestOf s least)

-- another pass was writing
abbrev pub IsBusy : Store → Refusal → Type 0
IsBusy s e = (pass : ℕ) × (e ≡ Busy pass) × IsOther s pass

-- An accepted write has the outcomes that the volume gives, and its commit number. OutOfMemory and
-- Full occur only for a write that the volume accepts. A refused write changes nothing.
abbrev pub MayWrite : {X : Type 0} → (X → List Done) → Store → List Op → Result (ℕ × X) Refusal
    → Store → Type 0
MayWrite outcomes_of old ops (Ok answer) new = (written old ops ≡ Ok (new, outcomes_of answer.1))
    × (answer.0 ≡ length new.journal)
MayWrite outcomes_of old ops (Err e) new = (new ≡ old)
    × ((written old ops ≡ Err e) ⊎ (IsWant old e × IsOk (written old ops)) ⊎ IsBusy old e)
