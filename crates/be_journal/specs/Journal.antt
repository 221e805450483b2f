-- The journal, its replay, and the condition for it to be legal.
use Rattle.std.specs.Prelude.{◌≡◌, ◌<◌, ◌≤◌, ◌⊎◌, ℕ, List, [], ◌∷◌, ◌++◌, length, take, get_or}
use Rattle.std.specs.Prelude.{fold, filter, refl, nat_eq, All, Some, None}
use Rattle.std.specs.Coded.{Coded, code_by, coded_ℕ, coded_list, coded×}
use Rattle.std.specs.declared.option.Option.{Option}
use Rattle.std.specs.declared.result.Result.{Result}
use Rattle.std.specs.declared.result.Result.TheVariants.{Ok, Err}
use Rattle.be_value.specs.declared.refusals.Refusal.{Refusal}
use Rattle.be_value.specs.declared.refusals.Refusal.TheVariants.{CommitsSpent, OutOfMemory}
use Rattle.be_volume.specs.Ahead.{state_after}
use Rattle.be_volume.specs.Sound.{IsOperation}
use Rattle.be_volume.specs.Volume.{State, empty, steps}
use Rattle.be_journal.specs.declared.entries.Entry.{Entry}
use Rattle.be_volume.specs.Coded.{coded_op, coded_done}

abbrev pub coded_entry : Coded Entry
coded_entry = code_by _ (coded× coded_ℕ (coded× (coded_list coded_op) (coded_list coded_done)))
    (λ e. (e.by, (e.ops, e.dones)))
    (λ p. record { by = p.0; ops = p.1.0; dones = p.1.1 }) (λ _. refl)

-- The maximum number of entries in a journal, its entries, and the number of operations for which
-- room is reserved (0 if none is).
pub record Log : Type 0 where
  pub limit : ℕ
  pub entries : List Entry
  pub reserved : ℕ

abbrev pub coded_log : Coded Log
coded_log = code_by _ (coded× coded_ℕ (coded× (coded_list coded_entry) coded_ℕ))
    (λ l. (l.limit, (l.entries, l.reserved)))
    (λ p. record { limit = p.0; entries = p.1.0; reserved = p.1.1 }) (λ _. refl)

-- the log with one more entry and no reservation
abbrev pub extended : Log → Entry → Log
extended log entry = record { limit = log.limit; entries = log.entries ++ entry ∷ []; reserved = 0 }

abbrev pub with_room : Log → ℕ → Log
with_room log count = record { limit = log.limit; entries = log.entries; reserved = count }

-- the log couldn't grow: either it is at its limit, or it is below its limit and memory ran out
abbrev pub IsRefused : Log → Refusal → Type 0
IsRefused log e = ((e ≡ CommitsSpent) × (length log.entries ≡ log.limit))
    ⊎ ((e ≡ OutOfMemory) × (length log.entries < log.limit))

-- The log was below its limit and grew into the new log, or nothing changed.
abbrev pub Grows : {X : Type 0} → Log → Log → Result X Refusal → Log → Type 0
Grows old grown (Ok x) new = (new ≡ grown) × (length old.entries < old.limit)
Grows old grown (Err e) new = (new ≡ old) × IsRefused old e

-- The volume after the entries, in order, from this volume on. If the volume refuses an entry, no
-- part of that entry takes effect.
abbrev pub replay_from : State → List Entry → State
replay_from base entries = fold (λ s entry. state_after s entry.ops) base entries

-- the same from the empty volume on
abbrev pub replay : List Entry → State
replay entries = replay_from empty entries

-- the entry has the outcomes that the volume gives
abbrev pub Agrees : State → Entry → Type 0
Agrees s entry = (next : State) × (steps s entry.ops ≡ Ok (next, entry.dones))

-- from this volume on, no entry is refused, and each has the outcomes that the volume gives after
-- the entries before it
abbrev pub IsLegalFrom : State → List Entry → Type 0
IsLegalFrom base entries = (i : ℕ) (entry : Entry) → i < length entries
    → entry ≡ get_or entries i entry → Agrees (replay_from base (take i entries)) entry

-- the same from the empty volume on
abbrev pub IsLegal : List Entry → Type 0
IsLegal entries = IsLegalFrom empty entries

-- the index of the first entry whose outcomes aren't those that the volume gives after the entries
-- before it; None if the journal is legal
abbrev pub IsFirstWrong : List Entry → Option ℕ → Type 0
IsFirstWrong entries None = IsLegal entries
IsFirstWrong entries (Some i) = (i < length entries) × IsLegal (take i entries)
    × ((entry : Entry) → entry ≡ get_or entries i entry → Agrees (replay (take i entries)) entry
    → ⊥)

-- an entry has 1 to 64 operations, and an outcome for each
abbrev pub IsEntry : Entry → Type 0
IsEntry entry = (1 ≤ length entry.ops) × (length entry.ops ≤ 64)
    × (length entry.dones ≡ length entry.ops)

-- an entry has at most 64 operations, with valid names and values
abbrev pub HasOperations : Entry → Type 0
HasOperations entry = (length entry.ops ≤ 64) × All IsOperation entry.ops

-- the pass's entries, in order
abbrev pub by_pass : ℕ → List Entry → List Entry
by_pass pass entries = filter (λ entry. nat_eq entry.by pass) entries
