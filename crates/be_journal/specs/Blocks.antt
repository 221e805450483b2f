-- Entries in blocks of bytes.
use Rattle.std.specs.Prelude.{◌≡◌, ◌<◌, ◌≤◌, ◌-◌, ◌*◌, ◌/◌, ℕ, zero, suc, Bool, false, nat_eq}
use Rattle.std.specs.Prelude.{nat_le, if◌then◌else◌, slice_get, List, [], ◌∷◌, ◌++◌, length, drop}
use Rattle.std.specs.Prelude.{get_or, All, IfSome, flat_map, refl}
use Rattle.std.specs.Coded.{Coded, code_by, coded_ℕ, coded_list, coded×}
use Rattle.std.specs.Option.{option_map_or}
use Rattle.std.specs.declared.option.Option.{Option}
use Rattle.be_entry_bytes.specs.Decoding.{entry_at, step_at}
use Rattle.be_entry_bytes.specs.Encoding.{entry_bytes, most_bytes, CanBeEntry}
use Rattle.be_volume.specs.declared.ops.Done.{Done}
use Rattle.be_volume.specs.declared.ops.Op.{Op}
use Rattle.be_journal.specs.Journal.{coded_entry, IsEntry}
use Rattle.be_journal.specs.declared.entries.Entry.{Entry}

abbrev pub bytes_of : Entry → List ℕ
bytes_of entry = entry_bytes entry.by entry.ops entry.dones

-- the entries that the bytes begin with: `count` of them, or all if there are fewer
unfoldable pub entries_at : ℕ → List ℕ → List Entry
entries_at zero bytes = []
entries_at (suc count) bytes = option_map_or
    (λ x. (record { by = x.0; ops = x.1; dones = x.2 }) ∷ entries_at count x.3) (entry_at bytes) []

-- the operations that the bytes begin with, each with its outcome: `count` of them, or all if there
-- are fewer
unfoldable pub steps_in : ℕ → List ℕ → List (Op × Done)
steps_in zero bytes = []
steps_in (suc count) bytes = option_map_or (λ x. (x.0, x.1) ∷ steps_in count x.2) (step_at bytes) []

-- what holds for each entry of a journal
abbrev pub IsStored : Entry → Type 0
IsStored entry = IsEntry entry × CanBeEntry entry.by entry.ops entry.dones

-- the bytes encode `count` entries and nothing more
pub record AreEntries (count : ℕ) (bytes : List ℕ) : Type 0 where
  pub whole : bytes ≡ flat_map bytes_of (entries_at count bytes)
  pub counted : length (entries_at count bytes) ≡ count
  pub stored : All IsStored (entries_at count bytes)

-- among the `count` entries in the bytes, the entry after the first `before` entries begins at this
-- offset
pub record IsPlace (before place count : ℕ) (bytes : List ℕ) : Type 0 where
  pub known : before ≤ count
  pub within : place ≤ length bytes
  pub beyond : drop place bytes ≡ flat_map bytes_of (drop before (entries_at count bytes))

-- the offset of every 16th entry, beginning with the first
pub record ArePlaces (places : List ℕ) (count : ℕ) (bytes : List ℕ) : Type 0 where
  pub each : (k : ℕ) → k < length places → IsPlace (16 * k) (get_or places k 0) count bytes
  pub all : count ≤ 16 * length places

-- the offsets once another entry follows `count` entries: its offset is added if it begins a group
-- of 16
abbrev pub with_place : List ℕ → ℕ → ℕ → List ℕ
with_place places count place = if nat_eq (count / 16) (length places) then places ++ place ∷ []
    else places

-- a block, as its entries and the number of free bytes
pub record Filled : Type 0 where
  pub entries : List Entry
  pub room : ℕ

abbrev pub coded_filled : Coded Filled
coded_filled = code_by _ (coded× (coded_list coded_entry) coded_ℕ) (λ b. (b.entries, b.room))
    (λ p. record { entries = p.0; room = p.1 }) (λ _. refl)

-- the entries of the blocks, in order
abbrev pub entries_of : List Filled → List Entry
entries_of blocks = flat_map (λ b. b.entries) blocks

-- each block has an entry
abbrev pub AreFilled : List Filled → Type 0
AreFilled blocks = All (λ b. 0 < length b.entries) blocks

-- whether the last block has room for any entry with this many operations
abbrev pub has_room : ℕ → List Filled → Bool
has_room count blocks = option_map_or (λ b. nat_le (most_bytes count) b.room)
    (slice_get blocks (length blocks - 1)) false

-- the block for the next entry, if there is such a block, is empty and has room for any entry
abbrev pub IsSpare : Option Filled → Type 0
IsSpare spare = IfSome spare (λ b. (b.entries ≡ []) × (most_bytes 64 ≤ b.room))
