-- The entries that a journal's text can have.
use Rattle.std.specs.Prelude.{ℕ, ◌<◌, ◌^◌, ⊤, All, List, length, nat_le, nat_eq, ◌&&◌}
use Rattle.std.specs.Prelude.{if◌then◌else◌, Some, None}
use Rattle.std.specs.declared.option.Option.{Option}
use Rattle.be_entry_bytes.specs.Encoding.{CanBeDone}
use Rattle.be_journal.specs.Journal.{IsEntry}
use Rattle.be_journal.specs.declared.entries.Entry.{Entry}
use Rattle.be_value.specs.declared.values.Value.{Value}
use Rattle.be_value.specs.declared.values.Value.TheVariants.{Cstr, Long, Llng, Mims, Rawt, Ulng}
use Rattle.be_value.specs.declared.values.Value.TheVariants.{Ullg}
use Rattle.be_volume.specs.Sound.{IsOperation}
use Rattle.be_volume.specs.declared.ops.Done.{Done}
use Rattle.be_volume.specs.declared.ops.Op.{Op}
use Rattle.be_volume.specs.declared.ops.Op.TheVariants.{New, Drop, Set, Unset, MkIndex, RmIndex}

-- the raw bytes are below 256
abbrev pub HasBytes : Value → Type 0
HasBytes (Cstr text) = ⊤
HasBytes (Long n) = ⊤
HasBytes (Llng n) = ⊤
HasBytes (Mims text) = ⊤
HasBytes (Rawt bytes) = All (λ b. b < 2 ^ 8) bytes
HasBytes (Ulng n) = ⊤
HasBytes (Ullg n) = ⊤

-- the operation's node number is below 2^64, and any raw bytes that it sets are below 256
abbrev pub HasNumber : Op → Type 0
HasNumber New = ⊤
HasNumber (Drop node) = node < 2 ^ 64
HasNumber (Set node name value) = (node < 2 ^ 64) × HasBytes value
HasNumber (Unset node name) = node < 2 ^ 64
HasNumber (MkIndex name kind) = ⊤
HasNumber (RmIndex name) = ⊤

-- an operation that the program can make: its names, values and numbers are in range
abbrev pub CanBeOp : Op → Type 0
CanBeOp op = IsOperation op × HasNumber op

-- an entry that the program can make: 1 to 64 operations, an outcome for each, and a pass's number
pub record CanBeEntry (entry : Entry) : Type 0 where
  pub by : entry.by < 2 ^ 64
  pub is : IsEntry entry
  pub ops : All CanBeOp entry.ops
  pub dones : All CanBeDone entry.dones

-- a journal's entries: the program can make each of them, and there are fewer than 2^32
abbrev pub CanBeJournal : List Entry → Type 0
CanBeJournal entries = All CanBeEntry entries × (length entries < 2 ^ 32)

-- the entry with these lists, if they have 1 to 64 operations and an outcome for each
abbrev pub entry_of : ℕ → List Op → List Done → Option Entry
entry_of by ops dones =
    if nat_le 1 (length ops) && (nat_le (length ops) 64 && nat_eq (length dones) (length ops))
    then Some (record { by = by; ops = ops; dones = dones })
    else None
