-- The scripts that make a journal's writes again, or rebuild only its volume.
use Rattle.std.specs.Prelude.{◌≡◌, ℕ, zero, suc, List, [], ◌∷◌, ◌++◌, All, codes, drop, flat_map}
use Rattle.std.specs.Prelude.{length, nat_lt, take, if◌then◌else◌, Some, None}
use Rattle.std.specs.declared.option.Option.{Option}
use Rattle.be_journal.specs.Journal.{replay}
use Rattle.be_journal.specs.Text.{op_text}
use Rattle.be_journal.specs.declared.entries.Entry.{Entry}
use Rattle.be_volume_state.specs.Rebuilding.{state_ops}
use Rattle.be_volume.specs.Volume.{State}
use Rattle.be_volume.specs.declared.ops.Op.{Op}
use Rattle.be_journal_text.specs.Finding.{TextReports}
use Rattle.be_journal_text.specs.History.{CanBeJournal, CanBeOp}

abbrev pub op_line : Op → List ℕ
op_line op = op_text op ++ codes "\n"

-- the lines for one write: its only operation, or a batch if there are several operations
abbrev pub write_lines : List Op → List ℕ
write_lines ops =
    if nat_lt 1 (length ops) then codes "begin\n" ++ (flat_map op_line ops ++ codes "commit\n")
    else flat_map op_line ops

-- the lines for all writes
abbrev pub dump : List Entry → List ℕ
dump entries = flat_map (λ entry. write_lines entry.ops) entries

-- the entry, as if the store's only pass had written it
abbrev pub by_only_pass : Entry → Entry
by_only_pass entry = record { by = 0; ops = entry.ops; dones = entry.dones }

-- operations cut into at most `most` lists of 64; the last list may be shorter
abbrev pub cut_within : ℕ → List Op → List (List Op)
cut_within zero ops = []
cut_within (suc most) [] = []
cut_within (suc most) (op ∷ ops) = take 64 (op ∷ ops) ∷ cut_within most (drop 64 (op ∷ ops))

-- operations cut into lists of 64; the last list may be shorter
abbrev pub cut : List Op → List (List Op)
cut ops = cut_within (length ops) ops

-- the lines for operations that are written as lists of 64
abbrev pub cut_lines : List Op → List ℕ
cut_lines ops = flat_map write_lines (cut ops)

-- the lines that rebuild a volume from an empty one
abbrev pub state_dump : State → List ℕ
state_dump s = cut_lines (state_ops s)

-- The script that rebuilds the volume of a text's journal, if the program can make each operation
-- in the script. None if the text has no journal.
abbrev pub IsStateDump : List ℕ → Option (List ℕ) → Type 0
IsStateDump text None = (entries : List Entry) → CanBeJournal entries → TextReports text entries → ⊥
IsStateDump text (Some script) =
    (entries : List Entry) × CanBeJournal entries × TextReports text entries
    × All CanBeOp (state_ops (replay entries))
    × (script ≡ state_dump (replay entries))
