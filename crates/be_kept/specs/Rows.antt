-- The rows of entries.
use Rattle.std.specs.Prelude.{◌≡◌, ◌≢◌, ◌<◌, ℕ, ◌+◌, ◌^◌, pos, List, [], ◌∷◌, ◌++◌, length, map}
use Rattle.std.specs.Int.{to_le_bytes, w64}
use Rattle.std.specs.List.{AllByRecursion}
use Rattle.std.specs.declared.cmp.Ordering.TheVariants.{Less}
use Rattle.sqlite_value.specs.Order.{Row, value_cmp}
use Rattle.sqlite_value.specs.declared.value.Value.TheVariants.{Blob, Int, Null}
use Rattle.sqlite_trees.specs.Tree.{Trees, rowid, with_tree}
use Rattle.be_kept.specs.Crc.{crc}
use Rattle.be_kept.specs.declared.entry.Entry.{Entry}

-- a transaction as the file has it: its pass, and the bytes of its batch
abbrev pub Written : Type 0
Written = ℕ × List ℕ

abbrev pub written : List Entry → List Written
written entries = map (λ e. (e.pass, e.batch.items)) entries

-- the checksum of an entry: its number, its pass, and its batch after the batch's length
abbrev pub entry_crc : ℕ → ℕ → List ℕ → ℕ
entry_crc number pass batch =
    crc (to_le_bytes w64 number ++ (to_le_bytes w64 pass
    ++ (to_le_bytes w64 (length batch) ++ batch)))

-- The row of the entry with this number. SQLite stores NULL for the number's own column.
abbrev pub entry_row : ℕ → Written → Row
entry_row number it =
    Int (pos number) ∷ Null ∷ Int (pos it.0) ∷ Blob it.1
    ∷ Int (pos (entry_crc number it.0 it.1)) ∷ []

-- the rows of the entries after this number, which are numbered consecutively
abbrev pub entry_rows : ℕ → List Written → List Row
entry_rows number [] = []
entry_rows number (it ∷ more) = entry_row (number + 1) it ∷ entry_rows (number + 1) more

-- each row has a number up to this one
abbrev pub EndsAt : ℕ → List Row → Type 0
EndsAt number rows = (later : ℕ) → number < later
    → AllByRecursion (λ row. value_cmp (rowid row) (Int (pos later)) ≡ Less) rows

-- the row is not that of any entry with this number
abbrev pub IsDamaged : ℕ → Row → Type 0
IsDamaged number row = (it : Written) → it.0 < 2 ^ 32 → row ≢ entry_row number it

abbrev pub entry_tree : ℕ
entry_tree = 2

-- the trees after these entries were added, the first of which follows this number
abbrev pub after : ℕ → List Written → Trees → Trees
after number added trees = with_tree trees entry_tree (trees entry_tree ++ entry_rows number added)
