-- What is found in the rows of entries.
use Rattle.std.specs.Borrow.{Bor}
use Rattle.std.specs.Prelude.{◌≡◌, ◌≢◌, ℕ, ℤ, ◌+◌, List, []}
use Rattle.std.specs.Prelude.{◌∷◌, ◌++◌, length, Option, None, Some, ⊤}
use Rattle.sqlite_value.specs.Order.{Row}
use Rattle.sqlite_value.specs.declared.value.Value.TheVariants.{Blob, Int, Null}
use Rattle.sqlite_trees.specs.View.{View}
use Rattle.be_kept.specs.Rows.{IsDamaged, Written, entry_row, entry_rows}
use Rattle.be_kept.specs.declared.entry.Entry.{Entry}
use Rattle.be_kept.specs.declared.reading.ReadError.{ReadError}
use Rattle.be_kept.specs.declared.reading.ReadError.TheVariants.{Damaged, Store}

-- the row has these columns, or is not of this form
abbrev pub HasColumns : Row → Option (ℤ × ℤ × Bor (List ℕ) × ℤ) → Type 0
HasColumns row None = (number pass sum : ℤ) (batch : List ℕ)
    → row ≢ Int number ∷ Null ∷ Int pass ∷ Blob batch ∷ Int sum ∷ []
HasColumns row (Some it) = row
    ≡ Int it.0 ∷ Null ∷ Int it.1 ∷ Blob it.2.now ∷ Int it.3 ∷ []

-- the row is that of this entry, or of no entry with this number
abbrev pub Finds : ℕ → Row → Option Entry → Type 0
Finds number row None = IsDamaged number row
Finds number row (Some entry) = row ≡ entry_row number (entry.pass, entry.batch.items)

-- The rows are those of entries after this number, up to the damaged one. That row is the row of no
-- entry with its number.
pub record IsFirstDamaged (number : ℕ) (rows : List Row) (damaged : ℕ) : Type 0 where
  pub before : List Written
  pub row : Row
  pub more : List Row
  pub are : rows ≡ entry_rows number before ++ row ∷ more
  pub place : damaged ≡ number + length before + 1
  pub wrong : IsDamaged damaged row

-- an error that names an entry names the first damaged one
abbrev pub IsFirstDamage : ℕ → List Row → ReadError → Type 0
IsFirstDamage number rows (Damaged damaged) = IsFirstDamaged number rows damaged
IsFirstDamage number rows (Store error) = ⊤

-- only cursors have moved
abbrev pub OnlyReads : View → View → Type 0
OnlyReads old new = new ≡ record old { cursors = new.cursors }
