-- The history of a file: all transactions that it has had, over all runs.
use Rattle.std.specs.Prelude.{◌≡◌, ◌≤◌, ℕ, ◌+◌, pos, List, [], ◌∷◌, ◌++◌, codes, drop, length}
use Rattle.std.specs.Prelude.{map, take}
use Rattle.std.specs.Int.{to_le_bytes, w64}
use Rattle.std.specs.List.{Any}
use Rattle.sqlite_value.specs.Order.{Row}
use Rattle.sqlite_value.specs.declared.value.Value.TheVariants.{Blob, Int, Null, Text}
use Rattle.sqlite_trees.specs.Tree.{Trees}
use Rattle.be_volume.specs.Volume.{State}
use Rattle.be_journal.specs.Journal.{replay}
use Rattle.be_journal.specs.declared.entries.Entry.{Entry as Transaction}
use Rattle.be_kept.specs.Batches.{written_of}
use Rattle.be_kept.specs.Crc.{crc}
use Rattle.be_kept.specs.Files.{about_tree, state_tree}
use Rattle.be_kept.specs.Listings.{IsListing}
use Rattle.be_kept.specs.Rows.{entry_rows, entry_tree}

-- bytes after their length, as they enter a checksum
abbrev pub measured : List ℕ → List ℕ
measured bytes = to_le_bytes w64 (length bytes) ++ bytes

-- the row by which the file says a number about itself
abbrev pub about_row : List ℕ → ℕ → Row
about_row what number = Text what ∷ Int (pos number)
    ∷ Int (pos (crc (measured what ++ to_le_bytes w64 number))) ∷ []

abbrev pub Says : Trees → List ℕ → ℕ → Type 0
Says trees what number = Any (λ row. row ≡ about_row what number) (trees about_tree)

abbrev pub state_row : ℕ → List ℕ → Row
state_row place batch = Int (pos place) ∷ Null ∷ Blob batch
    ∷ Int (pos (crc (to_le_bytes w64 place ++ measured batch))) ∷ []

-- the rows of the state's batches from this place on
abbrev pub state_rows : ℕ → List (List ℕ) → List Row
state_rows place [] = []
state_rows place (batch ∷ more) = state_row place batch ∷ state_rows (place + 1) more

-- the file's state is this volume
pub record HasState (trees : Trees) (s : State) : Type 0 where
  pub batches : List (List ℕ)
  pub rows : trees state_tree ≡ state_rows 0 batches
  pub listing : IsListing s batches
  pub next : Says trees (codes "next") s.next

-- The state is the volume after the first transactions of the history, and the entries are the
-- rest. So an entry's number is the transaction's place in the history, counting from 1.
pub record HasHistory (history : List Transaction) (trees : Trees) : Type 0 where
  pub first : ℕ
  pub within : first ≤ length history
  pub about : Says trees (codes "entries") first
  pub state : HasState trees (replay (take first history))
  pub entries : trees entry_tree ≡ entry_rows first (map written_of (drop first history))
