-- The journal that a text has, and what a check of it finds.
use Rattle.std.specs.Prelude.{◌≡◌, ◌⊎◌, ℕ, ◌+◌, ◌<◌, ◌≤◌, ◌^◌, All, List, [], ◌∷◌, ◌++◌, length}
use Rattle.std.specs.Prelude.{get_or, Some, None, codes}
use Rattle.std.specs.Fmt.{decimal}
use Rattle.std.specs.String.{string_bytes}
use Rattle.std.specs.declared.option.Option.{Option}
use Rattle.be_journal.specs.Journal.{IsEntry, IsFirstWrong}
use Rattle.be_journal.specs.Text.{entry_line, lines_from, result_text}
use Rattle.be_journal.specs.declared.entries.Entry.{Entry}
use Rattle.be_journal_text.specs.History.{CanBeJournal}
use Rattle.be_journal_text.specs.declared.checks.Finding.{Finding}
use Rattle.be_journal_text.specs.declared.checks.Finding.TheVariants as findings

-- the text is empty or consists of whole lines
abbrev pub AreLines : List ℕ → Type 0
AreLines text = (text ≡ []) ⊎ ((front : List ℕ) × (text ≡ front ++ 10 ∷ []))

-- the line `journal N`
abbrev pub head : ℕ → List ℕ
head count = codes "journal " ++ (decimal count ++ codes "\n")

-- A text has a journal if it is the journal's text, or if it ends, after whole lines, with the
-- lines that a race prints for this journal.
abbrev pub TextReports : List ℕ → List Entry → Type 0
TextReports text entries = (text ≡ lines_from 1 entries)
    ⊎ ((front : List ℕ) × AreLines front × (text ≡ front ++ result_text entries))

-- `rest` is the text from a line that begins with `j` to the end
abbrev pub IsFromJ : List ℕ → List ℕ → Type 0
IsFromJ text rest = (front : List ℕ) × (more : List ℕ) × AreLines front × (text ≡ front ++ rest)
    × (rest ≡ 106 ∷ more)

-- `last` is the shortest such text; None if no line begins with `j`
abbrev pub IsFromLastJ : List ℕ → Option (List ℕ) → Type 0
IsFromLastJ text None = (rest : List ℕ) → IsFromJ text rest → ⊥
IsFromLastJ text (Some last) = IsFromJ text last
    × ((rest : List ℕ) → IsFromJ text rest → length last ≤ length rest)

-- each entry has 1 to 64 operations and an outcome for each, and there are fewer than 2^32 entries
abbrev pub AreChecked : List Entry → Type 0
AreChecked entries = All IsEntry entries × (length entries < 2 ^ 32)

-- the result of a check: no journal; a right journal and its number of entries; or the line of the
-- first wrong entry and the number of entries
pub data Found : Type 0 where
  no_journal : Found
  right : ℕ → Found
  wrong : ℕ → List ℕ → Found

abbrev pub found_of : Finding → Found
found_of findings.NoJournal = no_journal
found_of (findings.Right count) = right count
found_of (findings.Wrong line count) = wrong count (string_bytes line)

-- the result of checking these entries
abbrev pub IsFound : List Entry → Found → Type 0
IsFound entries no_journal = ⊥
IsFound entries (right count) = IsFirstWrong entries None × (count ≡ length entries)
IsFound entries (wrong count line) =
    (i : ℕ) × (entry : Entry) × IsFirstWrong entries (Some i) × (entry ≡ get_or entries i entry)
    × (line ≡ entry_line (i + 1) entry) × (count ≡ length entries)

-- the result of checking a text
abbrev pub IsFinding : List ℕ → Found → Type 0
IsFinding text no_journal = (entries : List Entry) → CanBeJournal entries → TextReports text entries
    → ⊥
IsFinding text (right count) = (entries : List Entry) × CanBeJournal entries
    × TextReports text entries × IsFound entries (right count)
IsFinding text (wrong count line) = (entries : List Entry) × CanBeJournal entries
    × TextReports text entries × IsFound entries (wrong count line)
