-- The calls that a race makes to its gate.
use Rattle.std.specs.Prelude.{◌≡◌, ◌⊎◌, ◌≤◌, ℕ, ◌+◌, ◌<◌, List, [], ◌∷◌, length, slice_index_or}
use Rattle.be_script_language.specs.Request.{lines_of}

-- the number of lines after the last LF: one if any text follows it, otherwise none
abbrev pub last_count : List ℕ → ℕ
last_count [] = 0
last_count (c ∷ line) = 1

abbrev pub count_lines : List (List ℕ) → ℕ
count_lines [] = 0
count_lines (line ∷ []) = last_count line
count_lines (line ∷ next ∷ lines) = count_lines (next ∷ lines) + 1

-- the number of a script's lines that are run
abbrev pub line_count : List ℕ → ℕ
line_count script = count_lines (lines_of script)

-- this line is the first, or the line before it has ended
abbrev pub IsNext : (ℕ → Type 0) → ℕ → Type 0
IsNext ended line = (line ≡ 1) ⊎ ((before : ℕ) × (line ≡ before + 1) × ended before)

-- each line up to this number has begun and ended
abbrev pub AreReported : (ℕ → Type 0) → (ℕ → Type 0) → ℕ → Type 0
AreReported begun ended count = (line : ℕ) → 1 ≤ line → line ≤ count → begun line × ended line

-- `AreReported` for each script's lines, through its pass's calls
abbrev pub AreAllReported : (ℕ → ℕ → Type 0) → (ℕ → ℕ → Type 0) → List (List ℕ) → Type 0
AreAllReported begun ended scripts = (k : ℕ) → k < length scripts
    → AreReported (begun k) (ended k) (line_count (slice_index_or scripts k []))
