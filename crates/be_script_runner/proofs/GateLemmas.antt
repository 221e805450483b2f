-- The calls to a gate around each line.
use Rattle.std.proofs.Common.{◌≡◌, ℕ, ◌≤◌, ◌<◌, ◌+◌, Bool, true, false, nat_lt, List, [], ◌∷◌, length, refl, ap, ◌∙◌, subst, arith}
use Rattle.std.proofs.lemmas.Bool.Decides.{nat_tests}
use Rattle.std.proofs.lemmas.List.Splits.{length-slice_split}
use Rattle.be_script_language.specs.Request.{lines_of}
use Rattle.be_script_runner.specs.Gates.{count_lines, last_count, line_count}
use Rattle.be_script_runner.specs.Run.{is_line_end}

count_more : (line : List ℕ) (lines : List (List ℕ)) → 1 ≤ length lines → count_lines (line ∷ lines) ≡ count_lines lines + 1
count_more line [] some = absurd (omega (arith, some))
count_more line (next ∷ lines) some = refl

-- a line that ends with an LF adds one to the number of the lines after it
pub line_counted : (script line rest : List ℕ) → lines_of script ≡ line ∷ lines_of rest → line_count script ≡ line_count rest + 1
line_counted script line rest is = ap count_lines is ∙ count_more line (lines_of rest) (omega (arith, length-slice_split is_line_end rest))

none_counted : (rest : List ℕ) → length rest ≡ 0 → last_count rest ≡ 0
none_counted [] empty = refl
none_counted (c ∷ rest) empty = absurd (omega (arith, empty))

one_counted : (rest : List ℕ) → 1 ≤ length rest → last_count rest ≡ 1
one_counted [] some = absurd (omega (arith, some))
one_counted (c ∷ rest) some = refl

-- the text after the last LF is a line if it isn't empty
pub last_is_none : (rest : List ℕ) → lines_of rest ≡ rest ∷ [] → length rest ≡ 0 → line_count rest ≡ 0
last_is_none rest is empty = ap count_lines is ∙ none_counted rest empty

pub last_is_one : (rest : List ℕ) → lines_of rest ≡ rest ∷ [] → 1 ≤ length rest → line_count rest ≡ 1
last_is_one rest is some = ap count_lines is ∙ one_counted rest some

-- the gate was called for each line below a number, and for the line with this number
pub reported_more : (begun ended : ℕ → Type 0) (number : ℕ) → ((line : ℕ) → 1 ≤ line → line < number → begun line × ended line) → begun number → ended number →
    (line : ℕ) → 1 ≤ line → line < number + 1 → begun line × ended line
reported_more begun ended number reported b e line first below = by (nat_lt line number) refl
  where
    by : (lower : Bool) → nat_lt line number ≡ lower → begun line × ended line
    by true is = reported line first (grind (arith, nat_tests))
    by false is =
        let same : number ≡ line = grind (arith, nat_tests) in
        (subst begun same b, subst ended same e)
