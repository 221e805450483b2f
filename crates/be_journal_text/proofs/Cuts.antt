-- How a line is cut into parts.
use Rattle.std.proofs.Common.{ℕ, ◌+◌, ◌-◌, Bool, false, List, [], ◌∷◌, ◌++◌, length, nat_eq, if◌then◌else◌, take, drop, Some, None, codes}
use Rattle.std.specs.Fmt.{decimal}
use Rattle.std.specs.declared.option.Option.{Option}
use Rattle.be_value.specs.Number.{word_in}
use Rattle.be_volume.specs.declared.ops.Done.{Done}
use Rattle.be_volume.specs.declared.ops.Done.TheVariants.{Node, Unit as Nothing}
use Rattle.be_journal_text.specs.declared.parts.Quoting.{Quoting}
use Rattle.be_journal_text.specs.declared.parts.Quoting.TheVariants.{Outside, Inside, Escaped}

-- whether the byte after this one is inside quotes; inside quotes, a backslash escapes the byte
-- after it
abbrev pub beyond : Quoting → ℕ → Quoting
beyond Outside c = if nat_eq c 34 then Inside else Outside
beyond Inside c = if nat_eq c 92 then Escaped else if nat_eq c 34 then Outside else Inside
beyond Escaped c = Inside

-- a part ends at this byte, outside quotes
abbrev pub is_end : ℕ → Quoting → ℕ → Bool
is_end end Outside c = nat_eq c end
is_end end Inside c = false
is_end end Escaped c = false

-- the number of bytes before the first end
abbrev pub length_to : ℕ → Quoting → List ℕ → ℕ
length_to end quoting [] = 0
length_to end quoting (c ∷ text) = if is_end end quoting c then 0 else 1 + length_to end (beyond quoting c) text

-- the outcome with this node, if there is one
abbrev pub done_of : Option ℕ → Done
done_of (Some node) = Node node
done_of None = Nothing

abbrev pub done_in : List ℕ → Done
done_in text = done_of (word_in (drop 5 text))

-- the line without its number and ` by `
abbrev pub after_number : ℕ → List ℕ → List ℕ
after_number number line = drop (length (decimal number ++ codes " by ")) line

-- the text before the first end, and the text after that end
abbrev pub before : ℕ → List ℕ → List ℕ
before end text = take (length_to end Outside text) text

abbrev pub after : ℕ → List ℕ → List ℕ
after end text = drop (length_to end Outside text + 1) text

abbrev pub without_last_two : List ℕ → List ℕ
without_last_two text = take (length text - 2) text

-- the parts of entry N's line: the pass, after `N by `; the text after it; the operations, before `
-- ->`; and the outcomes
abbrev pub by_part : ℕ → List ℕ → List ℕ
by_part number line = before 32 (after_number number line)

abbrev pub after_by : ℕ → List ℕ → List ℕ
after_by number line = after 32 (after_number number line)

abbrev pub ops_part : ℕ → List ℕ → List ℕ
ops_part number line = without_last_two (before 62 (after_by number line))

abbrev pub outcomes_part : ℕ → List ℕ → List ℕ
outcomes_part number line = before 10 (drop 1 (after 62 (after_by number line)))

-- the first line with its LF, and the text after it
abbrev pub first_line : List ℕ → List ℕ
first_line text = take (length_to 10 Outside text + 1) text

abbrev pub after_line : List ℕ → List ℕ
after_line text = after 10 text
