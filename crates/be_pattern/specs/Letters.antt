-- The part of a pattern's text that the code has read, in terms of the definitions. Only the proofs
-- need it; `Parse` says what a text means.
use Rattle.std.specs.Prelude.{ℕ, ◌+◌, ◌-◌, zero, suc, Bool, true, false, Option, Some, None, List}
use Rattle.std.specs.Prelude.{[], ◌∷◌, length, drop, ◌&&◌, not, if◌then◌else◌}
use Rattle.std.specs.List.{list_any, before_first}
use Rattle.std.specs.Str.{chars}
use Rattle.be_pattern.specs.declared.parsing.Letter as code
use Rattle.be_pattern.specs.Match.{Part, Run, One, Only}
use Rattle.be_pattern.specs.Parse.{Letter, letters, ending_backslash, is_bare, members, set_with}

abbrev pub letter_of : ℕ → code.Letter → Letter
letter_of at l = record { at = at; escaped = l.escaped; char = l.char }

-- the letters of the remaining part of a text that has `total` bytes
abbrev pub letters_in : ℕ → List ℕ → List Letter
letters_in total rest = letters false (total - length rest) (chars rest)

abbrev pub ending_in : ℕ → List ℕ → Option ℕ
ending_in total rest = ending_backslash false (total - length rest) (chars rest)

-- the offset of the bytes at the end, if their number isn't 0
abbrev pub ending_of : ℕ → ℕ → Option ℕ
ending_of total zero = None
ending_of total (suc n) = Some (total - suc n)

-- if a `-` and a character come first, that character, which ends a range, and the letters after it
abbrev pub dashed : List Letter → Option (ℕ × List Letter)
dashed [] = None
dashed (d ∷ []) = None
dashed (d ∷ e ∷ ls) = if is_bare 45 d && not (is_bare 93 e) then Some (e.char, ls) else None

abbrev pub end_or : ℕ × List Letter → Option (ℕ × List Letter) → ℕ × List Letter
end_or single None = single
end_or single (Some p) = p

-- the last character of a member that begins with c, and the letters after it
abbrev pub member_end : ℕ → List Letter → ℕ × List Letter
member_end c ls = end_or (c, ls) (dashed ls)

-- the members up to the first plain `]`, and the letters after that
abbrev pub members_after : List Letter → Option (List (ℕ × ℕ) × List Letter)
members_after ls =
    let body = before_first (is_bare 93) ls in
    if list_any (is_bare 93) ls then Some (members body, drop (length body + 1) ls) else None

abbrev pub with_rest : List Letter → Option Part → Option (Part × List Letter)
with_rest rest None = None
with_rest rest (Some p) = Some (p, rest)

abbrev pub with_members : Bool → Option (List (ℕ × ℕ) × List Letter) → Option (Part × List Letter)
with_members negated None = None
with_members negated (Some p) = with_rest p.1 (set_with negated p.0)

-- the set whose `[` precedes these letters, and the letters after it
abbrev pub set_after : List Letter → Option (Part × List Letter)
set_after [] = None
set_after (l ∷ ls) = if is_bare 94 l then with_members true (members_after ls)
    else with_members false (members_after (l ∷ ls))

-- the token that begins with this letter, and the letters after it
abbrev pub token_at : Letter → List Letter → Option (Part × List Letter)
token_at l ls =
    if is_bare 42 l then Some (Run, ls)
    else (if is_bare 63 l then Some (One, ls)
    else (if is_bare 91 l then set_after ls
    else Some (Only l.char, ls)))
