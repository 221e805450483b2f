-- The meaning of a pattern's text. Positions are byte offsets, and characters are numbers.
use Rattle.std.specs.Prelude.{◌≡◌, ◌⊎◌, ℕ, ◌+◌, ◌≤◌, zero, suc, Bool, true, false, Option, Some}
use Rattle.std.specs.Prelude.{None, Result, Ok, Err, List, [], ◌∷◌, length, ◌&&◌, not, ◌==◌, nat_lt}
use Rattle.std.specs.Prelude.{if◌then◌else◌}
use Rattle.std.specs.List.{list_any, before_first}
use Rattle.std.specs.Char.{len_utf8}
use Rattle.be_value.specs.declared.refusals.Refusal.{Refusal}
use Rattle.be_value.specs.declared.refusals.Refusal.TheVariants.{OutOfMemory, BadPattern}
use Rattle.be_pattern.specs.Match.{Part, Run, One, Among, Only}

-- A character of the text: the position at which it begins, including its backslash, and whether it
-- has a backslash.
pub record Letter : Type 0 where
  pub at : ℕ
  pub escaped : Bool
  pub char : ℕ

-- the letters of the text from a position onward; the flag says whether a backslash precedes it
abbrev pub letters : Bool → ℕ → List ℕ → List Letter
letters escaped at [] = []
letters true at (c ∷ cs) = record { at = at; escaped = true; char = c }
    ∷ letters false (at + 1 + len_utf8 c) cs
letters false at (c ∷ cs) = if c == 92 then letters true at cs
    else record { at = at; escaped = false; char = c } ∷ letters false (at + len_utf8 c) cs

-- the position of a trailing backslash
abbrev pub ending_backslash : Bool → ℕ → List ℕ → Option ℕ
ending_backslash true at [] = Some at
ending_backslash false at [] = None
ending_backslash true at (c ∷ cs) = ending_backslash false (at + 1 + len_utf8 c) cs
ending_backslash false at (c ∷ cs) = if c == 92 then ending_backslash true at cs
    else ending_backslash false (at + len_utf8 c) cs

-- the letter is this character without a backslash
abbrev pub is_bare : ℕ → Letter → Bool
is_bare c l = (l.char == c) && not l.escaped

-- The members of a set: `c-d` is the range from c to d, and any other letter is a range of one
-- character.
abbrev pub members : List Letter → List (ℕ × ℕ)
members [] = []
members (c ∷ []) = (c.char, c.char) ∷ []
members (c ∷ d ∷ []) = (c.char, c.char) ∷ (d.char, d.char) ∷ []
members (c ∷ d ∷ e ∷ ls) = if is_bare 45 d then (c.char, e.char) ∷ members ls else (c.char, c.char)
    ∷ members (d ∷ e ∷ ls)

-- some range is descending
abbrev pub falls : List (ℕ × ℕ) → Bool
falls = list_any (λ m. nat_lt m.1 m.0)

-- there is at least one member, and no range is descending
abbrev pub are_members : List (ℕ × ℕ) → Bool
are_members [] = false
are_members (m ∷ ms) = not (falls (m ∷ ms))

abbrev pub set_with : Bool → List (ℕ × ℕ) → Option Part
set_with negated ms = if are_members ms then Some (Among negated ms) else None

-- the set with these letters between its brackets
abbrev pub set_of : List Letter → Option Part
set_of [] = None
set_of (l ∷ ls) = if is_bare 94 l then set_with true (members ls)
    else set_with false (members (l ∷ ls))

abbrev pub with_length : ℕ → Option Part → Option (Part × ℕ)
with_length n None = None
with_length n (Some p) = Some (p, n)

-- the set whose `[` precedes these letters, and the number of its letters, including its `]`
abbrev pub set_at : List Letter → Option (Part × ℕ)
set_at ls =
    let body = before_first (is_bare 93) ls in
    if list_any (is_bare 93) ls then with_length (length body + 1) (set_of body) else None

abbrev pub and_then : Part → Result (List Part) ℕ → Result (List Part) ℕ
and_then p (Ok ps) = Ok (p ∷ ps)
and_then p (Err at) = Err at

-- The tokens of the letters after the first `taken` letters, which have already been read, or the
-- position of the first invalid set.
abbrev pub parts_after : ℕ → List Letter → Result (List Part) ℕ
parts_after taken [] = Ok []
parts_after (suc taken) (l ∷ ls) = parts_after taken ls
parts_after zero (l ∷ ls) =
    if is_bare 42 l then and_then Run (parts_after 0 ls)
    else (if is_bare 63 l then and_then One (parts_after 0 ls)
    else (if is_bare 91 l then (elim (set_at ls)
    [ None ↦ Err l.at | Some s ↦ and_then s.0 (parts_after s.1 ls) ])
    else and_then (Only l.char) (parts_after 0 ls)))

-- The tokens of a pattern's text, or the position at which the text is invalid.
abbrev pub pattern : List ℕ → Result (List Part) ℕ
pattern cs = elim (ending_backslash false 0 cs)
    [ Some at ↦ Err at | None ↦ parts_after 0 (letters false 0 cs) ]

-- the error for a text of `len` bytes: memory ran out, or the text is invalid at this position
abbrev pub IsFault : Result (List Part) ℕ → ℕ → Refusal → Type 0
IsFault read len e = (e ≡ OutOfMemory)
    ⊎ ((at : ℕ) × (e ≡ BadPattern at) × (read ≡ Err at) × (at ≤ len))
