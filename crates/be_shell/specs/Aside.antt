-- What a typed line asks of the terminal itself instead of the store.
use Rattle.std.specs.Prelude.{ℕ, Bool, List, [], ◌∷◌, length, nat_eq, nat_le, position, take, drop}
use Rattle.std.specs.Prelude.{unwrap_or, ◌&&◌, ◌||◌, if◌then◌else◌, codes}
use Rattle.std.specs.List.{list_all, ends_with}
use Rattle.std.specs.Str.{bytes_eq}
use Rattle.be_shell.specs.declared.asides.Aside.{Aside}
use Rattle.be_shell.specs.declared.asides.Aside.TheVariants.{Nothing, Cancelled, Cut, Help, Quit}
use Rattle.be_shell.specs.declared.asides.Aside.TheVariants.{Read, Save}

-- A space, a tab or a CR.
abbrev pub is_blank : ℕ → Bool
is_blank c = nat_eq c 32 || (nat_eq c 9 || nat_eq c 13)

abbrev pub skip : List ℕ → List ℕ
skip [] = []
skip (c ∷ line) = if is_blank c then skip line else c ∷ line

-- The position of the first blank, or the length if there is none.
abbrev pub end_of_word : List ℕ → ℕ
end_of_word line = unwrap_or (position is_blank line) (length line)

-- What a word asks for, given whether it is the only word of the line.
abbrev pub named : List ℕ → Bool → Aside
named word alone =
    if bytes_eq word (codes "help") then Help
    else if bytes_eq word (codes "read") then Read
    else if bytes_eq word (codes "save") then Save
    else if (bytes_eq word (codes "quit") || bytes_eq word (codes "exit")) && alone then Quit
    else Nothing

-- What a line without leading blanks asks for, according to its first word.
abbrev pub by_word : List ℕ → Aside
by_word line = named (take (end_of_word line) line)
    (list_all is_blank (drop (end_of_word line) line))

-- What a line of a file asks for.
abbrev pub aside_of : List ℕ → Aside
aside_of line = by_word (skip line)

-- The last byte of the line is the one that Ctrl-C types.
abbrev pub is_cancelled : List ℕ → Bool
is_cancelled line = ends_with nat_eq line (3 ∷ [])

-- What a typed line asks for. The line may be cancelled. It may also have been cut, if it is as
-- long as the longest line that a terminal returns.
abbrev pub typed_of : List ℕ → Aside
typed_of line = if is_cancelled line then Cancelled else if nat_le 4095 (length line) then Cut
    else aside_of line
