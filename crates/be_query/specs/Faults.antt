-- The error of a query's text: the first one found when its tokens are read from left to right.
use Rattle.std.specs.Prelude.{ℕ, ◌+◌, Bool, true, false, Option, Some, None, Result, Ok, Err, List}
use Rattle.std.specs.Prelude.{[], ◌∷◌, length, nat_lt, nat_le, if◌then◌else◌}
use Rattle.std.specs.Str.{chars}
use Rattle.be_pattern.specs.Parse.{pattern}
use Rattle.be_value.specs.declared.refusals.Refusal.{Refusal}
use Rattle.be_value.specs.declared.refusals.Refusal.TheVariants.{Syntax, BadPattern, TooLong}
use Rattle.be_value.specs.declared.refusals.Refusal.TheVariants.{TooDeep, TooMany}
use Rattle.be_query.specs.declared.tree.Cmp.{Cmp}
use Rattle.be_query.specs.declared.tree.Cmp.TheVariants.{Eq, Ne, Lt, Le, Gt, Ge}
use Rattle.be_query.specs.Tokens.{Token, Open, Bang, Text}
use Rattle.be_query.specs.Reading.{Awaited, Operand, Value, Joint, Mark, next}
use Rattle.be_query.specs.Lexing.{Whole, Broken, Odd, Placed, lexemes}

-- The operator takes a pattern.
abbrev pub takes_pattern : Cmp → Bool
takes_pattern Eq = true
takes_pattern Ne = true
takes_pattern Lt = false
takes_pattern Le = false
takes_pattern Gt = false
takes_pattern Ge = false

abbrev pub error_of : {A : Type 0} → Result A ℕ → Option ℕ
error_of (Ok a) = None
error_of (Err at) = Some at

-- The position of the error in a value that is a pattern, if there is an error.
abbrev pub bad_pattern : Cmp → List ℕ → Option ℕ
bad_pattern op raw = if takes_pattern op then error_of (pattern (chars raw)) else None

-- The error of a value: either a bad pattern at this position, or one comparison too many after
-- `comparisons` others.
abbrev pub value_fault : ℕ → ℕ → Option ℕ → Option Refusal
value_fault comparisons start (Some at) = Some (BadPattern (start + at))
value_fault comparisons start None = if nat_le 256 comparisons then Some TooMany else None

-- The error in the token itself, if it is a token that can follow. It comes after `comparisons`
-- comparisons, and its own text begins at `start`.
abbrev pub own_fault : Awaited → List Mark → ℕ → ℕ → Token → Option Refusal
own_fault Operand marks comparisons start Open = if nat_le 64 (length marks) then Some TooDeep
    else None
own_fault Operand marks comparisons start Bang = if nat_le 64 (length marks) then Some TooDeep
    else None
own_fault (Value op) marks comparisons start (Text raw) = value_fault comparisons start
    (bad_pattern op raw)
own_fault _ _ _ _ _ = None

abbrev pub comparisons_with : Awaited → ℕ → ℕ
comparisons_with (Value op) comparisons = comparisons + 1
comparisons_with _ comparisons = comparisons

-- The position of the error in a name or value that is cut off: the point where it is cut off if a
-- name or value may come here, and otherwise its first byte.
abbrev pub broken_at : Awaited → ℕ → ℕ → ℕ
broken_at Operand at n = at + n
broken_at (Value op) at n = at + n
broken_at _ at n = at

abbrev pub ends : Awaited → List Mark → ℕ → Option Refusal
ends Joint [] len = None
ends _ _ len = Some (Syntax len)

-- The first error of the lexemes, in text of `len` bytes that has been read up to these lexemes.
abbrev pub first_fault : Awaited → List Mark → ℕ → ℕ → List Placed → Option Refusal
first_fault place marks comparisons len [] = ends place marks len
first_fault place marks comparisons len (x ∷ xs) = elim x.lexeme [
  | Odd ↦ Some (Syntax x.at)
  | Broken n ↦ Some (Syntax (broken_at place x.at n))
  | Whole t ↦ elim (next place marks t) [
    | None ↦ Some (Syntax x.at)
    | Some s ↦ elim (own_fault place marks comparisons x.start t) [
      | Some fault ↦ Some fault
      | None ↦ first_fault s.0 s.1 (comparisons_with place comparisons) len xs
    ]
  ]
]

abbrev pub fault : List ℕ → Option Refusal
fault text = if nat_lt 4096 (length text) then Some TooLong
    else first_fault Operand [] 0 (length text) (lexemes 0 0 text)
