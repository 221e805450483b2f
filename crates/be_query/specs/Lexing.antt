-- How the text of a query, which is a list of bytes, is split into tokens.
-- The longest possible token is taken.
use Rattle.std.specs.Prelude.{◌≡◌, ◌≢◌, ◌≤◌, ◌<◌, ◌⊎◌, ℕ, ◌+◌, ◌-◌, zero, suc, Bool, true, false}
use Rattle.std.specs.Prelude.{List, [], ◌∷◌, length, slice_index, take, ◌||◌, not, ◌==◌}
use Rattle.std.specs.Prelude.{if◌then◌else◌}
use Rattle.be_query.specs.declared.lexer.Span.{Span}
use Rattle.be_query.specs.declared.lexer.Span.TheVariants.{Ends, Breaks}
use Rattle.be_query.specs.declared.tree.Cmp.TheVariants.{Eq, Ne, Lt, Le, Gt, Ge}
use Rattle.be_query.specs.Tokens.{Token, Open, Close, Bang, Both, Either, Compares, Text}

-- Space, tab, LF and CR.
abbrev pub is_separator : ℕ → Bool
is_separator b = (b == 32) || (b == 9) || (b == 10) || (b == 13)

-- `"` and `'`.
abbrev pub is_quote : ℕ → Bool
is_quote b = (b == 34) || (b == 39)

-- `=`, `!`, `<`, `>`, `&`, `|`, `(` and `)`.
abbrev pub is_sign : ℕ → Bool
is_sign b = (b == 61) || (b == 33) || (b == 60) || (b == 62) || (b == 38) || (b == 124) || (b == 40)
    || (b == 41)

abbrev pub is_word : ℕ → Bool
is_word b = not (is_separator b || is_quote b || is_sign b || (b == 0))

-- A byte at which a quoted string may end or be cut off, or a backslash that escapes the next byte.
abbrev pub is_mark : ℕ → ℕ → Bool
is_mark quote b = (b == quote) || (b == 0) || (b == 92)

-- `next` is the position after the byte at `at`, or after a backslash there and the byte that it
-- escapes.
abbrev pub IsBeyond : List ℕ → ℕ → ℕ → Type 0
IsBeyond bytes at next =
    ((slice_index bytes at ≢ 92) × (next ≡ at + 1))
    ⊎ ((slice_index bytes at ≡ 92) × (at + 1 < length bytes) × (slice_index bytes (at + 1) ≢ 0)
    × (next ≡ at + 1 + 1))

-- There is a backslash at this position, followed by a NUL or the end of the bytes.
abbrev pub IsLone : List ℕ → ℕ → Type 0
IsLone bytes at = (slice_index bytes at ≡ 92)
    × ((length bytes ≤ at + 1) ⊎ ((at + 1 < length bytes) × (slice_index bytes (at + 1) ≡ 0)))

abbrev pub further : Span → Span
further (Ends n) = Ends (n + 1)
further (Breaks n) = Breaks (n + 1)

-- The extent of a word. The first argument says whether these bytes follow a backslash.
abbrev pub word_span : Bool → List ℕ → Span
word_span true [] = Breaks 0
word_span true (b ∷ bs) = if b == 0 then Breaks 0 else further (word_span false bs)
word_span false [] = Ends 0
word_span false (b ∷ bs) = if b == 92 then further (word_span true bs)
    else (if is_word b then further (word_span false bs) else Ends 0)

-- The extent of the string that follows an opening quote, up to the next quote of the same kind.
-- The second argument says whether these bytes follow a backslash.
abbrev pub quoted_span : ℕ → Bool → List ℕ → Span
quoted_span quote true [] = Breaks 0
quoted_span quote true (b ∷ bs) = if b == 0 then Breaks 0 else further (quoted_span quote false bs)
quoted_span quote false [] = Breaks 0
quoted_span quote false (b ∷ bs) =
    if b == quote then Ends 0 else (if b == 0 then Breaks 0
    else (if b == 92 then further (quoted_span quote true bs)
    else further (quoted_span quote false bs)))

pub data Lexeme : Type 0 where
  Whole : Token → Lexeme
  -- A name or value that is cut off this many bytes after its first byte.
  Broken : ℕ → Lexeme
  -- A byte that can't begin a token: a single `&` or `|`, or a NUL.
  Odd : Lexeme

-- What the text begins with: a separator, or a lexeme with its length and the number of bytes
-- before its own text.
pub data Front : Type 0 where
  Separator : Front
  Takes : Lexeme → ℕ → ℕ → Front

abbrev pub word_front : List ℕ → Span → Front
word_front bs (Ends n) = Takes (Whole (Text (take n bs))) n 0
word_front bs (Breaks n) = Takes (Broken n) 1 0

abbrev pub quoted_front : List ℕ → Span → Front
quoted_front bs (Ends n) = Takes (Whole (Text (take n bs))) (n + 2) 1
quoted_front bs (Breaks n) = Takes (Broken (n + 1)) 1 0

-- The sign of two bytes if the second one follows, and otherwise the sign of one byte.
abbrev pub sign_front : ℕ → Lexeme → Lexeme → List ℕ → Front
sign_front second two one [] = Takes one 1 0
sign_front second two one (b ∷ bs) = if b == second then Takes two 2 0 else Takes one 1 0

abbrev pub front : ℕ → List ℕ → Front
front b bs =
    if is_separator b then Separator
    else (if is_quote b then quoted_front bs (quoted_span b false bs)
    else (if b == 40 then Takes (Whole Open) 1 0
    else (if b == 41 then Takes (Whole Close) 1 0
    else (if b == 61 then sign_front 61 (Whole (Compares Eq)) (Whole (Compares Eq)) bs
    else (if b == 33 then sign_front 61 (Whole (Compares Ne)) (Whole Bang) bs
    else (if b == 60 then sign_front 61 (Whole (Compares Le)) (Whole (Compares Lt)) bs
    else (if b == 62 then sign_front 61 (Whole (Compares Ge)) (Whole (Compares Gt)) bs
    else (if b == 38 then sign_front 38 (Whole Both) Odd bs
    else (if b == 124 then sign_front 124 (Whole Either) Odd bs
    else (if b == 0 then Takes Odd 1 0
    else word_front (b ∷ bs) (word_span false (b ∷ bs))))))))))))

-- A lexeme, the position where it begins, and the position where its own text begins.
pub record Placed : Type 0 where
  pub at : ℕ
  pub start : ℕ
  pub lexeme : Lexeme

-- The lexemes of the text that begins at position `at`. The first `taken` bytes of the text belong
-- to the previous lexeme.
abbrev pub lexemes : ℕ → ℕ → List ℕ → List Placed
lexemes taken at [] = []
lexemes (suc taken) at (b ∷ bs) = lexemes taken (at + 1) bs
lexemes zero at (b ∷ bs) = elim (front b bs) [
  | Separator ↦ lexemes 0 (at + 1) bs
  | Takes lexeme width shift ↦ record { at = at; start = at + shift; lexeme = lexeme }
      ∷ lexemes (width - 1) (at + 1) bs
]

-- The tokens among the lexemes.
abbrev pub whole : List Placed → List Token
whole [] = []
whole (x ∷ xs) = elim x.lexeme [ Whole t ↦ t ∷ whole xs | Broken n ↦ whole xs | Odd ↦ whole xs ]

-- Every lexeme is a token.
abbrev pub all_whole : List Placed → Bool
all_whole [] = true
all_whole (x ∷ xs) = elim x.lexeme [ Whole t ↦ all_whole xs | Broken n ↦ false | Odd ↦ false ]

-- The tokens of the text.
abbrev pub tokens : List ℕ → List Token
tokens text = whole (lexemes 0 0 text)
