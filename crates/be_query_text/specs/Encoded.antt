-- A string as a name or a value in a query.
use Rattle.std.specs.Prelude.{◌≡◌, ℕ, ◌+◌, Bool, true, false, ◌||◌, ◌==◌, List, [], ◌∷◌, ◌++◌}
use Rattle.std.specs.Prelude.{length, map, Ok}
use Rattle.std.specs.List.{flat_map}
use Rattle.std.specs.Str.{chars}
use Rattle.be_pattern.specs.Canonical.{marked}
use Rattle.be_pattern.specs.Match.{Only}
use Rattle.be_pattern.specs.Parse.{pattern}
use Rattle.be_query.specs.Lexing.{Takes, Whole, front, is_quote, is_separator, is_sign, is_word}
use Rattle.be_query.specs.Tokens.{Text, plain}

-- The bytes are at an end, or begin with a byte that can't be in a word.
abbrev pub EndsWord : List ℕ → Type 0
EndsWord [] = Unit {0}
EndsWord (b ∷ bs) = is_word b ≡ false

-- The bytes are one name or value between quotes of either kind, and also without quotes if there
-- are any bytes.
pub record IsOneToken (bytes : List ℕ) : Type 0 where
  pub quoted : (quote : ℕ) (rest : List ℕ) → is_quote quote ≡ true
      → front quote (bytes ++ quote ∷ rest) ≡ Takes (Whole (Text bytes)) (length bytes + 2) 1
  pub word : (b : ℕ) (bs rest : List ℕ) → bytes ≡ b ∷ bs → EndsWord rest → front b (bs ++ rest)
      ≡ Takes (Whole (Text bytes)) (length bytes) 0

-- A query reads the bytes as this string, wherever it reads a name or a value.
pub record Encodes (bytes text : List ℕ) : Type 0 where
  pub token : IsOneToken bytes
  -- As a name, or as the value of an order operator.
  pub exact : plain bytes ≡ text
  -- As the value of `==` and `!=`.
  pub literal : pattern (chars bytes) ≡ Ok (map Only (chars text))

-- The character has a special meaning in a query or a pattern.
abbrev pub is_special : ℕ → Bool
is_special c = (is_separator c || is_quote c || is_sign c) || (c == 92) || (c == 42) || (c == 63)
    || (c == 91)

abbrev pub escaped_char : ℕ → List ℕ
escaped_char c = marked (is_special c) c

-- The string with a backslash before each special character.
abbrev pub escaped : List ℕ → List ℕ
escaped = flat_map escaped_char
