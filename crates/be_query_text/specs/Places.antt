-- Where the comparisons of a query are in its text. Places are in bytes.
use Rattle.std.specs.Prelude.{ℕ, ◌+◌, ◌-◌, List, [], ◌∷◌, ◌++◌, length}
use Rattle.be_query.specs.Lexing.{Placed, Whole, Broken, Odd, lexemes}
use Rattle.be_query.specs.Tokens.{Token, Open, Close, Bang, Both, Either, Compares, Text}
use Rattle.be_query_text.specs.declared.places.Piece as code
use Rattle.be_query_text.specs.declared.places.Place.{Place}

-- What a token contributes to a comparison: a name or a value, an operator, or nothing. The token
-- begins at `at`, and its own text at `start`.
abbrev pub pieces_of : ℕ → ℕ → Token → List code.Piece
pieces_of at start Open = []
pieces_of at start Close = []
pieces_of at start Bang = []
pieces_of at start Both = []
pieces_of at start Either = []
pieces_of at start (Compares op) = code.TheVariants.Operator op ∷ []
pieces_of at start (Text raw) = code.TheVariants.Text
    (record {
      at = at;
      start = start;
      stop = start + length raw;
      end = start + length raw + (start - at);
    }) ∷ []

-- The names, operators and values in the text, from left to right.
abbrev pub pieces : List Placed → List code.Piece
pieces [] = []
pieces (x ∷ xs) = elim x.lexeme [
  | Whole t ↦ pieces_of x.at x.start t ++ pieces xs
  | Broken n ↦ pieces xs
  | Odd ↦ pieces xs
]

-- Every three consecutive pieces form a comparison.
abbrev pub three_by_three : List code.Piece → List Place
three_by_three (code.TheVariants.Text name ∷ code.TheVariants.Operator op
    ∷ code.TheVariants.Text value ∷ more) = record { name = name; op = op; value = value }
    ∷ three_by_three more
three_by_three _ = []

-- The places of a query's comparisons in its text, from left to right.
abbrev pub places : List ℕ → List Place
places text = three_by_three (pieces (lexemes 0 0 text))
