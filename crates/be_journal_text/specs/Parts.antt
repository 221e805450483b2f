-- The parts of an entry's line.
use Rattle.std.specs.Prelude.{◌≡◌, ◌≢◌, ℕ, All, List, [], ◌∷◌, ◌++◌, Some, None, flat_map}
use Rattle.std.specs.declared.option.Option.{Option}
use Rattle.std.specs.declared.result.Result.TheVariants.{Ok}
use Rattle.be_journal.specs.Text.{escaped}
use Rattle.be_script_language.specs.Request.{Request, write, asked}
use Rattle.be_volume.specs.declared.ops.Op.{Op}

-- a single byte, or characters in quotes
pub data Piece : Type 0 where
  byte : ℕ → Piece
  in_quotes : List ℕ → Piece

abbrev pub piece_text : Piece → List ℕ
piece_text (byte c) = c ∷ []
piece_text (in_quotes characters) = 34 ∷ (flat_map escaped characters ++ 34 ∷ [])

-- the piece has no `end` outside quotes
abbrev pub IsApart : ℕ → Piece → Type 0
IsApart end (byte c) = (c ≢ end) × (c ≢ 34)
IsApart end (in_quotes characters) = 34 ≢ end

-- a part of a line: bytes and quoted characters, without `end` outside quotes
pub record IsLinePart (end : ℕ) (text : List ℕ) : Type 0 where
  pub pieces : List Piece
  pub apart : All (IsApart end) pieces
  pub is : text ≡ flat_map piece_text pieces

-- the operation that a line requests
abbrev pub op_of : Request → Option Op
op_of (write (Ok op)) = Some op
op_of request = None

abbrev pub op_in : List ℕ → Option Op
op_in text = op_of (asked text)
