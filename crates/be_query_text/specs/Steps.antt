-- One step from the front of the text toward its end.
-- This is used only by the proofs.
use Rattle.std.specs.Prelude.{◌≡◌, ◌≤◌, ◌<◌, ℕ, ◌+◌, ◌-◌, true, false, Option, Some, None}
use Rattle.std.specs.Prelude.{List, ◌∷◌, length, ◌||◌, ◌==◌}
use Rattle.be_query.specs.Lexing.{Placed, Whole, Odd, Takes, front, is_sign, lexemes, all_whole}
use Rattle.be_query.specs.Tokens.{Token, Open, Close, Bang, Both, Either, Compares}
use Rattle.be_query.specs.View.{second_of}
use Rattle.be_query_text.specs.Places.{pieces}
use Rattle.be_query_text.specs.declared.places.Sign as code_sign
use Rattle.be_query_text.specs.declared.places.Step as code_step

abbrev pub token_of : code_sign.Sign → Token
token_of code_sign.TheVariants.Open = Open
token_of code_sign.TheVariants.Close = Close
token_of code_sign.TheVariants.Bang = Bang
token_of code_sign.TheVariants.Both = Both
token_of code_sign.TheVariants.Either = Either
token_of (code_sign.TheVariants.Compares op) = Compares op

-- The token that a sign begins, given the byte after it.
abbrev pub SignIs : ℕ → Option ℕ → Option (code_sign.Sign × ℕ) → Type 0
SignIs first second None = (is_sign first || (first == 0)) ≡ true → front first (second_of second)
    ≡ Takes Odd 1 0
SignIs first second (Some p) = (front first (second_of second) ≡ Takes (Whole (token_of p.0)) p.1 0)
    × (1 ≤ p.1) × (p.1 ≤ 1 + length (second_of second))

-- The lexemes in the rest of the text, which is `total` bytes long.
abbrev pub left : ℕ → List ℕ → List Placed
left total rest = lexemes 0 (total - length rest) rest

-- A step leads from the bytes `rest` to the bytes `beyond`, and no lexeme between them is cut off.
abbrev pub GoesOn : ℕ → List ℕ → List ℕ → Type 0
GoesOn total rest beyond = (all_whole (left total rest) ≡ all_whole (left total beyond))
    × (length beyond < length rest)

-- What a step leaves.
abbrev pub IsStep : ℕ → List ℕ → code_step.Step → Type 0
IsStep total rest (code_step.TheVariants.Passed beyond) = (pieces (left total rest)
    ≡ pieces (left total beyond.now)) × GoesOn total rest beyond.now
IsStep total rest (code_step.TheVariants.Found piece beyond) = (pieces (left total rest)
    ≡ piece ∷ pieces (left total beyond.now)) × GoesOn total rest beyond.now
IsStep total rest code_step.TheVariants.Stuck = all_whole (left total rest) ≡ false
