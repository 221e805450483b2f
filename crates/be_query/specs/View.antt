-- How the definitions view the program's values.
-- Public contracts use only `formula`, `literal` and `IsMemory`.
use Rattle.std.specs.Prelude.{◌≡◌, ◌⊎◌, ◌<◌, ◌≤◌, ◌-◌, ℕ, Bool, true, if◌then◌else◌, ◌||◌, ◌==◌}
use Rattle.std.specs.Prelude.{◌+◌, Option, Some, None, List, [], ◌∷◌, string_bytes, map, reverse}
use Rattle.std.specs.Prelude.{length, drop, IsUtf8, false}
use Rattle.be_value.specs.Name.{name_from, has_nul}
use Rattle.std.specs.Prelude.{get_or}
use Rattle.be_value.specs.declared.refusals.Refusal.{Refusal}
use Rattle.be_value.specs.declared.refusals.Refusal.TheVariants.{OutOfMemory}
use Rattle.std.specs.Global.{Global}
use Rattle.std.specs.declared.boxed.Box.{Box}
use Rattle.be_query.specs.declared.tree.Literal as code_literal
use Rattle.be_query.specs.declared.tree.Tree as code_tree
use Rattle.be_query.specs.declared.token.Token as code_token
use Rattle.be_query.specs.declared.lexer.Front as code_front
use Rattle.be_query.specs.declared.parser.Level as code_level
use Rattle.be_query.specs.declared.parser.Stage as code_stage
use Rattle.be_query.specs.declared.parser.Context as code_context
use Rattle.be_query.specs.declared.parser.Parser as code_parser
use Rattle.be_query.specs.declared.printing.Place as code_place
use Rattle.be_query.specs.Printing.{or_text, and_text, operand_text}
use Rattle.std.specs.Result.{is_ok}
use Rattle.be_query.specs.Tokens.{Token, Open, Close, Bang, Both, Either, Compares, Text, plain}
use Rattle.be_query.specs.Grammar.{Formula, Leaf, And, Or, Literal, Wild, Exact}
use Rattle.be_query.specs.Building.{Level, Stage, Operands, Operators, Values, Joints, State}
use Rattle.be_query.specs.Building.{IsSettledAt, marks_of, awaited_at, build_at}
use Rattle.be_query.specs.Lexing.{Placed, Lexeme, Whole, Broken, Odd, Separator, Takes, front}
use Rattle.be_query.specs.Lexing.{is_sign}
use Rattle.be_query.specs.Faults.{first_fault}

abbrev pub literal : code_literal.Literal → Literal
literal (code_literal.TheVariants.Pattern p) = Wild p
literal (code_literal.TheVariants.Text s) = Exact (string_bytes s)

abbrev pub formula : code_tree.Tree → Formula
formula (code_tree.Leaf c) = Leaf c.name c.op (literal c.literal)
formula (code_tree.And' p l q r) = And (formula l) (formula r)
formula (code_tree.Or' p l q r) = Or (formula l) (formula r)

abbrev pub side_of : Option (Box code_tree.Tree Global) → Option Formula
side_of None = None
side_of (Some b) = Some (formula b.value)

abbrev pub level_seen : code_level.Level → Level
level_seen l = record {
  negated = l.negated;
  operand_negated = l.operand_negated;
  or_left = side_of l.or_left;
  and_left = side_of l.and_left;
  negations = l.negations;
}

abbrev pub stage_of : code_stage.Stage → Stage
stage_of code_stage.TheVariants.Operand = Operands
stage_of (code_stage.TheVariants.Operator raw) = Operators (plain raw.now)
stage_of (code_stage.TheVariants.Value raw op) = Values (plain raw.now) op
stage_of (code_stage.TheVariants.Joint tree) = Joints (formula tree.value)

abbrev pub token_of : code_token.Token → Token
token_of code_token.TheVariants.Open = Open
token_of code_token.TheVariants.Close = Close
token_of code_token.TheVariants.Bang = Bang
token_of code_token.TheVariants.Both = Both
token_of code_token.TheVariants.Either = Either
token_of (code_token.TheVariants.Compares op) = Compares op
token_of (code_token.TheVariants.Text raw) = Text raw.now

-- A name or value is valid UTF-8 without a NUL.
abbrev pub IsClean : Token → Type 0
IsClean Open = Unit {0}
IsClean Close = Unit {0}
IsClean Bang = Unit {0}
IsClean Both = Unit {0}
IsClean Either = Unit {0}
IsClean (Compares op) = Unit {0}
IsClean (Text raw) = (has_nul raw ≡ false) × IsUtf8 raw

-- If the text begins with a token, the token is clean.
abbrev pub IsCleanFront : code_front.Front → Type 0
IsCleanFront (code_front.TheVariants.Separator rest) = Unit {0}
IsCleanFront (code_front.TheVariants.Token token shift rest) = IsClean (token_of token)
IsCleanFront (code_front.TheVariants.Broken n) = Unit {0}
IsCleanFront code_front.TheVariants.Odd = Unit {0}

-- The length of a token's own text.
abbrev pub text_len : Token → ℕ
text_len Open = 0
text_len Close = 0
text_len Bang = 0
text_len Both = 0
text_len Either = 0
text_len (Compares op) = 0
text_len (Text raw) = length raw

-- The levels around the innermost one, from the innermost to the outermost.
abbrev pub outer_of : code_context.Context → List Level
outer_of c = reverse (map level_seen c.outer.items)

abbrev pub state_of : Stage → code_context.Context → State
state_of stage c = record { stage = stage; level = level_seen c.level; outer = outer_of c }

abbrev pub parser_state : code_parser.Parser → State
parser_state p = state_of (stage_of p.stage) p.context

-- If an operator or a value is awaited, the name before it is valid.
abbrev pub IsNamed : Stage → Type 0
IsNamed Operands = Unit {0}
IsNamed (Operators name) = is_ok (name_from name) ≡ true
IsNamed (Values name op) = is_ok (name_from name) ≡ true
IsNamed (Joints t) = Unit {0}

-- The counts are correct, and the name is valid.
pub record IsCounted (stage : Stage) (c : code_context.Context) : Type 0 where
  pub named : IsNamed stage
  pub settled : IsSettledAt stage (level_seen c.level)
  pub deep : c.depth ≡ length (marks_of (level_seen c.level) (outer_of c))
  pub shallow : c.depth ≤ 64
  pub few : c.comparisons ≤ 256

-- The first error in the lexemes that follow.
abbrev pub fault_in : Stage → code_context.Context → ℕ → List Placed → Option Refusal
fault_in stage c len xs = first_fault (awaited_at stage)
    (marks_of (level_seen c.level) (outer_of c)) c.comparisons len xs

-- Either memory ran out, or the error is as stated.
abbrev pub IsMemory : Refusal → Type 0 → Type 0
IsMemory e otherwise = (e ≡ OutOfMemory) ⊎ otherwise

-- The text of a tree in this context.
abbrev pub printed_at : code_place.Place → Formula → List ℕ
printed_at code_place.TheVariants.Side t = or_text t
printed_at code_place.TheVariants.Part t = and_text t
printed_at code_place.TheVariants.Operand t = operand_text t

abbrev pub only_if : Bool → List ℕ → List ℕ
only_if shown t = if shown then t else []

-- A token was accepted, and reading continues.
pub record TakesToken (stage : Stage) (c : code_context.Context) (at start : ℕ) (t : Token)
    (after : code_stage.Stage) (d : code_context.Context) : Type 0 where
  pub counted : IsCounted (stage_of after) d
  pub built : build_at stage (level_seen c.level) (outer_of c) t
      ≡ Some (state_of (stage_of after) d)
  pub faults : (len : ℕ) (xs : List Placed)
      → fault_in stage c len (record { at = at; start = start; lexeme = Whole t } ∷ xs)
      ≡ fault_in (stage_of after) d len xs

-- The token causes this error, whatever follows it, unless memory ran out.
abbrev pub Refuses : Stage → code_context.Context → ℕ → ℕ → Token → Refusal → Type 0
Refuses stage c at start t e = IsMemory e
    ((len : ℕ) (xs : List Placed) → fault_in stage c len
    (record { at = at; start = start; lexeme = Whole t } ∷ xs) ≡ Some e)

-- The bytes begin with this lexeme.
abbrev pub HasLexeme : List ℕ → Lexeme → ℕ → ℕ → Type 0
HasLexeme [] lexeme width shift = ⊥
HasLexeme (b ∷ bs) lexeme width shift = front b bs ≡ Takes lexeme width shift

abbrev pub BeginsSeparated : List ℕ → List ℕ → Type 0
BeginsSeparated [] rest = ⊥
BeginsSeparated (b ∷ bs) rest = (front b bs ≡ Separator) × (rest ≡ bs)

abbrev pub IsFront : List ℕ → code_front.Front → Type 0
IsFront text (code_front.TheVariants.Separator rest) = BeginsSeparated text rest.now
IsFront text (code_front.TheVariants.Token token shift rest) = (width : ℕ)
    × HasLexeme text (Whole (token_of token)) width shift × (rest.now ≡ drop width text)
    × (1 ≤ width) × (width ≤ length text) × (shift + text_len (token_of token) ≤ width)
IsFront text (code_front.TheVariants.Broken n) = (width : ℕ) × HasLexeme text (Broken n) width 0
    × (n ≤ length text)
IsFront text code_front.TheVariants.Odd = (width : ℕ) × HasLexeme text Odd width 0

abbrev pub second_of : Option ℕ → List ℕ
second_of None = []
second_of (Some b) = b ∷ []

-- The token that a sign begins, given the byte after it.
abbrev pub SignIs : ℕ → Option ℕ → Option (code_token.Token × ℕ) → Type 0
SignIs first second None = (is_sign first || (first == 0)) ≡ true → front first (second_of second)
    ≡ Takes Odd 1 0
SignIs first second (Some p) = (front first (second_of second) ≡ Takes (Whole (token_of p.0)) p.1 0)
    × (1 ≤ p.1) × (p.1 ≤ 1 + length (second_of second))
    × (get_or (first ∷ second_of second) (p.1 - 1) 0 < 128) × (text_len (token_of p.0) ≡ 0)
