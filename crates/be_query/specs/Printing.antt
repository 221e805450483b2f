-- The canonical text of a tree.
use Rattle.std.specs.Prelude.{◌≡◌, Ok, Some, None, ℕ, ◌+◌, max, nat_lt, Option, Bool, true, false}
use Rattle.std.specs.Prelude.{List, [], ◌∷◌, ◌++◌, length, ◌||◌, ◌==◌, if◌then◌else◌}
use Rattle.std.specs.Prelude.{encode_utf8_all, codes}
use Rattle.be_pattern.specs.Canonical.{canonical}
use Rattle.be_value.specs.declared.refusals.Refusal.{Refusal}
use Rattle.be_value.specs.declared.refusals.Refusal.TheVariants.{TooLong, TooDeep}
use Rattle.be_query.specs.declared.tree.Cmp.{Cmp}
use Rattle.be_query.specs.declared.tree.Cmp.TheVariants.{Eq, Ne, Lt, Le, Gt, Ge}
use Rattle.be_query.specs.declared.lexer.Span.TheVariants.{Ends}
use Rattle.be_pattern.specs.Parse.{pattern}
use Rattle.std.specs.Str.{all_scalars}
use Rattle.be_query.specs.Faults.{takes_pattern}
use Rattle.be_query.specs.Lexing.{quoted_span}
use Rattle.be_query.specs.Tokens.{Token, Open, Close, Both, Either, Compares, Text, plain, is_name}
use Rattle.be_value.specs.Name.{name_from, has_nul}
use Rattle.be_query.specs.Grammar.{Formula, Leaf, And, Or, Literal, Wild, Exact, literal_of}

-- `"` and `\`.
abbrev pub wants_backslash : ℕ → Bool
wants_backslash b = (b == 34) || (b == 92)

-- The bytes, with a backslash before every `"` and `\`.
abbrev pub with_backslashes : List ℕ → List ℕ
with_backslashes [] = []
with_backslashes (b ∷ bs) = if wants_backslash b then 92 ∷ b ∷ with_backslashes bs else b
    ∷ with_backslashes bs

abbrev pub literal_text : Literal → List ℕ
literal_text (Wild ps) = encode_utf8_all (canonical ps)
literal_text (Exact bs) = with_backslashes bs

abbrev pub cmp_text : Cmp → List ℕ
cmp_text Eq = codes "=="
cmp_text Ne = codes "!="
cmp_text Lt = codes "<"
cmp_text Le = codes "<="
cmp_text Gt = codes ">"
cmp_text Ge = codes ">="

abbrev pub leaf_text : List ℕ → Cmp → Literal → List ℕ
leaf_text name op value = codes "\"" ++ with_backslashes name ++ codes "\"" ++ cmp_text op
    ++ codes "\"" ++ literal_text value ++ codes "\""

-- The text of a tree in a position where `||`, a side of `||`, or an operand of `&&` may occur.
abbrev mutual
  pub or_text : Formula → List ℕ
  or_text (Leaf n op v) = leaf_text n op v
  or_text (And l r) = and_text l ++ codes " && " ++ operand_text r
  or_text (Or l r) = or_text l ++ codes " || " ++ and_text r

  pub and_text : Formula → List ℕ
  and_text (Leaf n op v) = leaf_text n op v
  and_text (And l r) = and_text l ++ codes " && " ++ operand_text r
  and_text (Or l r) = codes "(" ++ or_text l ++ codes " || " ++ and_text r ++ codes ")"

  pub operand_text : Formula → List ℕ
  operand_text (Leaf n op v) = leaf_text n op v
  operand_text (And l r) = codes "(" ++ and_text l ++ codes " && " ++ operand_text r ++ codes ")"
  operand_text (Or l r) = codes "(" ++ or_text l ++ codes " || " ++ and_text r ++ codes ")"

-- The maximum number of parentheses around a comparison in that text.
abbrev mutual
  pub or_depth : Formula → ℕ
  or_depth (Leaf n op v) = 0
  or_depth (And l r) = max (and_depth l) (operand_depth r)
  or_depth (Or l r) = max (or_depth l) (and_depth r)

  pub and_depth : Formula → ℕ
  and_depth (Leaf n op v) = 0
  and_depth (And l r) = max (and_depth l) (operand_depth r)
  and_depth (Or l r) = 1 + max (or_depth l) (and_depth r)

  pub operand_depth : Formula → ℕ
  operand_depth (Leaf n op v) = 0
  operand_depth (And l r) = 1 + max (and_depth l) (operand_depth r)
  operand_depth (Or l r) = 1 + max (or_depth l) (and_depth r)

-- The limit that the canonical text exceeds, if any.
abbrev pub limit_of : Formula → Option Refusal
limit_of t = if nat_lt 4096 (length (or_text t)) then Some TooLong
    else (if nat_lt 64 (or_depth t) then Some TooDeep else None)

-- The tokens of these texts.
abbrev pub leaf_tokens : List ℕ → Cmp → Literal → List Token
leaf_tokens name op value = Text (with_backslashes name) ∷ Compares op ∷ Text (literal_text value)
    ∷ []

abbrev mutual
  pub or_printed : Formula → List Token
  or_printed (Leaf n op v) = leaf_tokens n op v
  or_printed (And l r) = and_printed l ++ Both ∷ operand_printed r
  or_printed (Or l r) = or_printed l ++ Either ∷ and_printed r

  pub and_printed : Formula → List Token
  and_printed (Leaf n op v) = leaf_tokens n op v
  and_printed (And l r) = and_printed l ++ Both ∷ operand_printed r
  and_printed (Or l r) = Open ∷ ((or_printed l ++ Either ∷ and_printed r) ++ Close ∷ [])

  pub operand_printed : Formula → List Token
  operand_printed (Leaf n op v) = leaf_tokens n op v
  operand_printed (And l r) = Open ∷ ((and_printed l ++ Both ∷ operand_printed r) ++ Close ∷ [])
  operand_printed (Or l r) = Open ∷ ((or_printed l ++ Either ∷ and_printed r) ++ Close ∷ [])

-- Every name is valid, and every printed name and value is read back.
abbrev pub IsPrintable : Formula → Type 0
IsPrintable (Leaf n op v) = (is_name (with_backslashes n) ≡ true) × (plain (with_backslashes n) ≡ n)
    × (literal_of op (literal_text v) ≡ v)
IsPrintable (And l r) = IsPrintable l × IsPrintable r
IsPrintable (Or l r) = IsPrintable l × IsPrintable r

-- Between two `"`, the string is a single token.
abbrev pub IsWhole : List ℕ → Type 0
IsWhole text = (rest : List ℕ) → quoted_span 34 false (text ++ 34 ∷ rest) ≡ Ends (length text)

-- Every printed name and value is a single token.
abbrev pub IsQuotable : Formula → Type 0
IsQuotable (Leaf n op v) = IsWhole (with_backslashes n) × IsWhole (literal_text v)
IsQuotable (And l r) = IsQuotable l × IsQuotable r
IsQuotable (Or l r) = IsQuotable l × IsQuotable r

-- The pattern is read back from its canonical text, and no string contains a NUL.
abbrev pub IsKeptBy : Cmp → Literal → Type 0
IsKeptBy op (Wild ps) = (takes_pattern op ≡ true) × (pattern (canonical ps) ≡ Ok ps)
    × (has_nul (canonical ps) ≡ false) × (all_scalars (canonical ps) ≡ true)
IsKeptBy op (Exact bs) = (takes_pattern op ≡ false) × (has_nul bs ≡ false)

-- Every name is valid, and printing preserves every value.
abbrev pub IsKept : Formula → Type 0
IsKept (Leaf n op v) = (name_from n ≡ Ok n) × IsKeptBy op v
IsKept (And l r) = IsKept l × IsKept r
IsKept (Or l r) = IsKept l × IsKept r
