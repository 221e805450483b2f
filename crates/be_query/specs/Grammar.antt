-- The grammar of queries:
--   or  = and { "||" and }
--   and = not { "&&" not }
--   not = "!" not | "(" or ")" | name op value
use Rattle.std.specs.Prelude.{◌≡◌, ℕ, ◌+◌, true, Result, Ok, Err, List, [], ◌∷◌, ◌++◌}
use Rattle.std.specs.Str.{chars}
use Rattle.be_pattern.specs.Match.{Part}
use Rattle.be_pattern.specs.Parse.{pattern}
use Rattle.be_query.specs.declared.tree.Cmp.{Cmp}
use Rattle.be_query.specs.declared.tree.Cmp.TheVariants.{Eq, Ne, Lt, Le, Gt, Ge}
use Rattle.be_query.specs.Lexing.{lexemes, all_whole, tokens}
use Rattle.be_query.specs.Tokens.{Token, Open, Close, Bang, Both, Either, Compares, Text, plain}
use Rattle.be_query.specs.Tokens.{is_name}

mutual
  pub data OrPhrase : Type 0 where
    or_one : AndPhrase → OrPhrase
    or_more : OrPhrase → AndPhrase → OrPhrase

  pub data AndPhrase : Type 0 where
    and_one : NotPhrase → AndPhrase
    and_more : AndPhrase → NotPhrase → AndPhrase

  pub data NotPhrase : Type 0 where
    negation : NotPhrase → NotPhrase
    group : OrPhrase → NotPhrase
    comparison : (name : List ℕ) → is_name name ≡ true → Cmp → List ℕ → NotPhrase

-- The tokens of a phrase.
abbrev mutual
  pub or_tokens : OrPhrase → List Token
  or_tokens (or_one a) = and_tokens a
  or_tokens (or_more o a) = or_tokens o ++ Either ∷ and_tokens a

  pub and_tokens : AndPhrase → List Token
  and_tokens (and_one n) = not_tokens n
  and_tokens (and_more a n) = and_tokens a ++ Both ∷ not_tokens n

  pub not_tokens : NotPhrase → List Token
  not_tokens (negation n) = Bang ∷ not_tokens n
  not_tokens (group o) = Open ∷ (or_tokens o ++ Close ∷ [])
  not_tokens (comparison name valid op value) = Text name ∷ Compares op ∷ Text value ∷ []

-- What an attribute is compared with: the tokens of a pattern, or a string as it is.
pub data Literal : Type 0 where
  Wild : List Part → Literal
  Exact : List ℕ → Literal

abbrev pub wild_or_none : Result (List Part) ℕ → Literal
wild_or_none (Ok parts) = Wild parts
wild_or_none (Err at) = Wild []

abbrev pub literal_of : Cmp → List ℕ → Literal
literal_of Eq raw = wild_or_none (pattern (chars raw))
literal_of Ne raw = wild_or_none (pattern (chars raw))
literal_of Lt raw = Exact (plain raw)
literal_of Le raw = Exact (plain raw)
literal_of Gt raw = Exact (plain raw)
literal_of Ge raw = Exact (plain raw)

-- A tree, regardless of where it is stored.
pub data Formula : Type 0 where
  Leaf : List ℕ → Cmp → Literal → Formula
  And : Formula → Formula → Formula
  Or : Formula → Formula → Formula

abbrev pub opposite : Cmp → Cmp
opposite Eq = Ne
opposite Ne = Eq
opposite Lt = Ge
opposite Ge = Lt
opposite Gt = Le
opposite Le = Gt

abbrev pub complement : Formula → Formula
complement (Leaf name op value) = Leaf name (opposite op) value
complement (And l r) = Or (complement l) (complement r)
complement (Or l r) = And (complement l) (complement r)

-- The tree of a phrase.
abbrev mutual
  pub or_tree : OrPhrase → Formula
  or_tree (or_one a) = and_tree a
  or_tree (or_more o a) = Or (or_tree o) (and_tree a)

  pub and_tree : AndPhrase → Formula
  and_tree (and_one n) = not_tree n
  and_tree (and_more a n) = And (and_tree a) (not_tree n)

  pub not_tree : NotPhrase → Formula
  not_tree (negation n) = complement (not_tree n)
  not_tree (group o) = or_tree o
  not_tree (comparison name valid op value) = Leaf (plain name) op (literal_of op value)

-- The number of comparisons in a tree.
abbrev pub comparisons : Formula → ℕ
comparisons (Leaf name op value) = 1
comparisons (And l r) = comparisons l + comparisons r
comparisons (Or l r) = comparisons l + comparisons r

-- The tokens are a sentence, and its tree is this one.
abbrev pub ParsesTo : List Token → Formula → Type 0
ParsesTo ts tree = (o : OrPhrase) × (or_tokens o ≡ ts) × (or_tree o ≡ tree)

-- Some further tokens would complete these tokens into a sentence.
abbrev pub Viable : List Token → Type 0
Viable ts = (more : List Token) × (o : OrPhrase) × (or_tokens o ≡ ts ++ more)

-- The text is split into tokens with nothing left over, and the tokens encode the tree.
abbrev pub IsTextOf : List ℕ → Formula → Type 0
IsTextOf text tree = (all_whole (lexemes 0 0 text) ≡ true) × ParsesTo (tokens text) tree
