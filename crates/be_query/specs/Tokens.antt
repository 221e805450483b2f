-- The tokens of a query's text. Text is a list of bytes.
use Rattle.std.specs.Prelude.{ℕ, Bool, List, [], ◌∷◌, ◌==◌, if◌then◌else◌}
use Rattle.std.specs.Result.{is_ok}
use Rattle.be_value.specs.Name.{name_from}
use Rattle.be_query.specs.declared.tree.Cmp.{Cmp}

pub data Token : Type 0 where
  -- `(` and `)`.
  Open : Token
  Close : Token
  -- `!`.
  Bang : Token
  -- `&&` and `||`.
  Both : Token
  Either : Token
  Compares : Cmp → Token
  -- A name or a value, with its backslashes and without its quotes.
  Text : List ℕ → Token

-- The string with its backslashes resolved: the byte after a backslash is taken literally.
abbrev pub plain : List ℕ → List ℕ
plain [] = []
plain (b ∷ []) = b ∷ []
plain (b ∷ c ∷ bs) = if b == 92 then c ∷ plain bs else b ∷ plain (c ∷ bs)

-- The string is a name once its backslashes are resolved.
abbrev pub is_name : List ℕ → Bool
is_name raw = is_ok (name_from (plain raw))
