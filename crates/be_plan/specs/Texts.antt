-- The strings in the keys of an index, and comparisons with them.
use Rattle.std.specs.Prelude.{◌≡◌, ◌<◌, ◌-◌, ◌^◌, ℕ, List, length, take}
use Rattle.be_value.specs.Key.{key}
use Rattle.be_value.specs.declared.values.Value.{Value}
use Rattle.be_query.specs.Grammar.{Literal, Wild, Exact}
use Rattle.be_plan.specs.declared.texts.Compared.{Compared}
use Rattle.be_plan.specs.declared.texts.Compared.TheVariants.{Words, Pattern}

-- The string in a key: everything before the zero byte and the bytes of the node.
abbrev pub text_in : List ℕ → List ℕ
text_in bytes = take (length bytes - 9) bytes

-- What strings are compared with, as a literal.
abbrev pub literal_of : Compared → Literal
literal_of (Words words) = Exact words.now
literal_of (Pattern parts) = Wild parts

-- The bytes are a key of this node.
pub record IsKeyOf (bytes : List ℕ) (node : ℕ) : Type 0 where
  pub value : Value
  pub fits : node < 2 ^ 64
  pub is : bytes ≡ key value node
