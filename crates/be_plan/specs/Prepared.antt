-- What the range of a query decides.
use Rattle.std.specs.Prelude.{ℕ, List, None, Some}
use Rattle.std.specs.declared.option.Option.{Option}
use Rattle.be_value.specs.Key.{key}
use Rattle.be_value.specs.declared.values.Kind.{Kind}
use Rattle.be_value.specs.declared.values.Value.{Value}
use Rattle.be_query.specs.Grammar.{Formula}
use Rattle.be_plan.specs.Narrow.{Allows, IsPair, LeavesRest, Within}
use Rattle.be_plan.specs.Walk.{AreAllOn}

-- The keys from `low` to `high` decide comparisons on one name if its index has this kind. Every
-- node of these keys satisfies the formula, and every key with a value that the formula allows is
-- among them.
pub record Decides (f : Formula) (kind : Kind) (low : List ℕ) (high : Option (List ℕ)) : Type 0
  where
    pub leaves : (name : List ℕ) → AreAllOn f name → LeavesRest f name kind low high None
    pub keeps : (name : List ℕ) → AreAllOn f name → (value : Value) (node : ℕ)
        → IsPair kind value node → Allows 0 0 f name value → Within low high (key value node)

-- The range, if there is one, decides the formula.
abbrev pub DecidesIf : Option Kind → Formula → List ℕ → Option (List ℕ) → Type 0
DecidesIf None f low high = Unit
DecidesIf (Some kind) f low high = Decides f kind low high
