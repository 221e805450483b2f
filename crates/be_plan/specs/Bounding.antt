-- The keys that a query allows in one index.
use Rattle.std.specs.Prelude.{◌≡◌, ◌≤◌, ℕ, true, List, Some, IfSome}
use Rattle.std.specs.declared.option.Option.{Option}
use Rattle.be_value.specs.Key.{key}
use Rattle.be_value.specs.declared.values.Kind.{Kind}
use Rattle.be_value.specs.declared.values.Value.{Value}
use Rattle.be_query.specs.Grammar.{Formula, comparisons}
use Rattle.be_volume.specs.Query.{sat, sees}
use Rattle.be_volume.specs.Volume.{State}
use Rattle.be_plan.specs.Narrow.{IsPair, LeavesRest, Within}

-- In any volume with an index of this name and kind, every node in the index that satisfies the
-- formula has its key in the range from `low` to `high`. A node with a key in this range satisfies
-- the formula if and only if it satisfies the remaining condition.
pub record Bounding (f : Formula) (name : List ℕ) (kind : Kind) (low : List ℕ)
    (high : Option (List ℕ)) (rest : Option Formula) : Type 0 where
  pub keeps : (s : State) (value : Value) (node : ℕ) → IsPair kind value node
      → sees s node name ≡ Some value → sat s f node ≡ true → Within low high (key value node)
  pub leaves : LeavesRest f name kind low high rest

-- The remaining condition, if there is one, has at most this many comparisons.
abbrev pub HasAtMost : ℕ → Option Formula → Type 0
HasAtMost most rest = IfSome rest (λ f. comparisons f ≤ most)
