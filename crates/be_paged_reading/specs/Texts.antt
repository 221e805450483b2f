-- The strings in the keys of an index, and the nodes whose strings satisfy a comparison.
use Rattle.std.specs.Prelude.{ℕ, ◌≤◌, Bool, List, [], ◌∷◌, All, IsUtf8, length, if◌then◌else◌}
use Rattle.std.specs.List.{flat_map}
use Rattle.std.specs.declared.option.Option.{Option}
use Rattle.be_plan.specs.Texts.{text_in}
use Rattle.be_query.specs.Grammar.{Literal}
use Rattle.be_query.specs.declared.tree.Cmp.{Cmp}
use Rattle.be_tree_reading.specs.Pair.{Pair}
use Rattle.be_tree_reading.specs.Range.{number_of, pairs_to}
use Rattle.be_volume.specs.Query.{holds_of_text}

-- The key contains a string and the bytes of a node.
pub record IsTextKey (key : List ℕ) : Type 0 where
  pub long : 8 ≤ length key
  pub is_text : IsUtf8 (text_in key)

-- Every key contains a string.
abbrev pub AreTexts : List Pair → Type 0
AreTexts xs = All (λ x. IsTextKey x.key) xs

-- The comparison is true of the string in the key.
abbrev pub passes : Cmp → Literal → List ℕ → Bool
passes op literal key = holds_of_text op (text_in key) literal

-- The node of the key if the string in the key passes.
abbrev pub node_if_passing : Cmp → Literal → Pair → List ℕ
node_if_passing op literal x = if passes op literal x.key then number_of x.key ∷ [] else []

-- The nodes of the keys whose strings pass, up to a bound.
abbrev pub nodes_passing_to : Cmp → Literal → List Pair → (high : Option (List ℕ)) → List ℕ
nodes_passing_to op literal xs high = flat_map (node_if_passing op literal) (pairs_to xs high)
