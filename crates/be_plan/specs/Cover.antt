-- The comparisons that a query may be answered from, and the choice among them.
-- A pick is the position of a comparison, counted from 0 and from left to right.
use Rattle.std.specs.Prelude.{ℕ, ◌+◌, Bool, true, false, ◌&&◌, ◌||◌, List, [], ◌∷◌, ◌++◌, nat_eq}
use Rattle.std.specs.Prelude.{nat_lt, Some, None, if◌then◌else◌, slice_get}
use Rattle.std.specs.Option.{option_map_or}
use Rattle.std.specs.List.{list_any, list_all}
use Rattle.std.specs.declared.option.Option.{Option}
use Rattle.std.specs.declared.result.Result.{Result}
use Rattle.std.specs.declared.result.Result.TheVariants.{Ok, Err}
use Rattle.be_value.specs.declared.refusals.Refusal.{Refusal}
use Rattle.be_value.specs.declared.values.Kind.{Kind}
use Rattle.std.specs.Cmp.Lexicographic.{pointwise}
use Rattle.be_value.specs.declared.refusals.Refusal.TheVariants.{NotCovered}
use Rattle.be_pattern.specs.Match.{Part, Run, One, Among, Only}
use Rattle.be_pattern.specs.Canonical.{is_plain}
use Rattle.be_query.specs.declared.tree.Comparison as code
use Rattle.be_query.specs.View.{literal}
use Rattle.be_query.specs.Grammar.{Formula, Leaf, And, Or, comparisons}
use Rattle.be_query.specs.declared.tree.Cmp.{Cmp}
use Rattle.be_query.specs.declared.tree.Cmp.TheVariants.{Eq, Ne, Lt, Le, Gt, Ge}
use Rattle.be_query.specs.Grammar.{Literal}
use Rattle.be_query.specs.Grammar.{Wild, Exact}
use Rattle.be_plan.specs.declared.plans.Cover.{Cover}

-- A comparison, regardless of where it is stored.
pub record Comparison : Type 0 where
  pub name : List ℕ
  pub op : Cmp
  pub literal : Literal

-- A comparison as represented in the program.
abbrev pub comparison_of : code.Comparison → Comparison
comparison_of c = record { name = c.name; op = c.op; literal = literal c.literal }

-- The comparisons of a query, from left to right.
abbrev pub leaves : Formula → List Comparison
leaves (Leaf name op literal) = record { name = name; op = op; literal = literal } ∷ []
leaves (And a b) = leaves a ++ leaves b
leaves (Or a b) = leaves a ++ leaves b

-- The picks cover the part of the query whose first comparison is at position `at`. A comparison is
-- covered if it is picked, an "and" if at least one side is covered, and an "or" if both sides are.
abbrev pub covers_part : List ℕ → ℕ → Formula → Bool
covers_part picks at (Leaf name op literal) = list_any (nat_eq at) picks
covers_part picks at (And a b) = covers_part picks at a || covers_part picks (at + comparisons a) b
covers_part picks at (Or a b) = covers_part picks at a && covers_part picks (at + comparisons a) b

-- The list contains an index of that name.
abbrev pub is_listed : List (List ℕ × Kind) → List ℕ → Bool
is_listed indices name = list_any (λ index. pointwise nat_eq index.0 name) indices

-- The pick is the position of a comparison whose name has an index.
abbrev pub rests_on : (List ℕ → Bool) → Formula → ℕ → Bool
rests_on indexed f pick = option_map_or (λ c. indexed c.name) (slice_get (leaves f) pick) false

-- The picks cover the query.
abbrev pub covers : (List ℕ → Bool) → List ℕ → Formula → Bool
covers indexed picks f = list_all (rests_on indexed f) picks && covers_part picks 0 f

-- The pattern begins with a literal character.
abbrev pub begins_literally : List Part → Bool
begins_literally [] = false
begins_literally (Run ∷ parts) = false
begins_literally (One ∷ parts) = false
begins_literally (Among negated members ∷ parts) = false
begins_literally (Only c ∷ parts) = true

-- How expensive it is to answer a query from this comparison.
abbrev pub score_of : Cmp → Literal → ℕ
score_of Eq (Exact words) = 1
score_of Eq (Wild parts) = if is_plain parts then 1 else if begins_literally parts then 2 else 4
score_of Ne literal = 5
score_of Lt literal = 3
score_of Le literal = 3
score_of Gt literal = 3
score_of Ge literal = 3

-- The cover with the lower score, or the left one if the scores are equal. If only one side is
-- covered, its cover.
abbrev pub cheaper : Option Cover → Option Cover → Option Cover
cheaper None b = b
cheaper (Some a) None = Some a
cheaper (Some a) (Some b) = if nat_lt b.score a.score then Some b else Some a

-- The combined cover, if both sides are covered.
abbrev pub both_covers : Option Cover → Option Cover → Option Cover
both_covers None b = None
both_covers (Some a) None = None
both_covers (Some a) (Some b) = Some
    (record { picks = a.picks ++ b.picks; score = a.score + b.score })

-- The choice for the part whose first comparison is at position `at`, if the part is covered.
abbrev pub choice : (List ℕ → Bool) → ℕ → Formula → Option Cover
choice indexed at (Leaf name op literal) = if indexed name
    then Some (record { picks = at ∷ []; score = score_of op literal }) else None
choice indexed at (And a b) = cheaper (choice indexed at a) (choice indexed (at + comparisons a) b)
choice indexed at (Or a b) = both_covers (choice indexed at a)
    (choice indexed (at + comparisons a) b)

abbrev pub or_not_covered : Option Cover → Result Cover Refusal
or_not_covered None = Err NotCovered
or_not_covered (Some cover) = Ok cover

-- The choice for a query, or NotCovered.
abbrev pub chosen : (List ℕ → Bool) → Formula → Result Cover Refusal
chosen indexed f = or_not_covered (choice indexed 0 f)
