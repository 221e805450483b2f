-- The values and keys that a walk over an index has to visit.
use Rattle.std.specs.Prelude.{◌≡◌, ◌<◌, ◌≤◌, ◌+◌, ◌-◌, ◌^◌, ℕ, ℤ, pos, ◌≤ℤ◌, Bool, true, false}
use Rattle.std.specs.Prelude.{List, [], ◌∷◌, ◌++◌, Some, None, IsTrue, if◌then◌else◌}
use Rattle.std.specs.Option.{option_map_or}
use Rattle.std.specs.Ordering.{is_lt, is_gt}
use Rattle.std.specs.declared.option.Option.{Option}
use Rattle.be_value.specs.Key.{key, IsValue}
use Rattle.be_value.specs.Value.{kind_of, is_indexable, value_cmp}
use Rattle.be_value.specs.declared.values.Kind.{Kind}
use Rattle.be_value.specs.declared.values.Value.{Value}
use Rattle.be_value.specs.declared.values.Value.TheVariants.{Cstr, Long, Llng, Mims, Rawt, Ulng}
use Rattle.be_value.specs.declared.values.Value.TheVariants.{Ullg}
use Rattle.be_query.specs.Grammar.{Formula, Leaf, And, Or, comparisons}
use Rattle.be_query.specs.declared.tree.Cmp.{Cmp}
use Rattle.be_query.specs.Grammar.{Literal}
use Rattle.be_query.specs.View.{literal}
use Rattle.be_query.specs.declared.tree.Comparison.{Comparison}
use Rattle.be_volume.specs.Maps.{name_cmp}
use Rattle.be_volume.specs.Query.{holds, is_true_of, sat, sees}
use Rattle.be_volume.specs.Volume.{State}
use Rattle.be_plan.specs.declared.ranges.Range.{Range}

-- A node that satisfies the part through the pick may have this value for the name: every
-- comparison on this name that must then be true is true of the value. The part's first comparison
-- is at position `at`.
abbrev pub Allows : ℕ → ℕ → Formula → List ℕ → Value → Type 0
Allows pick at (Leaf own op literal) name value = own ≡ name → holds op value literal ≡ true
Allows pick at (And a b) name value = Allows pick at a name value
    × Allows pick (at + comparisons a) b name value
Allows pick at (Or a b) name value =
    (at ≤ pick → pick < at + comparisons a → Allows pick at a name value)
    × (at + comparisons a ≤ pick → pick < at + comparisons a + comparisons b
    → Allows pick (at + comparisons a) b name value)

-- The key k is above the bound. No key is above a missing bound.
abbrev pub is_above : Option (List ℕ) → List ℕ → Bool
is_above None k = false
is_above (Some high) k = is_gt (name_cmp k high)

-- The key k is in the range from `low` to `high`, both inclusive.
pub record Within (low : List ℕ) (high : Option (List ℕ)) (k : List ℕ) : Type 0 where
  pub from_low : is_lt (name_cmp k low) ≡ false
  pub to_high : is_above high k ≡ false

-- The high bound of the range, if there is one.
abbrev pub high_of : Range → Option (List ℕ)
high_of range = if range.bounded then Some range.high.items else None

-- The key k is in the range.
abbrev pub IsIn : Range → List ℕ → Type 0
IsIn range k = Within range.low.items (high_of range) k

-- Narrowing has excluded no key at or above these bytes.
abbrev pub KeepsFrom : List ℕ → Range → Range → Type 0
KeepsFrom bytes old new = (k : List ℕ) → is_lt (name_cmp k bytes) ≡ false → IsIn old k → IsIn new k

-- No key in the range is below these bytes.
abbrev pub IsFrom : List ℕ → Range → Type 0
IsFrom bytes range = (k : List ℕ) → IsIn range k → is_lt (name_cmp k bytes) ≡ false

-- Narrowing has excluded no key at or below these bytes.
abbrev pub KeepsTo : List ℕ → Range → Range → Type 0
KeepsTo bytes old new = (k : List ℕ) → is_gt (name_cmp k bytes) ≡ false → IsIn old k → IsIn new k

-- No key in the range is above these bytes.
abbrev pub IsTo : List ℕ → Range → Type 0
IsTo bytes range = (k : List ℕ) → IsIn range k → is_gt (name_cmp k bytes) ≡ false

-- The highest node number.
abbrev pub last_node : ℕ
last_node = 2 ^ 64 - 1

-- An index of this kind may contain this pair.
pub record IsPair (kind : Kind) (value : Value) (node : ℕ) : Type 0 where
  pub is_value : IsValue value
  pub kind_is : kind_of value ≡ kind
  pub node_fits : node < 2 ^ 64

-- Narrowing has excluded no key whose value satisfies the comparison.
abbrev pub KeepsTrue : Kind → Cmp → Literal → Range → Range → Type 0
KeepsTrue kind op literal old new = (v : Value) (n : ℕ) → IsPair kind v n → holds op v literal
    ≡ true → IsIn old (key v n) → IsIn new (key v n)

-- The comparison is true of the value of every key in the range.
abbrev pub AllTrue : Kind → Cmp → Literal → Range → Type 0
AllTrue kind op literal range = (v : Value) (n : ℕ) → IsPair kind v n → IsIn range (key v n)
    → holds op v literal ≡ true

-- `KeepsTrue` for a comparison as represented in the program.
abbrev pub KeepsTrueOf : Kind → Comparison → Range → Range → Type 0
KeepsTrueOf kind comparison = KeepsTrue kind comparison.op (literal comparison.literal)

-- `AllTrue` for a comparison as represented in the program.
abbrev pub AllTrueOf : Kind → Comparison → Range → Type 0
AllTrueOf kind comparison = AllTrue kind comparison.op (literal comparison.literal)

-- The value can replace the literal in an index of this kind. A comparison of a value in the index
-- with the literal is true if and only if the operator is true of the two values.
pub record Represents (literal : Literal) (kind : Kind) (bound : Value) : Type 0 where
  pub is_value : IsValue bound
  pub kind_is : kind_of bound ≡ kind
  pub indexable : IsTrue (is_indexable kind)
  pub compares : (op : Cmp) (value : Value) → kind_of value ≡ kind → holds op value literal
      ≡ is_true_of op (value_cmp value bound)

-- Every key of the value begins with `front`. The front is followed by `first` for the lowest node,
-- and by `after` without its last byte, which is zero, for the highest node.
pub record HasEnds (bound : Value) (front first after : List ℕ) : Type 0 where
  pub below : List ℕ
  pub last : List ℕ
  pub first_is : first ≡ below ++ 0 ∷ []
  pub after_is : after ≡ last ++ 0 ∷ []
  pub least : front ++ first ≡ key bound 0
  pub greatest : front ++ last ≡ key bound last_node

-- The value is a number from `least` to `greatest`.
abbrev pub IsBetween : ℤ → ℤ → Value → Type 0
IsBetween least greatest (Long n) = (least ≤ℤ n) × (n ≤ℤ greatest)
IsBetween least greatest (Llng n) = (least ≤ℤ n) × (n ≤ℤ greatest)
IsBetween least greatest (Ulng n) = (least ≤ℤ pos n) × (pos n ≤ℤ greatest)
IsBetween least greatest (Ullg n) = (least ≤ℤ pos n) × (pos n ≤ℤ greatest)
IsBetween least greatest (Cstr text) = ⊥
IsBetween least greatest (Mims text) = ⊥
IsBetween least greatest (Rawt bytes) = ⊥

-- Whether the remaining condition is true of the node. A missing condition is true.
abbrev pub rest_true : State → Option Formula → ℕ → Bool
rest_true s rest node = option_map_or (λ f. sat s f node) rest true

-- In any volume, a node with a key from `low` to `high` in the index of `name` satisfies the
-- formula if and only if it satisfies the remaining condition.
abbrev pub LeavesRest : Formula → List ℕ → Kind → List ℕ → Option (List ℕ) → Option Formula → Type 0
LeavesRest f name kind low high rest =
    (s : State) (value : Value) (node : ℕ) → IsPair kind value node
    → Within low high (key value node) → sees s node name ≡ Some value → sat s f node
    ≡ rest_true s rest node

-- A number greater than any byte that may follow a pattern's literal prefix.
abbrev pub limit : Bool → ℕ
limit true = 1
limit false = 255
