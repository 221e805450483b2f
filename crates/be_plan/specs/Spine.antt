-- The parts of a query that are only under "or".
use Rattle.std.specs.Prelude.{◌≡◌, ◌<◌, ◌≤◌, ◌+◌, ◌-◌, ℕ, Bool, true, false, List, slice_get}
use Rattle.be_value.specs.declared.values.Value.{Value}
use Rattle.be_query.specs.Grammar.{Formula, Leaf, And, Or, comparisons}
use Rattle.be_volume.specs.Query.{has_index, sat}
use Rattle.be_volume.specs.Volume.{State}
use Rattle.be_plan.specs.Cover.{leaves, rests_on}
use Rattle.be_plan.specs.Narrow.{Allows}

-- Whether the formula is an "or".
abbrev pub is_or : Formula → Bool
is_or (Leaf name op literal) = false
is_or (And a b) = false
is_or (Or a b) = true

-- The part, whose first comparison is at position `from`, is only under "or". If the part is true,
-- the whole is true. Any value that the whole allows through a pick in the part is also allowed by
-- the part. If the whole isn't an "or", the part is the whole itself.
pub record IsUnderOr (whole : Formula) (from : ℕ) (part : Formula) : Type 0 where
  pub places : (i : ℕ) → i < comparisons part → slice_get (leaves whole) (from + i)
      ≡ slice_get (leaves part) i
  pub allows : (pick : ℕ) (name : List ℕ) (v : Value) → from ≤ pick → pick < from + comparisons part
      → Allows pick 0 whole name v → Allows pick from part name v
  pub means : (s : State) (node : ℕ) → sat s part node ≡ true → sat s whole node ≡ true
  pub alone : is_or whole ≡ false → part ≡ whole

-- The part is only under "or", and the pick is a position in it.
pub record LiesIn (whole : Formula) (pick from : ℕ) (part : Formula) : Type 0 where
  pub under : IsUnderOr whole from part
  pub first : from ≤ pick
  pub last : pick < from + comparisons part

-- The part is only under "or", begins with the first comparison of the whole, and has `count`
-- comparisons.
pub record IsFrontOf (whole part : Formula) (count : ℕ) : Type 0 where
  pub end : count ≡ comparisons part
  pub few : count ≤ 256
  pub under : IsUnderOr whole 0 part

-- The part is only under "or", the pick is a position in it, and the comparison at this position is
-- on an indexed name.
pub record IsPickOf (s : State) (whole : Formula) (pick from : ℕ) (part : Formula) : Type 0 where
  pub few : from + comparisons part ≤ 256
  pub rests : rests_on (has_index s) part (pick - from) ≡ true
  pub lies : LiesIn whole pick from part
