-- Covers of a part of a query, from any choice between the sides of each "and".
use Rattle.std.specs.Prelude.{◌≡◌, ◌<◌, ◌+◌, ℕ, Bool, true, false, List, slice_get}
use Rattle.std.specs.List.{list_all}
use Rattle.std.specs.declared.option.Option.{Option}
use Rattle.std.specs.declared.option.Option.TheVariants.{Some, None}
use Rattle.be_query.specs.Grammar.{Formula, comparisons}
use Rattle.be_volume.specs.Query.{rests}
use Rattle.be_plan.specs.Cover.{covers_part, leaves, rests_on}
use Rattle.be_plan.specs.declared.plans.Cover.{Cover}

-- The part is that of the whole from position `at` on.
abbrev pub IsPart : Formula → ℕ → Formula → Type 0
IsPart whole at f = (i : ℕ) → i < comparisons f → slice_get (leaves whole) (at + i)
    ≡ slice_get (leaves f) i

-- The picks are comparisons of the whole on indexed names, and they cover the part, whose first
-- comparison is at position `at`.
pub record Covering (indexed : List ℕ → Bool) (whole : Formula) (at : ℕ) (f : Formula)
    (picks : List ℕ) : Type 0 where
  pub rest : rests indexed f ≡ true
  pub indices : list_all (rests_on indexed whole) picks ≡ true
  pub part : covers_part picks at f ≡ true

-- The picks of the cover, if there is one, cover the part. Without a cover, the indices don't cover
-- it.
abbrev pub IsChoice : (List ℕ → Bool) → Formula → ℕ → Formula → Option Cover → Type 0
IsChoice indexed whole at f None = rests indexed f ≡ false
IsChoice indexed whole at f (Some cover) = Covering indexed whole at f cover.picks
