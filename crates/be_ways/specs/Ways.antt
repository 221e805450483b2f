-- What is true of a range of keys that an answer walked.
use Rattle.std.specs.Prelude.{◌≡◌, ℕ, List, Some, length}
use Rattle.std.specs.List.{Contains}
use Rattle.std.specs.List.Sorted.{IsStrictlyIncreasing}
use Rattle.std.specs.Option.{option_map}
use Rattle.std.specs.declared.option.Option.{Option}
use Rattle.be_plan.specs.Walk.{HasNodes, IsNodeWithin}
use Rattle.be_volume.specs.Reading.{index_kind}
use Rattle.be_volume.specs.Volume.{State}
use Rattle.be_ways.specs.declared.way.Way.{Way}

-- Exactly these nodes have a key from `low` to `high` in the index of that name, and there are
-- `count` of them. An index has at most one key of each node, so it has `count` keys in this range.
pub record HasKeys (s : State) (name low : List ℕ) (high : Option (List ℕ)) (count : ℕ) : Type 0
  where
    pub nodes : List ℕ
    pub rising : IsStrictlyIncreasing nodes
    pub has : HasNodes s name low high nodes
    pub only : (n : ℕ) → Contains nodes n → IsNodeWithin s name low high n
    pub count_is : length nodes ≡ count

-- The way's name has an index of its kind, and this index has as many keys in the way's range as
-- the way says. Nothing is said of the estimate.
pub record IsWay (s : State) (way : Way) : Type 0 where
  pub kind_is : index_kind s way.name ≡ Some way.kind
  pub keys : HasKeys s way.name way.low.items (option_map (λ high. high.items) way.high) way.walked
