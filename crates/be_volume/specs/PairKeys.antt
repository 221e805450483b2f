-- The keys of an index's pairs, in the order of their bytes.
use Rattle.std.specs.Prelude.{◌≡◌, ◌<◌, ◌≤◌, ◌^◌, ℕ, Bool, true, false, not, List, length, Some}
use Rattle.std.specs.Prelude.{None, if◌then◌else◌}
use Rattle.std.specs.Ordering.{nat_cmp, is_lt, is_gt}
use Rattle.std.specs.FinMap as map
use Rattle.std.specs.declared.option.Option.{Option}
use Rattle.be_value.specs.Key.{key}
use Rattle.be_value.specs.Value.{kind_of, is_indexable}
use Rattle.be_value.specs.declared.values.Value.{Value}
use Rattle.be_volume.specs.Maps.{name_cmp}

-- k is at or after `from`; if `after` is set, strictly after it. Keys are ordered by their bytes.
abbrev pub is_at_or_after : List ℕ → Bool → List ℕ → Bool
is_at_or_after from after k = if after then is_gt (name_cmp k from)
    else not (is_lt (name_cmp k from))

-- the result is the lowest of the keys from there on, or None if there is none
abbrev pub IsNext : (List ℕ → Type 0) → List ℕ → Bool → Option (List ℕ) → Type 0
IsNext Is from after None = (k : List ℕ) → Is k → is_at_or_after from after k ≡ false
IsNext Is from after (Some next) =
    Is next × (is_at_or_after from after next ≡ true)
    × ((k : List ℕ) → Is k → is_at_or_after from after k ≡ true → is_lt (name_cmp k next)
    ≡ false)

-- a pair's key; None if the value can't be in an index
abbrev pub own_key : Value → ℕ → Option (List ℕ)
own_key value node = if is_indexable (kind_of value) then Some (key value node) else None

-- k is the key of one of these pairs
pub record IsKeyOf (pairs : map.FinMap nat_cmp Value) (k : List ℕ) : Type 0 where
  pub node : ℕ
  pub value : Value
  pub paired : map.get pairs node ≡ Some value
  pub is : own_key value node ≡ Some k

-- the keys that are kept with pairs are exactly theirs
pub record AreKeysOf (pairs : map.FinMap nat_cmp Value) (has : List ℕ → Bool) : Type 0 where
  pub fits : (node : ℕ) (value : Value) → map.get pairs node ≡ Some value → node < 2 ^ 64
  pub each : (k : List ℕ) → IsKeyOf pairs k → has k ≡ true
  pub only : (k : List ℕ) → has k ≡ true → IsKeyOf pairs k
  pub short : (k : List ℕ) → has k ≡ true → length k ≤ 264
