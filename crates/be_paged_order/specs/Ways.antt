-- Ways: walks over the keys of a range that come after a cursor.
use Rattle.std.specs.Prelude.{◌≡◌, ℕ, Bool, true, false, ◌&&◌, List}
use Rattle.std.specs.Option.{option_copied, option_map_or}
use Rattle.std.specs.Ordering.{is_ge}
use Rattle.std.specs.declared.option.Option.{Option}
use Rattle.be_tree_reading.specs.Range.{is_from}
use Rattle.be_tree_reading.specs.Way.{is_until}
use Rattle.be_tree_reading.specs.declared.way.Way.{Way}
use Rattle.be_volume.specs.Maps.{name_cmp}
use Rattle.be_plan.specs.Narrow.{Within}
use Rattle.be_order.specs.Ordered.{is_after}

-- The key is on a way with these ends.
abbrev pub lies_on : (back strict : Bool) → (low : List ℕ) → (high : Option (List ℕ)) → List ℕ
    → Bool
lies_on false strict low high k = is_from low strict k && is_until high false k
lies_on true strict low high k = is_until high strict k && is_from low false k

-- The key isn't above the bound, or there is no bound.
abbrev pub is_up_to : Option (List ℕ) → List ℕ → Bool
is_up_to high k = option_map_or (λ h. is_ge (name_cmp h k)) high true

-- The keys on the way are those from `low` to `high` that come after the cursor.
pub record IsWayOf (low : List ℕ) (high : Option (List ℕ)) (descending : Bool)
    (cursor : Option (List ℕ)) (way : Way) : Type 0 where
  pub back_is : way.back ≡ descending
  pub only : (k : List ℕ) → lies_on way.back way.strict way.low.now (option_copied way.high) k
      ≡ true → Within low high k × (is_after descending cursor k ≡ true)
  pub all : (k : List ℕ) → Within low high k → is_after descending cursor k ≡ true
      → lies_on way.back way.strict way.low.now (option_copied way.high) k ≡ true
