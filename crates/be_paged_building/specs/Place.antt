-- A key among collected bytes.
use Rattle.std.specs.Prelude.{ℕ, ◌+◌, ◌<◌, ◌≤◌, ◌^◌, List, ◌∷◌, drop, length, take}
use Rattle.be_paged_building.specs.declared.keys.Place.{Place}
use Rattle.be_tree_reading.specs.Words.{IsFirst}

-- the key at a place of the bytes
abbrev pub key_in : List ℕ → Place → List ℕ
key_in bytes place = take place.len (drop place.from bytes)

-- the first word of a place, and then the bytes of its key
abbrev pub rank_in : List ℕ → Place → List ℕ
rank_in bytes place = place.first ∷ key_in bytes place

-- a place within the bytes, with the first word of its key
pub record IsPlace (bytes : List ℕ) (place : Place) : Type 0 where
  pub within : place.from + place.len ≤ length bytes
  pub small : place.first < 2 ^ 64
  pub first : IsFirst (key_in bytes place) place.first
