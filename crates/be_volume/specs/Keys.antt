-- The keys of a volume's indices, and which of them is next.
use Rattle.std.specs.Prelude.{◌≡◌, ℕ, Bool, List, Some}
use Rattle.std.specs.FinMap as map
use Rattle.std.specs.declared.option.Option.{Option}
use Rattle.be_value.specs.Key.{key}
use Rattle.be_value.specs.declared.values.Value.{Value}
use Rattle.be_volume.specs.PairKeys.{IsNext}
use Rattle.be_volume.specs.Volume.{State}
use Rattle.be_volume.specs.declared.maps.Index.{Index}

-- k is the key of a pair in the index with this name
pub record IsKey (s : State) (name : List ℕ) (k : List ℕ) : Type 0 where
  pub index : Index
  pub node : ℕ
  pub value : Value
  pub there : map.get s.indices name ≡ Some index
  pub paired : map.get index.pairs node ≡ Some value
  pub is : k ≡ key value node

-- the result is the index's lowest key from there on, or None if there is none
abbrev pub IsNextKey : State → List ℕ → List ℕ → Bool → Option (List ℕ) → Type 0
IsNextKey s name = IsNext (IsKey s name)
