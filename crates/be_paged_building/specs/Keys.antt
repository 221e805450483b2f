-- The tree that an index's keys become.
use Rattle.std.specs.Prelude.{◌≡◌, ℕ, ◌+◌, ◌<◌, ◌≤◌, List, [], ◌∷◌, ◌++◌, None, Some, All, length}
use Rattle.std.specs.Prelude.{slice_index_or, slice_set}
use Rattle.std.specs.FinMap as map
use Rattle.std.specs.List.{Contains}
use Rattle.std.specs.declared.option.Option.{Option}
use Rattle.be_pages.specs.declared.room.PageState.{PageState}
use Rattle.be_tree.specs.Counting.{HasInHand, in_hand}
use Rattle.be_tree_reading.specs.Key.{payload_at}
use Rattle.be_tree_reading.specs.Pair.{Pair}
use Rattle.be_tree_reading.specs.Tree.{BecomesTree, IsTree, pages, pairs}
use Rattle.be_value.specs.Key.{key}
use Rattle.be_value.specs.declared.values.Value.{Value}
use Rattle.be_volume.specs.declared.maps.Index.{Index}

-- the key of a node and of the value that the index has for it
pub record IsKeyOf (index : Index) (k : List ℕ) : Type 0 where
  pub node : ℕ
  pub value : Value
  pub there : map.get index.pairs node ≡ Some value
  pub is : k ≡ key value node

-- the keys of an index, in any order
pub record AreKeysOf (keys : List (List ℕ)) (index : Index) : Type 0 where
  pub each : (node : ℕ) (value : Value) → map.get index.pairs node ≡ Some value
      → Contains keys (key value node)
  pub only : All (IsKeyOf index) keys

-- the pairs have exactly these keys, without payloads
pub record HaveKeys (keys : List (List ℕ)) (pairs : List Pair) : Type 0 where
  pub each : (k : List ℕ) → Contains keys k → payload_at pairs k ≡ Some []
  pub only : All (λ pair. Contains keys pair.key × (pair.payload ≡ [])) pairs

-- a new tree has exactly these keys, without payloads
pub record BecomesKeys {S K : Type 0} (kept_of : S → K) (page_state_of : S → ℕ → PageState)
    (words_of : S → ℕ → ℕ → ℕ) (keys : List (List ℕ)) (root : ℕ) (old new : S) : Type 0 where
  pub pairs : List Pair
  pub keys_are : HaveKeys keys pairs
  pub becomes : BecomesTree kept_of page_state_of words_of [] pairs root old new

-- no tree of these keys has fewer pages
abbrev pub AreFewestFor : (count : ℕ) (keys : List (List ℕ)) → Type 0
AreFewestFor count keys = (page_state : ℕ → PageState) (words : ℕ → ℕ → ℕ) (root : ℕ)
    → IsTree page_state words root → HaveKeys keys (pairs words root)
    → count ≤ length (pages words root)

-- If the write held no other pages than these before, each tree of the keys has more pages than the
-- write has taken since.
abbrev pub IsShortFor : (keys : List (List ℕ)) → (old new : ℕ → PageState) → Type 0
IsShortFor keys old new = (held : List ℕ) → HasInHand old held → (page_state : ℕ → PageState)
    (words : ℕ → ℕ → ℕ) (root : ℕ) → IsTree page_state words root
    → HaveKeys keys (pairs words root)
    → (n : ℕ) → in_hand n new < length held + length (pages words root)

-- the lists of keys, after the one at this position gained a key
abbrev pub keys_with : List (List (List ℕ)) → Option ℕ → (k : List ℕ) → List (List (List ℕ))
keys_with lists None k = lists
keys_with lists (Some at) k = slice_set lists at (slice_index_or lists at [] ++ k ∷ [])
