-- The pairs after a cursor.
use Rattle.std.specs.Prelude.{◌≡◌, ℕ, ◌+◌, ◌<◌, ◌≤◌, List, [], ◌∷◌, ◌++◌, length, drop}
use Rattle.std.specs.Prelude.{All, slice_index_or}
use Rattle.be_pages.specs.declared.room.PageState.{PageState}
use Rattle.be_tree_reading.specs.Pair.{Pair}
use Rattle.be_tree_reading.specs.Page.{items_of}
use Rattle.be_tree_reading.specs.Tree.{pairs_below, IsTreeAt}
use Rattle.be_tree_reading.specs.declared.cursor.Place.{Place}
use Rattle.be_tree_reading.specs.declared.cursor.Cursor.{Cursor}

-- the pairs below the items of a place's page, from its next item on
abbrev pub pairs_past : (words : ℕ → ℕ → ℕ) → Place → List Pair
pairs_past words place = pairs_below place.level words
    (drop place.next (items_of (words place.page)))

-- the pairs after the places of a path, those of the deepest place first
abbrev pub pairs_along : (words : ℕ → ℕ → ℕ) → List Place → List Pair
pairs_along words [] = []
pairs_along words (place ∷ path) = pairs_along words path ++ pairs_past words place

-- the pairs after a cursor, which are still ahead of it
abbrev pub remaining : (words : ℕ → ℕ → ℕ) → Cursor → List Pair
remaining words cursor = pairs_along words cursor.path.items

-- the pairs after a cursor are those after a place, followed by those after another cursor
abbrev pub IsSplit : (words : ℕ → ℕ → ℕ) → Cursor → Place → Cursor → Type 0
IsSplit words before place after = remaining words before
    ≡ pairs_past words place ++ remaining words after

-- a place on a page of a well-formed tree
pub record IsPlace (page_state : ℕ → PageState) (words : ℕ → ℕ → ℕ) (place : Place) : Type 0 where
  pub tree : IsTreeAt place.level 1 page_state words place.page
  pub in_range : place.next ≤ length (items_of (words place.page))

-- the place has an item left, and the cursor's path has room for this place and those below it
abbrev pub IsNextPlace : (page_state : ℕ → PageState) (words : ℕ → ℕ → ℕ) → Place → Cursor → Type 0
IsNextPlace page_state words place cursor = IsPlace page_state words place
    × ((place.next < words place.page 1) × (place.level + length cursor.path.items ≤ 13))

-- a cursor's path: places in trees, no more of them than a tree has levels
pub record IsPath (page_state : ℕ → PageState) (words : ℕ → ℕ → ℕ) (path : List Place) : Type 0
  where
    pub places : All (IsPlace page_state words) path
    pub short : (i : ℕ) (d : Place) → i < length path → (slice_index_or path i d).level + i ≤ 13

-- a cursor that can continue
abbrev pub IsCursor : (page_state : ℕ → PageState) (words : ℕ → ℕ → ℕ) → Cursor → Type 0
IsCursor page_state words cursor = IsPath page_state words cursor.path.items
