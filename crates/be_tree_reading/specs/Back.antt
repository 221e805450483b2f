-- The pairs before a cursor that goes backwards.
use Rattle.std.specs.Prelude.{ℕ, List, [], ◌∷◌, ◌++◌, take}
use Rattle.be_pages.specs.declared.room.PageState.{PageState}
use Rattle.be_tree_reading.specs.Pair.{Pair}
use Rattle.be_tree_reading.specs.Page.{items_of}
use Rattle.be_tree_reading.specs.Tree.{pairs_below}
use Rattle.be_tree_reading.specs.Cursor.{IsPath}
use Rattle.be_tree_reading.specs.declared.back.BackCursor.{BackCursor}
use Rattle.be_tree_reading.specs.declared.cursor.Place.{Place}

-- the pairs below the items of a place's page, before its next item
abbrev pub pairs_before : (words : ℕ → ℕ → ℕ) → Place → List Pair
pairs_before words place = pairs_below place.level words
    (take place.next (items_of (words place.page)))

-- the pairs before the places of a path, those of the deepest place last
abbrev pub pairs_up_to : (words : ℕ → ℕ → ℕ) → List Place → List Pair
pairs_up_to words [] = []
pairs_up_to words (place ∷ path) = pairs_before words place ++ pairs_up_to words path

-- the pairs before a cursor, which are still ahead of it, the last one first
abbrev pub coming : (words : ℕ → ℕ → ℕ) → BackCursor → List Pair
coming words cursor = pairs_up_to words cursor.path.items

-- a cursor that can continue
abbrev pub IsBackCursor : (page_state : ℕ → PageState) (words : ℕ → ℕ → ℕ) → BackCursor → Type 0
IsBackCursor page_state words cursor = IsPath page_state words cursor.path.items
