-- A tree of pages: its pairs, its pages, and when it is well formed.
use Rattle.std.specs.Prelude.{◌≡◌, ℕ, zero, suc, ◌+◌, ◌<◌, ◌≤◌, List, [], ◌∷◌, ◌++◌, length}
use Rattle.std.specs.Prelude.{slice_index_or, All, IsTrue}
use Rattle.std.specs.List.{flat_map}
use Rattle.std.specs.Int.{from_be_bytes, w64}
use Rattle.be_pages.specs.declared.room.PageState.{PageState}
use Rattle.be_pages.specs.Pages.{is_kept, times, Swaps}
use Rattle.be_tree_reading.specs.Pair.{Pair}
use Rattle.be_tree_reading.specs.Key.{IsRising, StartsAt}
use Rattle.be_tree_reading.specs.Page.{IsPage, items_of, level_of}

-- a branch's page: an inner item's payload
unfoldable pub child : Pair → ℕ
child branch = from_be_bytes w64 branch.payload

-- the pairs below the items of a node on a level, in order
abbrev pub pairs_below : ℕ → (words : ℕ → ℕ → ℕ) (items : List Pair) → List Pair
pairs_below zero words items = items
pairs_below (suc level) words items = flat_map
    (λ b. pairs_below level words (items_of (words (child b)))) items

abbrev pub pairs_at : ℕ → (words : ℕ → ℕ → ℕ) (page : ℕ) → List Pair
pairs_at level words page = pairs_below level words (items_of (words page))

-- the pages below the items of a node on a level
abbrev pub pages_below : ℕ → (words : ℕ → ℕ → ℕ) (items : List Pair) → List ℕ
pages_below zero words items = []
pages_below (suc level) words items = flat_map
    (λ b. child b ∷ pages_below level words (items_of (words (child b)))) items

abbrev pub pages_at : ℕ → (words : ℕ → ℕ → ℕ) (page : ℕ) → List ℕ
pages_at level words page = page ∷ pages_below level words (items_of (words page))

-- a tree's pairs and pages, given its root: 0 for the empty tree, otherwise page + 1
abbrev pub pairs : (words : ℕ → ℕ → ℕ) (root : ℕ) → List Pair
pairs words zero = []
pairs words (suc page) = pairs_at (level_of (words page)) words page

abbrev pub pages : (words : ℕ → ℕ → ℕ) (root : ℕ) → List ℕ
pages words zero = []
pages words (suc page) = pages_at (level_of (words page)) words page

-- the page is a node on this level with at least `least` items
pub record IsNode (level least : ℕ) (words : ℕ → ℕ) : Type 0 where
  pub is_page : IsPage words
  pub at_level : level_of words ≡ level
  pub enough : least ≤ length (items_of words)

-- a branch has the lowest key of its child
pub record IsBranch (branch : Pair) (below : List Pair) : Type 0 where
  pub starts : StartsAt branch.key below
  pub names_page : length branch.payload ≡ 8

-- below the items of a node on a level are nodes that have at least six items each
abbrev pub AreShaped : ℕ → (words : ℕ → ℕ → ℕ) (items : List Pair) → Type 0
AreShaped zero words items = Unit {0}
AreShaped (suc level) words items =
    All (λ b. IsNode level 6 (words (child b)) × IsBranch b (pairs_at level words (child b))
    × AreShaped level words (items_of (words (child b)))) items

-- what is below a node's items: well formed, in order, each page in use and occurring only once
pub record IsBelow (level : ℕ) (page_state : ℕ → PageState) (words : ℕ → ℕ → ℕ) (items : List Pair)
    : Type 0 where
  pub keys_fit : All (λ item. length item.key ≤ 264) items
  pub shaped : AreShaped level words items
  pub rising : IsRising (pairs_below level words items)
  pub once : (q : ℕ) → times q (pages_below level words items) ≤ 1
  pub in_use : (q : ℕ) → 0 < times q (pages_below level words items)
      → IsTrue (is_kept (page_state q))

-- a well-formed tree that starts at a page on a level
pub record IsTreeAt (level least : ℕ) (page_state : ℕ → PageState) (words : ℕ → ℕ → ℕ) (page : ℕ) :
    Type 0 where
  pub node : IsNode level least (words page)
  pub below : IsBelow level page_state words (items_of (words page))
  pub page_once : times page (pages_below level words (items_of (words page))) ≡ 0
  pub page_in_use : IsTrue (is_kept (page_state page))

-- the minimum number of items of a root: an inner root has at least two branches
abbrev pub minimum_of_root : ℕ → ℕ
minimum_of_root zero = 1
minimum_of_root (suc level) = 2

-- a well-formed tree
abbrev pub IsTree : (page_state : ℕ → PageState) (words : ℕ → ℕ → ℕ) (root : ℕ) → Type 0
IsTree page_state words zero = Unit {0}
IsTree page_state words (suc page) = IsTreeAt (level_of (words page))
    (minimum_of_root (level_of (words page))) page_state words page

-- the branch's page has these items
pub record IsWritten (level : ℕ) (words : ℕ → ℕ → ℕ) (items : List Pair) (branch : Pair) : Type 0
  where
    pub is_page : IsPage (words (child branch))
    pub at_level : level_of (words (child branch)) ≡ level
    pub has_items : items_of (words (child branch)) ≡ items
    pub key : branch.key ≡ (slice_index_or items 0 branch).key
    pub names_page : length branch.payload ≡ 8

-- the pages in use before have become those below a node's items, which have these pairs
pub record Becomes {S K : Type 0} (kept_of : S → K) (page_state_of : S → ℕ → PageState)
    (words_of : S → ℕ → ℕ → ℕ)
    (before : List ℕ) (all : List Pair) (level : ℕ) (items : List Pair) (old new : S) : Type 0 where
  pub below : IsBelow level (page_state_of new) (words_of new) items
  pub has_pairs : pairs_below level (words_of new) items ≡ all
  pub swaps : Swaps kept_of page_state_of words_of before (pages_below level (words_of new) items)
      old new

-- the pages in use before have become those of a well-formed tree with these pairs
pub record BecomesTree {S K : Type 0} (kept_of : S → K) (page_state_of : S → ℕ → PageState)
    (words_of : S → ℕ → ℕ → ℕ)
    (before : List ℕ) (all : List Pair) (root : ℕ) (old new : S) : Type 0 where
  pub tree : IsTree (page_state_of new) (words_of new) root
  pub has_pairs : pairs (words_of new) root ≡ all
  pub swaps : Swaps kept_of page_state_of words_of before (pages (words_of new) root) old new

-- a root's level, which is at most 5 in a pool of 16,384 pages and 9 in one of 16,777,216
abbrev pub level_of_root : (words : ℕ → ℕ → ℕ) (root : ℕ) → ℕ
level_of_root words zero = 0
level_of_root words (suc page) = level_of (words page)

-- two neighbours on a level: well-formed trees that share no page, the second after the first
pub record AreNeighbours (level : ℕ) (page_state : ℕ → PageState) (words : ℕ → ℕ → ℕ)
    (left right : ℕ) : Type 0 where
  pub left_tree : IsTreeAt level 6 page_state words left
  pub right_tree : IsTreeAt level 6 page_state words right
  pub once : (q : ℕ) → times q (left ∷ right ∷ [])
      + times q (pages_below level words (items_of (words left) ++ items_of (words right))) ≤ 1
  pub rising : IsRising (pairs_at level words left ++ pairs_at level words right)
