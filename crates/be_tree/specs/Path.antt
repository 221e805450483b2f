-- The path down to a key, and how a tree changes below it and up to its root.
use Rattle.std.specs.Prelude.{◌≡◌, ℕ, suc, ◌-◌, ◌<◌, ◌≤◌, List, [], ◌∷◌, ◌++◌, length, take}
use Rattle.std.specs.Prelude.{drop, All, true, IfOk, IfErr, Result}
use Rattle.std.specs.declared.cmp.Ordering.TheVariants.{Equal}
use Rattle.be_pages.specs.declared.room.PageState.{PageState}
use Rattle.be_pages.specs.Pages.{Swaps}
use Rattle.be_tree.specs.declared.path.Step.{Step}
use Rattle.be_tree.specs.declared.path.Path.{Path}
use Rattle.be_tree.specs.declared.rising.Changed.{Changed}
use Rattle.be_tree.specs.declared.rising.Edit.{Edit}
use Rattle.be_tree.specs.declared.slot.Slot.{Slot}
use Rattle.be_tree_reading.specs.Pair.{Pair}
use Rattle.be_tree_reading.specs.Key.{IsBranchFor, IsGap, IsRising, StartsAt, key_cmp, put, without}
use Rattle.be_tree_reading.specs.Page.{item_at, item_place, items_of, level_of}
use Rattle.be_tree.specs.Slot.{IsReady, pairs_of}
use Rattle.be_tree.specs.Splicing.{spliced}
use Rattle.be_tree_reading.specs.Tree.{Becomes, BecomesTree, IsTree, IsTreeAt, child}
use Rattle.be_tree_reading.specs.Tree.{minimum_of_root}
use Rattle.be_tree_reading.specs.Tree.{pages, pages_at, pages_below, pairs, pairs_at, pairs_below}

-- a step of a path: an inner page and one of its branches
pub record IsStep (words : ℕ → ℕ → ℕ) (page : ℕ) (step : Step) : Type 0 where
  pub is_page : step.page ≡ page
  pub inner : 0 < level_of (words page)
  pub in_range : step.at < words page 1

-- from this page, each step's branch leads to the next step's page, and the last step's branch to
-- `last`
abbrev pub IsWay : (words : ℕ → ℕ → ℕ) (page : ℕ) → List Step → (last : ℕ) → Type 0
IsWay words page [] last = page ≡ last
IsWay words page (step ∷ below) last = IsStep words page step
    × IsWay words (child (item_at (words page) (item_place step.at))) below last

-- such a path from a tree's root
pub record IsWayIn (page_state : ℕ → PageState) (words : ℕ → ℕ → ℕ) (root : ℕ) (above : List Step)
    (last : ℕ) : Type 0 where
  pub tree : IsTree page_state words root
  pub some : 0 < root
  pub way : IsWay words (root - 1) above last

-- the path down to a key
pub record IsPathTo (page_state : ℕ → PageState) (words : ℕ → ℕ → ℕ) (root : ℕ) (key : List ℕ)
    (path : Path) : Type 0 where
  pub way : IsWayIn page_state words root path.above.items path.leaf
  pub branches : All (λ step. IsBranchFor key (items_of (words step.page)) step.at) path.above.items
  pub is_leaf : level_of (words path.leaf) ≡ 0
  pub found : IfOk path.place (λ at. (at < words path.leaf 1)
      × (key_cmp (item_at (words path.leaf) (item_place at)).key key ≡ Equal))
  pub absent : IfErr path.place (IsGap key (items_of (words path.leaf)))

-- the path down to a key, with this place
pub record IsPathAt {S : Type 0} (page_state_of : S → ℕ → PageState) (words_of : S → ℕ → ℕ → ℕ)
    (now : S) (root : ℕ) (key : List ℕ) (path : Path) (place : Result ℕ ℕ) : Type 0 where
  pub leads : IsPathTo (page_state_of now) (words_of now) root key path
  pub place_is : path.place ≡ place

-- the path down to the key of a pair that may be put, with this place
pub record IsPathFor {S : Type 0} (page_state_of : S → ℕ → PageState) (words_of : S → ℕ → ℕ → ℕ)
    (now : S) (root : ℕ) (pair : Pair) (path : Path) (place : Result ℕ ℕ) : Type 0 where
  pub leads : IsPathTo (page_state_of now) (words_of now) root pair.key path
  pub place_is : path.place ≡ place
  pub key_fits : length pair.key ≤ 264

-- if the write succeeds, the tree's pages become those of a tree without the key
abbrev pub TakesOut : {S K E : Type 0} → (S → K) → (S → ℕ → PageState) → (S → ℕ → ℕ → ℕ)
    → (root : ℕ) (key : List ℕ) → Result ℕ E → (old new : S) → Type 0
TakesOut kept_of page_state_of words_of root key result old new =
    IfOk result (λ to. BecomesTree kept_of page_state_of words_of (pages (words_of old) root)
    (without key (pairs (words_of old) root)) to old new)

-- if the write succeeds, the tree's pages become those of a tree with the pair
abbrev pub PutsInto : {S K E : Type 0} → (S → K) → (S → ℕ → PageState) → (S → ℕ → ℕ → ℕ)
    → (root : ℕ) (pair : Pair) → Result ℕ E → (old new : S) → Type 0
PutsInto kept_of page_state_of words_of root pair result old new =
    IfOk result (λ to. BecomesTree kept_of page_state_of words_of (pages (words_of old) root)
    (put pair (pairs (words_of old) root)) to old new)

-- a page's pairs, with these replacing those below a step
abbrev pub around : (words : ℕ → ℕ → ℕ) → Step → List Pair → List Pair
around words step ps =
    pairs_below (level_of (words step.page)) words (take step.at (items_of (words step.page)))
    ++ (ps ++ pairs_below (level_of (words step.page)) words
    (drop (suc step.at) (items_of (words step.page))))

-- a tree's pairs, with these replacing those below a path
abbrev pub whole : (words : ℕ → ℕ → ℕ) → List Step → List Pair → List Pair
whole words [] ps = ps
whole words (step ∷ below) ps = around words step (whole words below ps)

-- the minimum number of items of the page at the end of a path
abbrev pub minimum_at : List Step → (level : ℕ) → ℕ
minimum_at [] level = minimum_of_root level
minimum_at (step ∷ below) level = 6

-- the first key is unchanged
abbrev pub KeepsMinimum : List Pair → List Pair → Type 0
KeepsMinimum before after = (k : List ℕ) → StartsAt k before → StartsAt k after

-- the pages in use before have become those of a well-formed tree that starts at this page on this
-- level
pub record BecomesNode {S K : Type 0} (kept_of : S → K) (page_state_of : S → ℕ → PageState)
    (words_of : S → ℕ → ℕ → ℕ)
    (before : List ℕ) (level least : ℕ) (page : ℕ) (old new : S) : Type 0 where
  pub tree : IsTreeAt level least (page_state_of new) (words_of new) page
  pub swaps : Swaps kept_of page_state_of words_of before (pages_at level (words_of new) page) old
      new

-- in a tree, the page at the end of a path, with everything below it, has become another page
pub record IsChanged {S K : Type 0} (kept_of : S → K) (page_state_of : S → ℕ → PageState)
    (words_of : S → ℕ → ℕ → ℕ)
    (root : ℕ) (above : List Step) (changed : Changed) (level : ℕ) (start now : S) : Type 0 where
  pub way : IsWayIn (page_state_of start) (words_of start) root above changed.was
  pub at_level : level_of (words_of start changed.was) ≡ level
  pub node : BecomesNode kept_of page_state_of words_of
      (pages_at level (words_of start) changed.was)
      level (minimum_at above level) changed.page start now
  pub least : changed.same_minimum ≡ true
      → KeepsMinimum (pairs_at level (words_of start) changed.was)
      (pairs_at level (words_of now) changed.page)
  pub rising : IsRising (whole (words_of start) above (pairs_at level (words_of now) changed.page))

-- after slots replace a cut of a leaf, the leaf has enough items and the tree's keys ascend; if
-- `same_minimum` is set, the first key is unchanged
pub record IsEdit (words : ℕ → ℕ → ℕ) (above : List Step) (leaf : ℕ) (edit : Edit) (given : Pair)
    (slots : List Slot) : Type 0 where
  pub is_leaf : level_of (words leaf) ≡ 0
  pub enough : minimum_at above 0 ≤ length
      (spliced edit.cut (items_of (words leaf)) (pairs_of words given slots))
  pub least : edit.same_minimum ≡ true → KeepsMinimum (items_of (words leaf))
      (spliced edit.cut (items_of (words leaf)) (pairs_of words given slots))
  pub rising : IsRising (whole words above
      (spliced edit.cut (items_of (words leaf)) (pairs_of words given slots)))

-- what was below that page has become what is below these slots' items
pub record IsInHand {S K : Type 0} (kept_of : S → K) (page_state_of : S → ℕ → PageState)
    (words_of : S → ℕ → ℕ → ℕ)
    (root : ℕ) (above : List Step) (was : ℕ) (given : Pair) (slots : List Slot) (level : ℕ)
    (start now : S) : Type 0 where
  pub way : IsWayIn (page_state_of start) (words_of start) root above was
  pub at_level : level_of (words_of start was) ≡ level
  pub node : Becomes kept_of page_state_of words_of
      (pages_below level (words_of start) (items_of (words_of start was)))
      (pairs_below level (words_of now) (pairs_of (words_of now) given slots)) level
      (pairs_of (words_of now) given slots) start now
  pub ready : All (IsReady (page_state_of now) (words_of now)) slots
  pub key_fits : length given.key ≤ 264
  pub rising : IsRising (whole (words_of start) above
      (pairs_below level (words_of now) (pairs_of (words_of now) given slots)))
