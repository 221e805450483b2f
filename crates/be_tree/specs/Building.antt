-- A tree that is built from pairs in ascending order, and the fewest pages that it can have.
use Rattle.std.specs.Prelude.{◌≡◌, ℕ, zero, suc, ◌+◌, ◌*◌, ◌/◌, ◌<◌, ◌≤◌, ◌⊎◌, List, [], ◌++◌}
use Rattle.std.specs.Prelude.{length, drop, All, OnErr, IfErr, Result}
use Rattle.be_pages.specs.declared.room.PageState.{PageState}
use Rattle.be_pages.specs.Pages.{KeepsStart, Swaps}
use Rattle.be_pages.specs.Refusal.{IsFullOf}
use Rattle.be_value.specs.declared.refusals.Refusal.{Refusal}
use Rattle.be_value.specs.declared.refusals.Refusal.TheVariants.{OutOfMemory}
use Rattle.be_tree.specs.declared.building.TreeBuilder.{TreeBuilder}
use Rattle.be_tree.specs.declared.slot.Slot.{Slot}
use Rattle.be_tree.specs.Counting.{TakesAtMost, in_hand}
use Rattle.be_tree.specs.Slot.{IsBranchSlot, pairs_of}
use Rattle.be_tree_reading.specs.Pair.{Pair}
use Rattle.be_tree_reading.specs.Key.{IsRising}
use Rattle.be_tree_reading.specs.Tree.{IsBelow, IsTree, pages, pages_below, pairs, pairs_below}

-- the branches of slots none of which is a new pair
abbrev pub branches_of : (words : ℕ → ℕ → ℕ) → List Slot → List Pair
branches_of words slots = pairs_of words (record { key = []; payload = [] }) slots

-- the pairs that a builder has been given: those of its leaves, and those that it still holds
abbrev pub pairs_given : (words : ℕ → ℕ → ℕ) → TreeBuilder → List Pair
pairs_given words builder = pairs_below 1 words (branches_of words builder.leaves.items)
    ++ builder.items.items

-- the pages that a builder has taken, which are its leaves
abbrev pub pages_taken : (words : ℕ → ℕ → ℕ) → TreeBuilder → List ℕ
pages_taken words builder = pages_below 1 words (branches_of words builder.leaves.items)

-- a builder's leaves are well formed, and its pairs ascend by key
pub record IsBegun (page_state : ℕ → PageState) (words : ℕ → ℕ → ℕ) (builder : TreeBuilder) : Type 0
  where
    pub leaves : IsBelow 1 page_state words (branches_of words builder.leaves.items)
    pub slots : All IsBranchSlot builder.leaves.items
    pub keys_fit : All (λ item. length item.key ≤ 264) builder.items.items
    pub rising : IsRising (pairs_given words builder)

-- in addition, each leaf is full, and the pairs that the builder holds make one or two more
pub record IsBuilder (page_state : ℕ → PageState) (words : ℕ → ℕ → ℕ) (builder : TreeBuilder) :
    Type 0 where
  pub begun : IsBegun page_state words builder
  pub full : length (pairs_given words builder) ≡ 12 * length builder.leaves.items
      + length builder.items.items
  pub few : length builder.items.items < 18
  pub enough : 0 < length builder.leaves.items → 6 ≤ length builder.items.items

-- the builder has been given these pairs as well, and has taken pages for new leaves only
pub record Gains {S K : Type 0} (kept_of : S → K) (page_state_of : S → ℕ → PageState)
    (words_of : S → ℕ → ℕ → ℕ)
    (more : List Pair) (before after : TreeBuilder) (old new : S) : Type 0 where
  pub has_pairs : pairs_given (words_of new) after ≡ pairs_given (words_of old) before ++ more
  pub swaps : Swaps kept_of page_state_of words_of (pages_taken (words_of old) before)
      (pages_taken (words_of new) after) old new

-- the builder has written its first `count` pairs to a leaf
pub record Writes {S K : Type 0} (kept_of : S → K) (page_state_of : S → ℕ → PageState)
    (words_of : S → ℕ → ℕ → ℕ) (count : ℕ) (before after : TreeBuilder) (old new : S) : Type 0 where
  pub begun : IsBegun (page_state_of new) (words_of new) after
  pub gains : Gains kept_of page_state_of words_of [] before after old new
  pub takes : TakesAtMost 1 (page_state_of old) (page_state_of new)
  pub one_more : length after.leaves.items ≡ length before.leaves.items + 1
  pub rest : after.items.items ≡ drop count before.items.items

-- the builder has written all its pairs to leaves, as few as possible
pub record WritesAll {S K : Type 0} (kept_of : S → K) (page_state_of : S → ℕ → PageState)
    (words_of : S → ℕ → ℕ → ℕ) (before after : TreeBuilder) (old new : S) : Type 0 where
  pub begun : IsBegun (page_state_of new) (words_of new) after
  pub gains : Gains kept_of page_state_of words_of [] before after old new
  pub none : after.items.items ≡ []
  pub fewest : length after.leaves.items ≡ (length (pairs_given (words_of old) before) + 11) / 12
  pub takes : (n : ℕ) → in_hand n (page_state_of new) + length before.leaves.items
      ≤ in_hand n (page_state_of old) + length after.leaves.items

-- the number of items on a level of full pages, and the number of pages below it, for n pairs
abbrev pub items_on : (level n : ℕ) → ℕ
items_on zero n = n
items_on (suc level) n = (items_on level n + 11) / 12

abbrev pub pages_under : (level n : ℕ) → ℕ
pages_under zero n = 0
pages_under (suc level) n = items_on (suc level) n + pages_under level n

-- the pages that the write holds more than before, and `had` others, are fewer than `most`
abbrev pub HoldsFewer : (had most : ℕ) → (old new : ℕ → PageState) → Type 0
HoldsFewer had most old new = (n : ℕ) → in_hand n new + had < in_hand n old + most

-- If a write is refused, undoing it restores what was there when it began. Either memory ran out,
-- or no page was left to take, and few pages are held.
abbrev pub RefusesAt : {S K A : Type 0} → (S → K) → (S → ℕ → PageState) → (S → ℕ → ℕ → ℕ)
    → (full : S → ℕ → Type 0) → (few : Type 0) → Result A Refusal → S → S → Type 0
RefusesAt kept_of page_state_of words_of full few result old new =
    OnErr result (KeepsStart kept_of page_state_of words_of old new)
    × IfErr result (λ e. (e ≡ OutOfMemory) ⊎ (IsFullOf (full new) e × few))

-- no tree with at least n pairs has fewer pages
abbrev pub AreFewest : (count n : ℕ) → Type 0
AreFewest count n = (page_state : ℕ → PageState) (words : ℕ → ℕ → ℕ) (root : ℕ)
    → IsTree page_state words root → n ≤ length (pairs words root)
    → count ≤ length (pages words root)

-- the pages that the write holds more than before, and `had` others, are fewer than those of any
-- tree with at least n pairs
abbrev pub IsShort : (had n : ℕ) → (old new : ℕ → PageState) → Type 0
IsShort had n old new = (page_state : ℕ → PageState) (words : ℕ → ℕ → ℕ) (root : ℕ)
    → IsTree page_state words root → n ≤ length (pairs words root)
    → HoldsFewer had (length (pages words root)) old new
