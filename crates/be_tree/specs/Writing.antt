-- What an unwritten node needs to be written, and what it becomes.
use Rattle.std.specs.Prelude.{◌≡◌, ◌≢◌, ℕ, suc, ◌≤◌, List, ◌∷◌, ◌++◌, length, All, IsTrue, Result}
use Rattle.std.specs.Prelude.{OnErr, IfErr, IfOk}
use Rattle.arrayvec.specs.ArrayVec.{ArrayVec}
use Rattle.be_pages.specs.declared.room.PageState.{PageState}
use Rattle.be_pages.specs.Pages.{is_kept, times, KeepsStart}
use Rattle.be_pages.specs.Refusal.{IsFullOf}
use Rattle.be_value.specs.declared.refusals.Refusal.{Refusal}
use Rattle.be_tree.specs.declared.slot.Slot.{Slot}
use Rattle.be_tree.specs.Counting.{Takes}
use Rattle.be_tree_reading.specs.Pair.{Pair}
use Rattle.be_tree.specs.Slot.{IsReady, pairs_of}
use Rattle.be_tree_reading.specs.Tree.{Becomes, BecomesTree, IsBelow, pages_below, pairs_below}

-- each of a node's items can be read, and so can the pair that is put among them
abbrev pub AreReady : (page_state : ℕ → PageState) (words : ℕ → ℕ → ℕ) (given : Pair) → List Slot
    → Type 0
AreReady page_state words given slots = All (IsReady page_state words) slots
    × (length given.key ≤ 264)

-- as in `AreReady`, and what is below the items is well formed
abbrev pub IsWritable : {S : Type 0} → (S → ℕ → PageState) → (S → ℕ → ℕ → ℕ) → (now : S)
    → (level : ℕ) (given : Pair) → List Slot → Type 0
IsWritable page_state_of words_of now level given slots =
    IsBelow level (page_state_of now) (words_of now) (pairs_of (words_of now) given slots)
    × AreReady (page_state_of now) (words_of now) given slots

-- a page that is in use but not below the node
abbrev pub IsApart : {S : Type 0} → (S → ℕ → PageState) → (S → ℕ → ℕ → ℕ) → (now : S)
    → (level : ℕ) (given : Pair) → List Slot → (page : ℕ) → Type 0
IsApart page_state_of words_of now level given slots page =
    IsTrue (is_kept (page_state_of now page)) ×
    (times page (pages_below level (words_of now) (pairs_of (words_of now) given slots)) ≡ 0)

-- two different pages that are in use but not below the node
abbrev pub AreApart : {S : Type 0} → (S → ℕ → PageState) → (S → ℕ → ℕ → ℕ) → (now : S)
    → (level : ℕ) (given : Pair) → List Slot → (left right : ℕ) → Type 0
AreApart page_state_of words_of now level given slots left right =
    IsApart page_state_of words_of now level given slots left
    × (IsApart page_state_of words_of now level given slots right × (left ≢ right))

-- These pages and those below the node have become the pages below these branches, with the node's
-- pairs.
abbrev pub Replaces : {S K : Type 0} → (S → K) → (S → ℕ → PageState) → (S → ℕ → ℕ → ℕ)
    → (level : ℕ) (given : Pair) → List Slot → (pages : List ℕ) (branches : List Pair) → S → S
    → Type 0
Replaces kept_of page_state_of words_of level given slots pages branches old new =
    Becomes kept_of page_state_of words_of
    (pages ++ pages_below level (words_of old) (pairs_of (words_of old) given slots))
    (pairs_below level (words_of old) (pairs_of (words_of old) given slots)) (suc level) branches
    old new

-- if a write packs the node, this holds for the branches that it returns
abbrev pub Packs : {S K E : Type 0} → (S → K) → (S → ℕ → PageState) → (S → ℕ → ℕ → ℕ)
    → (level : ℕ) (given : Pair) → List Slot → (pages : List ℕ) → Result (ArrayVec Slot) E → S → S
    → Type 0
Packs kept_of page_state_of words_of level given slots pages result old new =
    IfOk result (λ branches. Replaces kept_of page_state_of words_of level given slots pages
    (pairs_of (words_of new) given branches.items) old new)

-- as in `Replaces`, but they have become the pages of a tree with this root
abbrev pub ReplacesTree : {S K : Type 0} → (S → K) → (S → ℕ → PageState) → (S → ℕ → ℕ → ℕ)
    → (level : ℕ) (given : Pair) → List Slot → (page root : ℕ) → S → S → Type 0
ReplacesTree kept_of page_state_of words_of level given slots page root old new =
    BecomesTree kept_of page_state_of words_of
    (page ∷ pages_below level (words_of old) (pairs_of (words_of old) given slots))
    (pairs_below level (words_of old) (pairs_of (words_of old) given slots)) root old new

-- If a write is refused, undoing it restores what was there when it began, and no page was left to
-- take. The write holds at most `most` more pages than before, and fewer if it is refused.
abbrev pub Refuses : {S K A : Type 0} → (S → K) → (S → ℕ → PageState) → (S → ℕ → ℕ → ℕ)
    → (full : S → ℕ → Type 0) → (most : ℕ) → Result A Refusal → S → S → Type 0
Refuses kept_of page_state_of words_of full most result old new =
    OnErr result (KeepsStart kept_of page_state_of words_of old new)
    × IfErr result (IsFullOf (full new)) × Takes most result (page_state_of old) (page_state_of new)
