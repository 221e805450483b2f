-- What a write holds when it stops because no page is free.
use Rattle.std.specs.Prelude.{◌≡◌, ℕ, suc, ◌+◌, ◌*◌, ◌^◌, ◌<◌, ◌≤◌, List, [], length}
use Rattle.std.specs.Prelude.{IfErr, IsOk, OnErr, Result}
use Rattle.be_value.specs.declared.refusals.Refusal.{Refusal}
use Rattle.be_pages.specs.declared.room.PageState.{PageState}
use Rattle.be_pages.specs.Pages.{KeepsStart, Swaps}
use Rattle.be_pages.specs.Refusal.{IsFullOf}
use Rattle.be_tree.specs.Counting.{CanBeHigh, HasInHand, TakesFewer, in_hand, most_taken}
use Rattle.be_tree.specs.Counting.{pairs_of_all}
use Rattle.be_tree_reading.specs.Tree.{IsTree, level_of_root, pages, pairs}
use Rattle.be_volume.specs.Items.{StaysWithin}
use Rattle.be_volume.specs.Sound.{IsSound}
use Rattle.be_volume.specs.Volume.{State, steps}
use Rattle.be_volume.specs.declared.ops.Op.{Op}
use Rattle.be_paged.specs.Changes.{Changes}
use Rattle.be_paged_reading.specs.Page.{Contents, roots}
use Rattle.be_paged_reading.specs.Version.{Encodes}

-- the number of pairs in the trees of contents
abbrev pub pair_count : (words : ℕ → ℕ → ℕ) → Contents → ℕ
pair_count words c = length (pairs_of_all words (roots c))

-- contents have gained at most `more` pairs, and have the same number of trees as before
abbrev pub Gains : (more : ℕ) → (old_words new_words : ℕ → ℕ → ℕ) → (before after : Contents)
    → Type 0
Gains more old_words new_words before after =
    (pair_count new_words after ≤ pair_count old_words before + more)
    × (length after.entries ≡ length before.entries)

-- a tree has been replaced by one that has gained at most `more` pairs
abbrev pub GrowsTree : {S K : Type 0} → (S → K) → (S → ℕ → PageState) → (S → ℕ → ℕ → ℕ)
    → (more root now : ℕ) → (old new : S) → Type 0
GrowsTree kept_of page_state_of words_of more root now old new =
    IsTree (page_state_of new) (words_of new) now
    × Swaps kept_of page_state_of words_of (pages (words_of old) root)
    (pages (words_of new) now) old new
    × (length (pairs (words_of new) now) ≤ length (pairs (words_of old) root) + more)

-- contents have become others that have gained at most `more` pairs, and have the same number of
-- trees
abbrev pub Grows : {S K : Type 0} → (S → K) → (S → ℕ → PageState) → (S → ℕ → ℕ → ℕ) → (more : ℕ)
    → (before after : Contents) → (old new : S) → Type 0
Grows kept_of page_state_of words_of more before after old new =
    Changes kept_of page_state_of words_of before after old new
    × Gains more (words_of old) (words_of new) before after

-- If a write is refused, no page was free, and undoing it restores what was there when it began.
-- `stop` says where it stopped.
abbrev pub RefusesAt : {S K A : Type 0} → (S → K) → (S → ℕ → PageState) → (S → ℕ → ℕ → ℕ)
    → (full : S → ℕ → Type 0) → (stop : S → S → Type 0) → Result A Refusal → (old new : S) → Type 0
RefusesAt kept_of page_state_of words_of full stop result old new =
    OnErr result (KeepsStart kept_of page_state_of words_of old new)
    × IfErr result (IsFullOf (full new)) × OnErr result (stop old new)

-- A change to a tree stops: the tree had become one with no more pairs than before, and a change to
-- the new one was refused.
pub record StopsTree {S K : Type 0} (kept_of : S → K) (page_state_of : S → ℕ → PageState)
    (words_of : S → ℕ → ℕ → ℕ) (root : ℕ) (old new : S) : Type 0 where
  pub between : S
  pub now : ℕ
  pub tree : IsTree (page_state_of between) (words_of between) now
  pub swaps : Swaps kept_of page_state_of words_of (pages (words_of old) root)
      (pages (words_of between) now) old between
  pub few : length (pairs (words_of between) now) ≤ length (pairs (words_of old) root)
  pub takes : TakesFewer (most_taken (level_of_root (words_of between) now))
      (page_state_of between) (page_state_of new)

-- A change to contents stops. They had become others with at most `most` pairs and `indices`
-- indices, and a change to one of their trees was refused. That tree's level is one that `most`
-- pairs allow.
pub record Stops {S K : Type 0} (kept_of : S → K) (page_state_of : S → ℕ → PageState)
    (words_of : S → ℕ → ℕ → ℕ) (most indices : ℕ) (before : Contents) (old new : S) : Type 0 where
  pub between : S
  pub now : Contents
  pub changes : Changes kept_of page_state_of words_of before now old between
  pub few : pair_count (words_of between) now ≤ most
  pub few_indices : length now.entries ≤ indices
  pub level : ℕ
  pub can_be_high : CanBeHigh level most
  pub takes : TakesFewer (most_taken level) (page_state_of between) (page_state_of new)

-- as in `Stops`, with at most `more` more pairs than before, and the same number of indices
abbrev pub StopsNear : {S K : Type 0} → (S → K) → (S → ℕ → PageState) → (S → ℕ → ℕ → ℕ)
    → (more : ℕ) (before : Contents) → (old new : S) → Type 0
StopsNear kept_of page_state_of words_of more before old new =
    Stops kept_of page_state_of words_of (pair_count (words_of old) before + more)
    (length before.entries) before old new

-- a change to contents that is refused stops as in `StopsNear`
abbrev pub RefusesNear : {S K A : Type 0} → (S → K) → (S → ℕ → PageState) → (S → ℕ → ℕ → ℕ)
    → (full : S → ℕ → Type 0) → (more : ℕ) (before : Contents) → Result A Refusal → (old new : S)
    → Type 0
RefusesNear kept_of page_state_of words_of full more before result old new =
    RefusesAt kept_of page_state_of words_of full
    (StopsNear kept_of page_state_of words_of more before)
    result old new

-- A list of operations that the volume accepts stops: the contents had become others with at most
-- `most` + 1 pairs. Here `most` is the maximum number of items that the volume has before, between
-- and after the operations.
abbrev pub StopsList : {S K : Type 0} → (S → K) → (S → ℕ → PageState) → (S → ℕ → ℕ → ℕ)
    → (ops : List Op) (before : Contents) → (old new : S) → Type 0
StopsList kept_of page_state_of words_of ops before old new =
    (volume : State) (most indices : ℕ) → Encodes (words_of old) before volume → IsSound volume
    → IsOk (steps volume ops) → StaysWithin most indices volume ops
    → Stops kept_of page_state_of words_of (most + 1) indices before old new

-- A list of operations takes few pages if nothing was in hand before it. It takes at most one page
-- per five items, one per index, two per level of a tree of that size, and three more.
abbrev pub TakesFew : State → List Op → (old new : ℕ → PageState) → Type 0
TakesFew volume ops old new = (most indices high : ℕ) → StaysWithin most indices volume ops
    → most + 1 < 2 * 6 ^ suc high → HasInHand old [] → (n : ℕ)
    → 5 * in_hand n new ≤ most + 4 * indices + 10 * high + 15
