-- How a node is settled among a page's children.
use Rattle.std.specs.Prelude.{◌≡◌, ℕ, suc, ◌+◌, ◌-◌, ◌<◌, ◌≤◌, List, ◌++◌, length, take, drop, All}
use Rattle.std.specs.Prelude.{IfOk, Result}
use Rattle.be_pages.specs.declared.room.PageState.{PageState}
use Rattle.be_tree.specs.declared.path.Step.{Step}
use Rattle.be_tree.specs.declared.settling.Settled.{Settled}
use Rattle.be_tree.specs.declared.settling.Turn.{Turn}
use Rattle.be_tree.specs.declared.settling.Turn.TheVariants.{Above, Whole}
use Rattle.be_tree.specs.declared.slot.Slot.{Slot}
use Rattle.be_tree_reading.specs.Key.{IsRising}
use Rattle.be_tree_reading.specs.Page.{item_at, item_place, items_of, level_of}
use Rattle.be_tree_reading.specs.Pair.{Pair}
use Rattle.be_tree.specs.Path.{IsInHand, whole}
use Rattle.be_tree.specs.Slot.{IsBranchSlot, IsReady, pairs_of}
use Rattle.be_tree.specs.Splicing.{spliced}
use Rattle.be_tree_reading.specs.Tree.{Becomes, BecomesTree, IsTreeAt, child, pages, pages_below}
use Rattle.be_tree_reading.specs.Tree.{pairs_below}

-- an inner page's pairs, with these replacing those below one of its items
abbrev pub beside : (level : ℕ) (words : ℕ → ℕ → ℕ) → Step → List Pair → List Pair
beside level words step ps =
    pairs_below level words (take step.at (items_of (words step.page)))
    ++ (ps ++ pairs_below level words (drop (suc step.at) (items_of (words step.page))))

-- what was below a step's child has become what is below these slots' items
pub record IsChildInHand {S K : Type 0} (kept_of : S → K) (page_state_of : S → ℕ → PageState)
    (words_of : S → ℕ → ℕ → ℕ)
    (step : Step) (was level : ℕ) (given : Pair) (slots : List Slot) (start now : S) : Type 0 where
  pub tree : IsTreeAt (suc level) 2 (page_state_of start) (words_of start) step.page
  pub in_range : step.at < words_of start step.page 1
  pub is_child : child (item_at (words_of start step.page) (item_place step.at)) ≡ was
  pub node : Becomes kept_of page_state_of words_of
      (pages_below level (words_of start) (items_of (words_of start was)))
      (pairs_below level (words_of now) (pairs_of (words_of now) given slots)) level
      (pairs_of (words_of now) given slots) start now
  pub ready : All (IsReady (page_state_of now) (words_of now)) slots
  pub key_fits : length given.key ≤ 264
  pub size : (5 ≤ length slots) × (length slots ≤ 13)
  pub rising : IsRising (beside (suc level) (words_of start) step
      (pairs_below level (words_of now) (pairs_of (words_of now) given slots)))

-- what was below the step's page has become what is below its items, some of which are now other
-- branches; together they have these pairs
pub record IsSettled {S K : Type 0} (kept_of : S → K) (page_state_of : S → ℕ → PageState)
    (words_of : S → ℕ → ℕ → ℕ)
    (step : Step) (level : ℕ) (given : Pair) (all : List Pair) (settled : Settled) (start now : S) :
    Type 0 where
  pub in_range : settled.cut.at + settled.cut.gone ≤ words_of start step.page 1
  pub gone : (0 < settled.cut.gone) × (settled.cut.gone ≤ 2)
  pub some : (0 < length settled.branches.items) × (length settled.branches.items ≤ 2)
  pub before : settled.cut.at ≤ step.at
  pub branches : All IsBranchSlot settled.branches.items
  pub becomes : Becomes kept_of page_state_of words_of
      (pages_below (suc level) (words_of start) (items_of (words_of start step.page))) all
      (suc level)
      (spliced settled.cut (items_of (words_of start step.page))
      (pairs_of (words_of now) given settled.branches.items)) start now

-- a call settles an unwritten node below the step, whatever the state was when the node was loaded
abbrev pub Settles : {S K E : Type 0} → (S → K) → (S → ℕ → PageState) → (S → ℕ → ℕ → ℕ) → Step
    → (was level : ℕ) (given : Pair) → List Slot → Result Settled E → (old new : S) → Type 0
Settles {S} kept_of page_state_of words_of step was level given slots result old new =
    IfOk result (λ settled. (start : S)
    → IsChildInHand kept_of page_state_of words_of step was level given slots start old
    → IsSettled kept_of page_state_of words_of step level given
    (beside (suc level) (words_of start) step
    (pairs_below level (words_of old) (pairs_of (words_of old) given slots))) settled start new)

-- the page at the end of a path is an unwritten node with these slots, which make a tree with these
-- pairs
pub record IsAbove {S K : Type 0} (kept_of : S → K) (page_state_of : S → ℕ → PageState)
    (words_of : S → ℕ → ℕ → ℕ)
    (root : ℕ) (above : List Step) (page : ℕ) (given : Pair) (slots : List Slot) (all : List Pair)
    (start now : S) : Type 0 where
  pub in_hand : IsInHand kept_of page_state_of words_of root above page given slots
      (level_of (words_of start page)) start now
  pub same : whole (words_of start) above (pairs_below (level_of (words_of start page))
      (words_of now) (pairs_of (words_of now) given slots)) ≡ all
  pub few : length slots ≤ 13
  pub some : 0 < length above → 5 ≤ length slots

-- either the tree is complete and has these pairs, or the page above is now an unwritten node that
-- makes a tree with them
abbrev pub IsTurned : {S K : Type 0} → (S → K) → (S → ℕ → PageState) → (S → ℕ → ℕ → ℕ) → (root : ℕ)
    (above : List Step) (given : Pair) (all : List Pair) → Turn → (start now : S) → Type 0
IsTurned kept_of page_state_of words_of root above given all (Whole new) start now =
    BecomesTree kept_of page_state_of words_of (pages (words_of start) root) all new start now
IsTurned kept_of page_state_of words_of root above given all (Above page slots) start now =
    IsAbove kept_of page_state_of words_of root (take (length above - 1) above) page given
    slots.items
    all start now

-- how many pages are taken until an unwritten node at the end of this many steps is settled: two,
-- plus one for each step unless the page above is now unwritten
abbrev pub taken_for : Turn → (steps : ℕ) → ℕ
taken_for (Whole new) steps = steps + 2
taken_for (Above page slots) steps = 2
