-- How many pages trees have, and how many pages a write holds.
use Rattle.std.specs.Prelude.{◌≡◌, ℕ, zero, suc, ◌+◌, ◌*◌, ◌^◌, ◌<◌, ◌≤◌, ◌⊎◌, List, IsTrue, Bool}
use Rattle.std.specs.Prelude.{true, false, OnErr, OnOk, Result}
use Rattle.std.specs.List.{flat_map}
use Rattle.be_pages.specs.declared.room.PageState.{PageState}
use Rattle.be_pages.specs.Pages.{is_taken, times}
use Rattle.be_value.specs.declared.refusals.Refusal.{Refusal}
use Rattle.be_tree_reading.specs.Pair.{Pair}
use Rattle.be_tree_reading.specs.Tree.{pairs}

-- the pairs of several trees
abbrev pub pairs_of_all : (words : ℕ → ℕ → ℕ) (roots : List ℕ) → List Pair
pairs_of_all words roots = flat_map (λ root. pairs words root) roots

-- enough pairs for a tree whose root is on this level: each branch of the root has at least 6 ^
-- level pairs
abbrev pub CanBeHigh : (level count : ℕ) → Type 0
CanBeHigh level count = (level ≡ 0) ⊎ (2 * 6 ^ level ≤ count)

abbrev pub one_of : Bool → ℕ
one_of true = 1
one_of false = 0

-- how many of the first n pages a write holds: it has taken them and not given them up
abbrev pub in_hand : ℕ → (page_state : ℕ → PageState) → ℕ
in_hand zero page_state = 0
in_hand (suc n) page_state = one_of (is_taken (page_state n)) + in_hand n page_state

-- the write holds at most `most` more pages than before
abbrev pub TakesAtMost : ℕ → (old new : ℕ → PageState) → Type 0
TakesAtMost most old new = (n : ℕ) → in_hand n new ≤ in_hand n old + most

-- the write holds fewer than `most` more pages than before
abbrev pub TakesFewer : ℕ → (old new : ℕ → PageState) → Type 0
TakesFewer most old new = (n : ℕ) → in_hand n new < in_hand n old + most

-- a call takes up to `most` pages, and fewer if it is refused
abbrev pub Takes : {A : Type 0} → ℕ → Result A Refusal → (old new : ℕ → PageState) → Type 0
Takes most result old new = OnOk result (TakesAtMost most old new)
    × OnErr result (TakesFewer most old new)

-- the most pages that a change of a tree on this level takes: two per level, and three at the root
abbrev pub most_taken : (level : ℕ) → ℕ
most_taken level = 2 * level + 3

-- the pages that the write holds are among these
abbrev pub HasInHand : (page_state : ℕ → PageState) → List ℕ → Type 0
HasInHand page_state ps = (q : ℕ) → IsTrue (is_taken (page_state q)) → 0 < times q ps
