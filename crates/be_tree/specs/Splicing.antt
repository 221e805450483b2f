-- A page's items, some of which are replaced with others.
use Rattle.std.specs.Prelude.{◌≡◌, ◌≢◌, ℕ, ◌+◌, ◌<◌, ◌≤◌, List, [], ◌∷◌, ◌++◌, length, take, drop}
use Rattle.std.specs.Prelude.{All, IsTrue}
use Rattle.be_pages.specs.declared.room.PageState.{PageState}
use Rattle.be_pages.specs.declared.room.PageState.TheVariants.{Free, Filled}
use Rattle.be_pages.specs.Pages.{is_kept, OnlyWrites, SetsStateAt, Swaps}
use Rattle.be_tree.specs.declared.slot.Slot.{Slot}
use Rattle.be_tree.specs.declared.splicing.Cut.{Cut}
use Rattle.be_tree_reading.specs.Pair.{Pair}
use Rattle.be_tree_reading.specs.Page.{IsPage, IsPairAt, item_at, item_place, items_of, level_of}
use Rattle.be_tree.specs.Slot.{IsOff, IsReady, pairs_of}

-- a list in which others replace a cut
abbrev pub spliced : {A : Type 0} → Cut → List A → List A → List A
spliced cut xs more = take cut.at xs ++ (more ++ drop (cut.at + cut.gone) xs)

-- item number j of a page is this pair
abbrev pub IsStored : (words : ℕ → ℕ) (j : ℕ) → Pair → Type 0
IsStored words j pair = IsPairAt words (item_place j) pair

-- item number i of one page is item number j of another
abbrev pub IsCopy : (from to : ℕ → ℕ) (i j : ℕ) → Type 0
IsCopy from to i j = IsStored to j (item_at from (item_place i))

-- `count` items of one page, from number i on, are those of another from number j on
abbrev pub AreCopies : (from to : ℕ → ℕ) (i j count : ℕ) → Type 0
AreCopies from to i j count = (k : ℕ) → k < count → IsCopy from to (i + k) (j + k)

-- only a page's words between two items are written
abbrev pub WritesItems : {S K : Type 0} → (S → K) → (S → ℕ → PageState) → (S → ℕ → ℕ → ℕ)
    → (page from to : ℕ) → (old new : S) → Type 0
WritesItems kept_of page_state_of words_of page from to old new =
    OnlyWrites kept_of page_state_of words_of page (item_place from) (item_place to) old new

-- a page has another's items, with room for `more` in place of a cut
pub record HasGap (from to : ℕ → ℕ) (cut : Cut) (more : ℕ) : Type 0 where
  pub same_level : to 0 ≡ from 0
  pub count : to 1 + cut.gone ≡ from 1 + more
  pub front : AreCopies from to 0 0 cut.at
  pub back : (k : ℕ) → cut.at + cut.gone + k < from 1
      → IsCopy from to (cut.at + cut.gone + k) (cut.at + more + k)

-- a free page was taken and filled, and nothing else was written
pub record IsTaken {S K : Type 0} (kept_of : S → K) (page_state_of : S → ℕ → PageState)
    (words_of : S → ℕ → ℕ → ℕ) (page : ℕ) (old new : S) : Type 0 where
  pub kept : kept_of new ≡ kept_of old
  pub was_free : page_state_of old page ≡ Free
  pub page_state : SetsStateAt (page_state_of old) (page_state_of new) page Filled
  pub others : (q : ℕ) → q ≢ page → words_of new q ≡ words_of old q

-- these slots can replace a cut
pub record CanBeSpliced (page_state : ℕ → PageState) (words : ℕ → ℕ → ℕ) (page : ℕ) (cut : Cut)
    (given : Pair) (slots : List Slot) : Type 0 where
  pub is_page : IsPage (words page)
  pub in_use : IsTrue (is_kept (page_state page))
  pub in_range : cut.at + cut.gone ≤ words page 1
  pub few : words page 1 + length slots ≤ 12 + cut.gone
  pub ready : All (IsReady page_state words) slots
  pub off : All (IsOff page) slots
  pub key_fits : length given.key ≤ 264

-- a page has become one that has these slots' items in place of a cut
pub record IsSpliced {S K : Type 0} (kept_of : S → K) (page_state_of : S → ℕ → PageState)
    (words_of : S → ℕ → ℕ → ℕ)
    (page : ℕ) (cut : Cut) (given : Pair) (slots : List Slot) (to : ℕ) (old new : S) : Type 0 where
  pub is_page : IsPage (words_of new to)
  pub same_level : level_of (words_of new to) ≡ level_of (words_of old page)
  pub has_items : items_of (words_of new to)
      ≡ spliced cut (items_of (words_of old page)) (pairs_of (words_of old) given slots)
  pub swaps : Swaps kept_of page_state_of words_of (page ∷ []) (to ∷ []) old new
