-- Where a key is among a page's items, in terms of places.
use Rattle.std.specs.Prelude.{◌≡◌, ℕ, ◌+◌, ◌-◌, ◌/◌, ◌<◌, ◌≤◌, List, [], ◌++◌, drop, IsTrue}
use Rattle.std.specs.declared.cmp.Ordering.TheVariants.{Equal}
use Rattle.be_pages.specs.declared.room.PageState.{PageState}
use Rattle.be_pages.specs.Pages.{is_readable}
use Rattle.be_tree_reading.specs.Pair.{Pair}
use Rattle.be_tree_reading.specs.Page.{IsItem, item_at, item_place, items_of}
use Rattle.be_tree_reading.specs.Key.{IsBranchFor, IsGap, StartsAt, key_cmp}

-- the number of the item at a place
abbrev pub number_at_place : ℕ → ℕ
number_at_place place = (place - 2) / 42

-- the item at the place is the branch for the key
pub record IsBranchAt (k : List ℕ) (items : List Pair) (place : ℕ) : Type 0 where
  pub number : ℕ
  pub is_branch : IsBranchFor k items number
  pub is_place : place ≡ item_place number

-- the item at the place has the key
pub record IsFoundAt (k : List ℕ) (words : ℕ → ℕ) (place : ℕ) : Type 0 where
  pub number : ℕ
  pub in_range : number < words 1
  pub is_place : place ≡ item_place number
  pub same : key_cmp (item_at words place).key k ≡ Equal

-- the items before the place have lower keys, and the item there has a higher one
pub record IsGapAt (k : List ℕ) (words : ℕ → ℕ) (place : ℕ) : Type 0 where
  pub number : ℕ
  pub is_gap : IsGap k (items_of words) number
  pub is_place : place ≡ item_place number

-- these pairs are those of a leaf from a place on, followed by the rest
pub record AreFrom (words : ℕ → ℕ → ℕ) (page place : ℕ) (all rest : List Pair) : Type 0 where
  pub number : ℕ
  pub is_place : place ≡ item_place number
  pub in_range : number ≤ words page 1
  pub parts : all ≡ drop number (items_of (words page)) ++ rest

-- the branch at a place has the key of the first of these pairs; if the place is 0, there are none
pub record IsNext (page_state : ℕ → PageState) (words : ℕ → ℕ → ℕ) (page place : ℕ)
    (rest : List Pair) : Type 0 where
  pub none : place ≡ 0 → rest ≡ []
  pub starts : 0 < place → StartsAt (item_at (words page) place).key rest
  pub is_item : 0 < place → IsItem (words page) place
  pub in_page : place + 42 ≤ 512
  pub readable : 0 < place → IsTrue (is_readable (page_state page))
