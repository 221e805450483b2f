-- What a walk has ahead.
use Rattle.std.specs.Prelude.{◌≡◌, ◌+◌, ◌-◌, ◌<◌, ◌≤◌, ℕ, List, [], ◌∷◌, Option, Some, Bool, true}
use Rattle.std.specs.Prelude.{false, drop, reverse, take, option_copied}
use Rattle.std.specs.List.{filter}
use Rattle.be_pages.specs.declared.room.PageState.{PageState}
use Rattle.be_tree_reading.specs.Back.{IsBackCursor, coming}
use Rattle.be_tree_reading.specs.Cursor.{IsCursor, remaining}
use Rattle.be_tree_reading.specs.Page.{items_of}
use Rattle.be_tree_reading.specs.Pair.{Pair}
use Rattle.be_tree_reading.specs.Range.{is_from, pairs_from}
use Rattle.be_tree_reading.specs.Tree.{IsTreeAt}
use Rattle.be_tree_reading.specs.Way.{is_until, pairs_until}
use Rattle.be_tree_reading.specs.declared.way.Leaf.{Leaf}
use Rattle.be_tree_reading.specs.declared.way.Walk.{Walk}
use Rattle.be_tree_reading.specs.declared.way.Way.{Way}

-- a tree's pairs from the start of a way to the tree's end, in the way's order
abbrev pub from_start : (back strict : Bool) → (low : List ℕ) → (high : Option (List ℕ))
    → List Pair → List Pair
from_start false strict low high pairs = pairs_from pairs low strict
from_start true strict low high pairs = reverse (pairs_until pairs high strict)

abbrev pub begun : Way → List Pair → List Pair
begun way pairs = from_start way.back way.strict way.low.now (option_copied way.high) pairs

-- the key isn't past the end of a way
abbrev pub is_before_end : (back : Bool) → (low : List ℕ) → (high : Option (List ℕ)) → List ℕ → Bool
is_before_end false low high key = is_until high false key
is_before_end true low high key = is_from low false key

abbrev pub is_on_way : Way → List ℕ → Bool
is_on_way way key = is_before_end way.back way.low.now (option_copied way.high) key

-- those of these pairs that aren't past the end of a way
abbrev pub on_way : Way → List Pair → List Pair
on_way way pairs = filter (λ x. is_on_way way x.key) pairs

-- the key at which a way ends, if there is one
abbrev pub end_key : (back : Bool) → (low : List ℕ) → (high : Option (List ℕ)) → Option (List ℕ)
end_key false low high = high
end_key true low high = Some low

abbrev pub end_of_way : Way → Option (List ℕ)
end_of_way way = end_key way.back way.low.now (option_copied way.high)

-- the pairs that a walk has ahead, from those that the cursor of each direction has ahead
abbrev pub turned : (back : Bool) → (rising falling : List Pair) → List Pair
turned false rising falling = rising
turned true rising falling = reverse falling

-- the pairs that a walk has ahead, in its order
abbrev pub ahead : (words : ℕ → ℕ → ℕ) → Walk → List Pair
ahead words walk = turned walk.back (remaining words walk.rising) (coming words walk.falling)

-- a walk that can continue
abbrev pub IsWalk : (page_state : ℕ → PageState) (words : ℕ → ℕ → ℕ) → Walk → Type 0
IsWalk page_state words walk = IsCursor page_state words walk.rising
    × IsBackCursor page_state words walk.falling

-- the items of a leaf that a walk has ahead, in the walk's order
abbrev pub items_ahead : (words : ℕ → ℕ → ℕ) → Leaf → List Pair
items_ahead words leaf = turned leaf.back (drop leaf.at (items_of (words leaf.page)))
    (take leaf.at (items_of (words leaf.page)))

-- the number on its page of the i-th of these items
abbrev pub number_from : (back : Bool) → (at i : ℕ) → ℕ
number_from false at i = at + i
number_from true at i = at - 1 - i

abbrev pub number_ahead : Leaf → ℕ → ℕ
number_ahead leaf i = number_from leaf.back leaf.at i

-- there is an i-th of these items, so its number is that of an item on a page
pub record IsAhead (leaf : Leaf) (i : ℕ) : Type 0 where
  pub in_page : number_ahead leaf i < 12
  pub left : leaf.back ≡ true → i < leaf.at

-- a leaf of a tree, and a place in it
abbrev pub IsLeaf : (page_state : ℕ → PageState) (words : ℕ → ℕ → ℕ) → Leaf → Type 0
IsLeaf page_state words leaf = IsTreeAt 0 1 page_state words leaf.page
    × (leaf.at ≤ words leaf.page 1)

-- if a pair fails a test, all later ones fail it
abbrev pub StaysFalse : (test : List ℕ → Bool) → List Pair → Type 0
StaysFalse test [] = Unit {0}
StaysFalse test (x ∷ xs) = (test x.key ≡ false → filter (λ y. test y.key) xs ≡ [])
    × StaysFalse test xs
