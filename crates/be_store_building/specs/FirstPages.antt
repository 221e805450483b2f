-- The states of the pages of a table that isn't open yet.
use Rattle.std.specs.Prelude.{◌≡◌, ◌≢◌, ℕ, ◌^◌, ◌<◌, ◌≤◌, List, length, slice_index_or}
use Rattle.std.proofs.Common.{inl, inr, arith}
use Rattle.std.proofs.lemmas.Bool.{cases_lt}
use Rattle.std.proofs.lemmas.List.{get_or_past}
use Rattle.be_pages.specs.declared.room.PageState.{PageState}
use Rattle.be_pages.specs.declared.room.PageState.TheVariants.{Free}
use Rattle.be_table.specs.Setting.{largest_pool}

-- the state of page q; beyond the last page it is free
abbrev pub state_in : List PageState → ℕ → PageState
state_in states q = slice_index_or states q Free

-- no page is free
abbrev pub NoneFree : List PageState → Type 0
NoneFree states = (q : ℕ) → q < length states → state_in states q ≢ Free

-- a page of the table has a number below 2^32
pub small_in : (states : List PageState) (q : ℕ) → length states ≤ largest_pool
    → (state_in states q ≡ Free → ⊥) → q < 2 ^ 32
small_in states q few some = elim (cases_lt q (length states)) [
  | inl lt ↦ omega (arith, lt, few)
  | inr past ↦ absurd (some (get_or_past states q Free past))
]
