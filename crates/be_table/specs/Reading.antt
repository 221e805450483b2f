-- What a page reader sees of an open write, and of a pinned version.
use Rattle.std.specs.Prelude.{◌≢◌, ℕ, ◌<◌, ◌^◌, ◌&&◌, Bool, nat_lt, if◌then◌else◌, List, []}
use Rattle.std.specs.Prelude.{slice_index, slice_index_or}
use Rattle.std.proofs.Common.{inl, inr, arith, refl}
use Rattle.std.proofs.lemmas.Bool.{cases_lt}
use borrow.Author.Tests.{le-ltb}
use Rattle.be_core.specs.declared.event.Phase.{Phase}
use Rattle.be_core.specs.declared.event.Phase.TheVariants.{Idle, Looked, Announced, Pinned}
use Rattle.be_core.specs.Machine.{has}
use Rattle.be_pages.specs.declared.room.PageState.{PageState}
use Rattle.be_pages.specs.declared.room.PageState.TheVariants.{Free as Nowhere, Old}
use Rattle.be_pages.specs.declared.room.PageState.TheVariants.{GivenUp as Given, Taken}
use Rattle.be_pages.specs.declared.room.PageState.TheVariants.{Filled as Full}
use Rattle.be_pages.specs.declared.page_pool.Place.{Place}
use Rattle.be_pages.specs.declared.page_pool.Place.TheVariants.{Free, Reserved, Filled, Current}
use Rattle.be_pages.specs.declared.page_pool.Place.TheVariants.{GivenUp, Retired}
use Rattle.be_table.specs.Setting.{Setting as Limits}
use Rattle.be_table.specs.declared.pass.Commit.{Commit}
use Rattle.be_table.specs.declared.pass.Knowledge.{Knowledge}
use Rattle.be_table.specs.declared.pass.Move.{Move}
use Rattle.be_table.specs.Place.{Opened, Work, Pin}
use Rattle.be_table.specs.Rule.{largest_pool, reach_at, word_place}
use Rattle.be_table.specs.Trace.{upto_lock}

abbrev pub page_state_at : Place → PageState
page_state_at Free = Nowhere
page_state_at Reserved = Taken
page_state_at Filled = Full
page_state_at Current = Old
page_state_at GivenUp = Given
page_state_at (Retired r) = Nowhere

-- the state of a page in a write with these places
abbrev pub page_state_among : List Place → ℕ → PageState
page_state_among places q =
    if nat_lt q largest_pool then page_state_at (slice_index_or places q Free) else Nowhere

-- word i of the page q
abbrev pub word_of_page : List ℕ → ℕ → ℕ → ℕ
word_of_page words q i = if nat_lt i 512 then slice_index words (word_place q i) else 0

-- the states of the pages in an open write, and their words
abbrev pub page_state_in_work : Work → ℕ → PageState
page_state_in_work w q = page_state_among w.knows.places q

abbrev pub words_of : Work → ℕ → ℕ → ℕ
words_of w q i = word_of_page w.knows.words q i

-- what no call on an open write changes
pub record StaysOpen : Type 0 where
  pub table : Opened
  pub number : ℕ
  pub limits : Limits
  pub phase : Phase
  pub seen : List Commit
  pub published : Bool
  pub begun : List Move

abbrev pub open_of : Work → StaysOpen
open_of w = record {
  table = w.table;
  number = w.knows.number;
  limits = w.knows.limits;
  phase = w.knows.phase;
  seen = w.knows.seen;
  published = w.knows.published;
  begun = upto_lock w.knows.number w.knows.history;
}

-- the pages of the pinned version
abbrev pub reach_of : Limits → Phase → List Commit → List ℕ
reach_of limits Idle seen = []
reach_of limits (Looked a) seen = []
reach_of limits (Announced a) seen = []
reach_of limits (Pinned a n) seen = reach_at limits seen n

abbrev pub pinned_page_state : Knowledge → ℕ → PageState
pinned_page_state a q =
    if nat_lt q largest_pool && has (reach_of a.limits a.phase a.seen) q
    then Old else Nowhere

-- the pass without its count of steps
abbrev pub steady : Knowledge → Knowledge
steady a = record a { steps = 0 }

pub small_open : (w : Work) (q : ℕ) → page_state_among w.knows.places q ≢ Nowhere → q < 2 ^ 32
small_open w q some = elim (cases_lt q largest_pool) [
  | inl lt ↦ omega (arith, lt)
  | inr past ↦ absurd (some (rw (le-ltb q largest_pool past) refl))
]

pub small_pin : (p : Pin) (q : ℕ) → pinned_page_state p.knows q ≢ Nowhere → q < 2 ^ 32
small_pin p q some = elim (cases_lt q largest_pool) [
  | inl lt ↦ omega (arith, lt)
  | inr past ↦ absurd (some (rw (le-ltb q largest_pool past) refl))
]
