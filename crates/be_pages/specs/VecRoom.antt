-- A page writer in memory, described by its pages' states and words.
use Rattle.std.specs.Prelude.{◌≡◌, ◌≢◌, ℕ, ◌+◌, ◌*◌, ◌<◌, ◌≤◌, ◌^◌, List, length, map, slice_index}
use Rattle.std.specs.Prelude.{slice_index_or, if◌then◌else◌, nat_lt}
use Rattle.std.specs.List.{range_with_len}
use Rattle.std.proofs.Common.{inl, inr, arith}
use Rattle.std.proofs.lemmas.Bool.{cases_lt}
use Rattle.std.proofs.lemmas.List.{get_or_past}
use Rattle.std.proofs.Common.{ap}
use Rattle.be_pages.specs.declared.room.PageState.{PageState as AnyPageState}
use Rattle.be_pages.specs.declared.room.PageState.TheVariants as states
use Rattle.be_pages.specs.declared.page_pool.Place.{Place}
use Rattle.be_pages.specs.declared.page_pool.Place.TheVariants.{Free, Reserved, Filled, Current}
use Rattle.be_pages.specs.declared.page_pool.Place.TheVariants.{GivenUp, Retired}

-- the state, in the open write, of a page with this place
abbrev pub page_state_of : Place → AnyPageState
page_state_of Free = states.Free
page_state_of Reserved = states.Taken
page_state_of Filled = states.Filled
page_state_of Current = states.Old
page_state_of GivenUp = states.GivenUp
page_state_of (Retired n) = states.Free

-- the state of page q; outside the pool it is free
abbrev pub page_state_in : List Place → ℕ → AnyPageState
page_state_in places q = page_state_of (slice_index_or places q Free)

-- the states of the pool's pages, in order
abbrev pub page_states : List Place → List AnyPageState
page_states places = map (page_state_in places) (range_with_len 0 (length places))

-- the word of page q at place i, if pages of 512 words are stored one after another
abbrev pub pool_word : List ℕ → ℕ → ℕ → ℕ
pool_word words q i = if nat_lt i 512 then slice_index words (q * 512 + i) else 0

-- no page of the pool is free
abbrev pub NoneFree : List Place → Type 0
NoneFree places = (q : ℕ) → q < length places → page_state_in places q ≢ states.Free

-- a page of the pool has a number below 2^32
pub small_in : (places : List Place) (q : ℕ) → length places ≤ 16384
    → (page_state_in places q ≡ states.Free → ⊥) → q < 2 ^ 32
small_in places q few some = elim (cases_lt q (length places)) [
  | inl lt ↦ omega (arith, lt, few)
  | inr past ↦ absurd (some (ap page_state_of (get_or_past places q Free past)))
]
