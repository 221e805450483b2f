-- The places of pages, and how they change.
use Rattle.std.specs.Prelude.{◌≡◌, ℕ, ◌<◌, ◌≤◌, List, Bool, true, false, length, slice_index}
use Rattle.std.specs.Prelude.{slice_index_or, if◌then◌else◌, nat_lt}
use Rattle.be_pages.specs.declared.page_pool.Place.{Place}
use Rattle.be_pages.specs.declared.page_pool.Place.TheVariants.{Free, Reserved, Filled, Current}
use Rattle.be_pages.specs.declared.page_pool.Place.TheVariants.{GivenUp, Retired}
use Rattle.be_pages.specs.declared.page_pool.Ending.{Ending}
use Rattle.be_pages.specs.declared.page_pool.Ending.TheVariants.{Published, Kept, Undone}

-- the place of page q
abbrev pub place_of : List Place → ℕ → Place
place_of places q = slice_index_or places q Current

abbrev pub is_free : Place → Bool
is_free Free = true
is_free Reserved = false
is_free Filled = false
is_free Current = false
is_free GivenUp = false
is_free (Retired n) = false

abbrev pub is_retired : Place → Bool
is_retired Free = false
is_retired Reserved = false
is_retired Filled = false
is_retired Current = false
is_retired GivenUp = false
is_retired (Retired n) = true

-- the open write has not touched the page
abbrev pub is_idle : Place → Bool
is_idle Free = true
is_idle Reserved = false
is_idle Filled = false
is_idle Current = true
is_idle GivenUp = false
is_idle (Retired n) = true

-- the open write has taken the page
abbrev pub is_in_hand : Place → Bool
is_in_hand Free = false
is_in_hand Reserved = true
is_in_hand Filled = true
is_in_hand Current = false
is_in_hand GivenUp = false
is_in_hand (Retired n) = false

-- the page can be given up
abbrev pub is_held_page : Place → Bool
is_held_page Free = false
is_held_page Reserved = true
is_held_page Filled = true
is_held_page Current = true
is_held_page GivenUp = false
is_held_page (Retired n) = false

-- the number with which the page was retired, or 0 if it isn't retired
abbrev pub retired_number : Place → ℕ
retired_number Free = 0
retired_number Reserved = 0
retired_number Filled = 0
retired_number Current = 0
retired_number GivenUp = 0
retired_number (Retired n) = n

abbrev pub retired_at : List Place → ℕ → ℕ
retired_at places q = retired_number (place_of places q)

-- what becomes of a page that is given up: one that the open write took is free immediately
abbrev pub given_place : Place → Place
given_place Free = Free
given_place Reserved = Free
given_place Filled = Free
given_place Current = GivenUp
given_place GivenUp = GivenUp
given_place (Retired n) = Retired n

-- what becomes of a page when the write is published with a number
abbrev pub published_place : ℕ → Place → Place
published_place number Free = Free
published_place number Reserved = Free
published_place number Filled = Current
published_place number Current = Current
published_place number GivenUp = Retired number
published_place number (Retired n) = Retired n

-- what becomes of a page when the write is kept
abbrev pub kept_place : Place → Place
kept_place Free = Free
kept_place Reserved = Current
kept_place Filled = Current
kept_place Current = Current
kept_place GivenUp = Free
kept_place (Retired n) = Retired n

-- what becomes of a page when the write is undone
abbrev pub undone_place : Place → Place
undone_place Free = Free
undone_place Reserved = Free
undone_place Filled = Free
undone_place Current = Current
undone_place GivenUp = Current
undone_place (Retired n) = Retired n

abbrev pub place_after : Ending → Place → Place
place_after (Published number) place = published_place number place
place_after Kept place = kept_place place
place_after Undone place = undone_place place

-- what becomes of a page when those retired with a number below `least` are freed
abbrev pub swept_place : ℕ → Place → Place
swept_place least Free = Free
swept_place least Reserved = Reserved
swept_place least Filled = Filled
swept_place least Current = Current
swept_place least GivenUp = GivenUp
swept_place least (Retired n) = if nat_lt n least then Free else Retired n

-- the page was retired with a number below `least`
abbrev pub is_expired : ℕ → Place → Bool
is_expired least Free = false
is_expired least Reserved = false
is_expired least Filled = false
is_expired least Current = false
is_expired least GivenUp = false
is_expired least (Retired n) = nat_lt n least

-- no retired page has a number above that of the write being published
abbrev pub IsNewest : Ending → (ℕ → ℕ) → Type 0
IsNewest (Published number) number_of = (q : ℕ) → number_of q ≤ number
IsNewest Kept number_of = Unit {0}
IsNewest Undone number_of = Unit {0}

-- the numbers of the queue's pages never decrease
abbrev pub IsOldestFirst : (ℕ → ℕ) → List ℕ → Type 0
IsOldestFirst number_of queue = (i j : ℕ) → i ≤ j → j < length queue
    → number_of (slice_index queue i) ≤ number_of (slice_index queue j)
