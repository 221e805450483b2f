-- What the places of the pages say about the machine's sets.
use Rattle.std.specs.Prelude.{◌≡◌, ℕ, Bool, true, false, List, Option, Some, None}
use Rattle.be_core.specs.Machine.{World}
use Rattle.be_pages.specs.Place.{place_of}
use Rattle.be_pages.specs.declared.page_pool.Place.{Place}
use Rattle.be_pages.specs.declared.page_pool.Place.TheVariants.{Free, Reserved, Filled, Current}
use Rattle.be_pages.specs.declared.page_pool.Place.TheVariants.{GivenUp, Retired}

-- the page is free
abbrev pub shows_free : Place → Bool
shows_free Free = true
shows_free Reserved = false
shows_free Filled = false
shows_free Current = false
shows_free GivenUp = false
shows_free (Retired r) = false

-- the page is taken
abbrev pub shows_taken : Place → Bool
shows_taken Free = false
shows_taken Reserved = true
shows_taken Filled = true
shows_taken Current = false
shows_taken GivenUp = false
shows_taken (Retired r) = false

-- the number with which the page was retired
abbrev pub retired_with : Place → Option ℕ
retired_with Free = None
retired_with Reserved = None
retired_with Filled = None
retired_with Current = None
retired_with GivenUp = None
retired_with (Retired r) = Some r

-- the page belongs to the current version
abbrev pub is_current : Place → Bool
is_current Free = false
is_current Reserved = false
is_current Filled = false
is_current Current = true
is_current GivenUp = true
is_current (Retired r) = false

-- the places of the pages agree with the machine's state
pub record ShowsPlaces (places : List Place) (w : World) : Type 0 where
  pub free : (p : ℕ) → w.free p ≡ shows_free (place_of places p)
  pub taken : (p : ℕ) → w.taken p ≡ shows_taken (place_of places p)
  pub retired : (p : ℕ) → w.retired p ≡ retired_with (place_of places p)

-- the page belongs to the version that the open write is making
abbrev pub is_of_next : Place → Bool
is_of_next Free = false
is_of_next Reserved = false
is_of_next Filled = true
is_of_next Current = true
is_of_next GivenUp = false
is_of_next (Retired r) = false

-- the open write has given the page up
abbrev pub is_given : Place → Bool
is_given Free = false
is_given Reserved = false
is_given Filled = false
is_given Current = false
is_given GivenUp = true
is_given (Retired r) = false
