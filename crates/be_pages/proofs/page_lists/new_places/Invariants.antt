use Rattle.std.proofs.Common.{◌≡◌, ℕ, ◌<◌, ◌≤◌, length}
use Rattle.be_pages.specs.declared.page_pool.Place.TheVariants.{Free, Current}
use Rattle.be_pages.specs.Place.{place_of}
use Rattle.be_pages.proofs.page_lists.new_places.Given as goal

-- the first places are current, and the others free
abbrev pub invariant-loop-page : goal.invariant-loop-page
invariant-loop-page l = record {
  pages : length l.places.items ≡ l.pages;
  used : (q : ℕ) → q < l.page → place_of l.places.items q ≡ Current;
  free : (q : ℕ) → l.page ≤ q → q < l.pages → place_of l.places.items q ≡ Free;
}
