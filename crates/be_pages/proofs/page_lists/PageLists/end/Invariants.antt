use Rattle.std.proofs.Common.{◌≡◌, ℕ, length, true, false}
use Rattle.be_pages.specs.PageSet.{has_page}
use Rattle.be_pages.specs.Place.{place_of, place_after, retired_at, IsNewest}
use Rattle.be_pages.proofs.page_lists.PageLists.end.Given as goal

-- the pages that no longer wait are settled, and the others are unchanged
abbrev pub invariant-loop-page : goal.invariant-loop-page
invariant-loop-page l = record {
  done : (q : ℕ) → has_page l.self.touched.places.items q ≡ false → place_of l.self.places.items q ≡ place_after l.ending (place_of l.initial.self.places.items q);
  waiting : (q : ℕ) → has_page l.self.touched.places.items q ≡ true → place_of l.self.places.items q ≡ place_of l.initial.self.places.items q;
  len : length l.self.places.items ≡ length l.initial.self.places.items;
  newest : IsNewest l.ending (retired_at l.self.places.items);
}

abbrev pub decreases-loop-page : goal.decreases-loop-page
decreases-loop-page l = l.self.touched.len
