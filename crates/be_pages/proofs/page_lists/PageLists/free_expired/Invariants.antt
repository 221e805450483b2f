use Rattle.std.proofs.Common.{◌≡◌, ℕ, ◌+◌, ◌≤◌, length, count_by}
use Rattle.be_pages.specs.Place.{is_expired, is_free, place_of, swept_place}
use Rattle.be_pages.proofs.page_lists.PageLists.free_expired.Given as goal

-- what remains to happen to each page is what had to happen to it at first
abbrev pub invariant-loop-freed : goal.invariant-loop-freed
invariant-loop-freed l = record {
  swept : (q : ℕ) → swept_place l.least (place_of l.self.places.items q) ≡ swept_place l.least (place_of l.initial.self.places.items q);
  len : length l.self.places.items ≡ length l.initial.self.places.items;
  fewer : count_by (is_expired l.least) l.self.places.items + l.freed ≡ count_by (is_expired l.least) l.initial.self.places.items;
  free : count_by is_free l.self.places.items ≡ count_by is_free l.initial.self.places.items + l.freed;
  most : l.freed ≤ l.most;
}
