use Rattle.std.proofs.Common.{ℕ, ◌-◌, ◌<◌, ◌≤◌, length}
use Rattle.std.specs.Prelude.{slice_index}
use Rattle.be_pages.specs.Place.{retired_at}
use Rattle.be_pages.proofs.page_lists.PageLists.count_expired.Given as goal

-- the queue's pages before `low` have expired, and those from `high` on haven't
abbrev pub invariant-halves : goal.invariant-halves
invariant-halves l = record {
  ordered : l.low ≤ l.high;
  in_range : l.high ≤ length l.self.retired.items;
  below : (i : ℕ) → i < l.low → retired_at l.self.places.items (slice_index l.self.retired.items i) < l.least;
  above : (i : ℕ) → l.high ≤ i → i < length l.self.retired.items → l.least ≤ retired_at l.self.places.items (slice_index l.self.retired.items i);
}

abbrev pub decreases-halves : goal.decreases-halves
decreases-halves l = l.high - l.low
