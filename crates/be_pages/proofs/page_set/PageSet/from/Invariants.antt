use Rattle.std.proofs.Common.{◌≡◌, ℕ, ◌<◌, ◌≤◌, ◌+◌, length, true, false}
use Rattle.be_pages.specs.PageSet.{has_page}
use Rattle.be_pages.proofs.page_set.PageSet.from.Given as goal

-- the last pages are in the set
abbrev pub invariant-loop-i : goal.invariant-loop-i
invariant-loop-i l = record {
  pages : length l.set.places.items ≡ l.pages;
  in_set : (q : ℕ) → l.pages ≤ q + l.i → q < l.pages → has_page l.set.places.items q ≡ true;
  out : (q : ℕ) → q + l.i < l.pages → has_page l.set.places.items q ≡ false;
}
