use Rattle.std.proofs.Common.{◌≡◌, ℕ, ◌+◌, ◌<◌, slice_index}
use Rattle.be_pages.specs.Pages.{OnlyWrites}
use Rattle.be_paged_reading.proofs.entry.store_words.Given as goal

-- The words written so far.
abbrev pub invariant-loop-j : goal.invariant-loop-j
invariant-loop-j g l = record {
  stored : (k : ℕ) → k < l.j → g.R.Look.words l.room l.page (l.at + k) ≡ slice_index l.words k;
  only : OnlyWrites g.R.Look.kept g.R.Look.page_state g.R.Look.words l.page l.at (l.at + 8) l.fn.room l.room;
}
