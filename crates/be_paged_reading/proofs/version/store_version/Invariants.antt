use Rattle.std.proofs.Common.{◌≡◌, ◌≢◌, ℕ, ◌<◌, length, slice_index_or}
use Rattle.be_pages.specs.Pages.{SetsStateAt}
use Rattle.be_pages.specs.declared.room.PageState.TheVariants.{Filled}
use Rattle.be_paged_reading.specs.Entry.{Entry}
use Rattle.be_paged_reading.specs.Page.{entry_at, entry_place, IsEntry}
use Rattle.be_paged_reading.proofs.version.store_version.Given as goal

-- The first four words and the indices before i have been written.
abbrev pub invariant-loop-i : goal.invariant-loop-i
invariant-loop-i g l = record {
  tag : g.R.Look.words l.room l.page 0 ≡ 255;
  count : g.R.Look.words l.room l.page 1 ≡ length l.version.entries.items;
  next : g.R.Look.words l.room l.page 2 ≡ l.version.next;
  catalog : g.R.Look.words l.room l.page 3 ≡ l.version.catalog;
  stored : (k : ℕ) (d : Entry) → k < l.i → entry_at (g.R.Look.words l.room l.page) (entry_place k) ≡ slice_index_or l.version.entries.items k d;
  each : (k : ℕ) → k < l.i → IsEntry (g.R.Look.words l.room l.page) (entry_place k);
  page_state : SetsStateAt (g.R.Look.page_state l.fn.room) (g.R.Look.page_state l.room) l.page Filled;
  others : (q : ℕ) → q ≢ l.page → g.R.Look.words l.room q ≡ g.R.Look.words l.fn.room q;
  kept : g.R.Look.kept l.room ≡ g.R.Look.kept l.fn.room;
}
