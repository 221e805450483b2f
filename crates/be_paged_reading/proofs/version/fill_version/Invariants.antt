use Rattle.std.proofs.Common.{◌≡◌, length, map}
use Rattle.std.specs.List.{range_with_len}
use Rattle.be_pages.specs.Pages.{IsUnchanged}
use Rattle.be_paged_reading.specs.Page.{entry_at, entry_place}
use Rattle.be_paged_reading.proofs.version.fill_version.Given as goal

abbrev pub invariant-loop-i : goal.invariant-loop-i
invariant-loop-i g l = record {
  entries : l.version.entries.items ≡ map (λ k. entry_at (g.L.Look.words l.fn.look l.page) (entry_place k)) (range_with_len 0 l.i);
  len : length l.version.entries.items ≡ l.i;
  next : l.version.next ≡ g.L.Look.words l.fn.look l.page 2;
  catalog : l.version.catalog ≡ g.L.Look.words l.fn.look l.page 3;
  unchanged : IsUnchanged g.L.Look.kept g.L.Look.page_state g.L.Look.words l.fn.look l.look;
}
