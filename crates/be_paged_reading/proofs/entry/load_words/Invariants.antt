use Rattle.std.proofs.Common.{◌≡◌, ℕ, ◌+◌, ◌<◌, length, slice_index}
use Rattle.be_pages.specs.Pages.{IsUnchanged}
use Rattle.be_paged_reading.proofs.entry.load_words.Given as goal

-- The words read so far.
abbrev pub invariant-loop-j : goal.invariant-loop-j
invariant-loop-j g l = record {
  len : length l.words ≡ 8;
  read : (k : ℕ) → k < l.j → slice_index l.words k ≡ g.L.Look.words l.fn.look l.page (l.at + k);
  unchanged : IsUnchanged g.L.Look.kept g.L.Look.page_state g.L.Look.words l.fn.look l.look;
}
