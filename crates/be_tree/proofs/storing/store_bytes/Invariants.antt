use Rattle.std.proofs.Common.{◌≡◌, ℕ, ◌+◌, ◌*◌, ◌<◌, length, map, get_or}
use Rattle.std.specs.List.{range_with_len}
use Rattle.std.specs.Int.{to_be_bytes, w64}
use Rattle.be_pages.specs.Pages.{OnlyWrites}
use Rattle.be_tree_reading.specs.Page.{words_for}
use Rattle.be_tree.proofs.storing.store_bytes.Given as goal

-- the words written so far have eight bytes each
abbrev pub invariant-loop-i : goal.invariant-loop-i
invariant-loop-i g l = record {
  stored : (j : ℕ) → j < l.i → to_be_bytes w64 (g.R.Look.words l.room l.page (l.at + j)) ≡ map (λ k. get_or l.bytes k 0) (range_with_len (8 * j) 8);
  only : OnlyWrites g.R.Look.kept g.R.Look.page_state g.R.Look.words l.page l.at (l.at + words_for (length l.bytes)) l.fn.room l.room;
}
