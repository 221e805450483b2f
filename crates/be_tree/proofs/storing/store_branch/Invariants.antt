use Rattle.std.proofs.Common.{◌≡◌, ℕ, ◌+◌, ◌*◌, ◌^◌, ◌<◌}
use Rattle.be_pages.specs.Pages.{OnlyWrites}
use Rattle.be_tree.proofs.storing.store_branch.Given as goal

-- the header is written, and the words so far are copied
abbrev pub invariant-loop-i : goal.invariant-loop-i
invariant-loop-i g l = record {
  header : g.R.Look.words l.room l.page l.at ≡ l.key_len * 2 ^ 32 + 8;
  copied : (j : ℕ) → j < l.i → g.R.Look.words l.room l.page (l.at + 1 + j) ≡ g.R.Look.words l.fn.room l.child (3 + j);
  only : OnlyWrites g.R.Look.kept g.R.Look.page_state g.R.Look.words l.page l.at (l.at + 42) l.fn.room l.room;
}
