use Rattle.std.proofs.Common.{◌≡◌, ℕ, ◌+◌, ◌<◌}
use Rattle.be_pages.specs.Pages.{OnlyWrites}
use Rattle.be_tree.proofs.storing.copy_item.Given as goal

-- the header and the words so far are copied, and no later word is written
abbrev pub invariant-loop-i : goal.invariant-loop-i
invariant-loop-i g l = record {
  header : g.R.Look.words l.room l.page l.at ≡ g.R.Look.words l.fn.room l.from l.place;
  copied : (j : ℕ) → j < l.i → g.R.Look.words l.room l.page (l.at + 1 + j) ≡ g.R.Look.words l.fn.room l.from (l.place + 1 + j);
  only : OnlyWrites g.R.Look.kept g.R.Look.page_state g.R.Look.words l.page l.at (l.at + 1 + l.i) l.fn.room l.room;
}
