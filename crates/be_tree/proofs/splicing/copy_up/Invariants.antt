use Rattle.std.proofs.Common.{◌+◌, ◌-◌, ℕ, ◌<◌, ◌≤◌}
use Rattle.be_pages.specs.Pages.{OnlyWrites}
use Rattle.be_tree_reading.specs.Page.{item_place}
use Rattle.be_tree.specs.Splicing.{IsCopy}
use Rattle.be_tree.proofs.splicing.copy_up.Given as goal

-- the last i items have been copied
abbrev pub invariant-loop-i : goal.invariant-loop-i
invariant-loop-i g l = record {
  copied : (k : ℕ) → l.count ≤ k + l.i → k < l.count → IsCopy (g.R.Look.words l.fn.room l.page) (g.R.Look.words l.room l.page) (l.first + k) (l.at + k);
  only : OnlyWrites g.R.Look.kept g.R.Look.page_state g.R.Look.words l.page (item_place (l.at + (l.count - l.i))) (item_place (l.at + l.count)) l.fn.room l.room;
}
