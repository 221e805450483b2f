use Rattle.std.proofs.Common.{◌≡◌, ◌+◌, ◌*◌, [], take}
use Rattle.be_pages.specs.Pages.{Swaps}
use Rattle.be_tree_reading.specs.Page.{items_of}
use Rattle.be_tree_reading.specs.Tree.{pages_below}
use Rattle.be_tree.proofs.clearing.+clear.Given as goal

-- the pages below the branches so far have been given up
abbrev pub invariant-clear_below-loop-j : goal.invariant-clear_below-loop-j
invariant-clear_below-loop-j g l = record {
  pages : Swaps g.R.Look.kept g.R.Look.page_state g.R.Look.words (pages_below l.level (g.R.Look.words l.fn.room) (take l.j (items_of (g.R.Look.words l.fn.room l.page)))) [] l.fn.room l.room;
  words : g.R.Look.words l.room ≡ g.R.Look.words l.fn.room;
}

abbrev pub decreases-clear_page : goal.decreases-clear_page
decreases-clear_page g l = 2 * l.level + 1

abbrev pub decreases-clear_below : goal.decreases-clear_below
decreases-clear_below g l = 2 * l.level
