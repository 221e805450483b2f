use Rattle.std.proofs.Common.{◌+◌}
use Rattle.be_pages.specs.Pages.{OnlyWrites}
use Rattle.be_tree_reading.specs.Page.{item_place}
use Rattle.be_tree.specs.Splicing.{AreCopies}
use Rattle.be_tree.proofs.splicing.copy_down.Given as goal

abbrev pub invariant-loop-i : goal.invariant-loop-i
invariant-loop-i g l = record {
  copied : AreCopies (g.R.Look.words l.fn.room l.from) (g.R.Look.words l.room l.page) l.first l.at l.i;
  only : OnlyWrites g.R.Look.kept g.R.Look.page_state g.R.Look.words l.page (item_place l.at) (item_place (l.at + l.i)) l.fn.room l.room;
}
