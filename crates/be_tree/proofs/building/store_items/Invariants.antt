use Rattle.std.proofs.Common.{ℕ, ◌<◌, get_or}
use Rattle.be_pages.specs.Pages.{OnlyWrites}
use Rattle.be_tree_reading.specs.Page.{item_place}
use Rattle.be_tree_reading.specs.Pair.{Pair}
use Rattle.be_tree.specs.Splicing.{IsStored}
use Rattle.be_tree.proofs.building.store_items.Given as goal

abbrev pub invariant-loop-i : goal.invariant-loop-i
invariant-loop-i g l = record {
  stored : (k : ℕ) (d : Pair) → k < l.i → IsStored (g.R.Look.words l.room l.page) k (get_or l.items k d);
  only : OnlyWrites g.R.Look.kept g.R.Look.page_state g.R.Look.words l.page (item_place 0) (item_place l.i) l.fn.room l.room;
}
