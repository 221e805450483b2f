use Rattle.std.proofs.Common.{◌+◌, ℕ, ◌<◌, get_or}
use Rattle.be_pages.specs.Pages.{OnlyWrites}
use Rattle.be_tree.specs.declared.slot.Slot.{Slot}
use Rattle.be_tree_reading.specs.Page.{item_place}
use Rattle.be_tree.specs.Slot.{pair_of}
use Rattle.be_tree.specs.Splicing.{IsStored}
use Rattle.be_tree.proofs.splicing.store_slots.Given as goal

abbrev pub invariant-loop-i : goal.invariant-loop-i
invariant-loop-i g l = record {
  stored : (k : ℕ) (d : Slot) → k < l.i → IsStored (g.R.Look.words l.room l.page) (l.at + k) (pair_of (g.R.Look.words l.fn.room) l.pair (get_or l.slots k d));
  only : OnlyWrites g.R.Look.kept g.R.Look.page_state g.R.Look.words l.page (item_place l.at) (item_place (l.at + l.i)) l.fn.room l.room;
}
