use Rattle.std.proofs.Common.{◌≡◌, length, map}
use Rattle.std.specs.List.{range_with_len}
use Rattle.be_pages.specs.Pages.{IsUnchanged}
use Rattle.be_tree.specs.declared.slot.Slot.TheVariants.{At}
use Rattle.be_tree_reading.specs.Page.{item_place}
use Rattle.be_tree.proofs.storing.fill_slots.Given as goal

-- the slots so far
abbrev pub invariant-loop-j : goal.invariant-loop-j
invariant-loop-j g l = record {
  slots : l.slots.items ≡ map (λ k. At (item_place k) l.page) (range_with_len 0 l.j);
  len : length l.slots.items ≡ l.j;
  unchanged : IsUnchanged g.L.Look.kept g.L.Look.page_state g.L.Look.words l.fn.look l.look;
}
