use Rattle.std.proofs.Common.{◌≡◌, drop}
use Rattle.std.specs.Option.{option_copied}
use Rattle.be_pages.specs.Pages.{IsUnchanged}
use Rattle.be_tree_reading.specs.Page.{items_of}
use Rattle.be_tree_reading.specs.Range.{HasGot}
use Rattle.be_tree_reading.proofs.Reading.Leaves.{any_past}
use Rattle.be_paged_reading.specs.Texts.{nodes_passing_to}
use Rattle.be_paged_reading.proofs.texts.test_leaf.Given as goal

-- All items before this one are within the bound, and the list contains the nodes of those that
-- pass.
abbrev pub invariant-loop-i : goal.invariant-loop-i
invariant-loop-i g l = record {
  has : HasGot l.fn.found.items (nodes_passing_to l.fn.test.0 l.fn.test.1 (drop l.fn.leaf.1 (items_of (g.L.Look.words l.fn.look l.fn.leaf.0))) (option_copied l.fn.high))
      (nodes_passing_to l.fn.test.0 l.fn.test.1 (drop l.i (items_of (g.L.Look.words l.fn.look l.fn.leaf.0))) (option_copied l.fn.high)) l.found.items;
  same : any_past (option_copied l.fn.high) (drop l.fn.leaf.1 (items_of (g.L.Look.words l.fn.look l.fn.leaf.0))) ≡ any_past (option_copied l.fn.high) (drop l.i (items_of (g.L.Look.words l.fn.look l.fn.leaf.0)));
  unchanged : IsUnchanged g.L.Look.kept g.L.Look.page_state g.L.Look.words l.fn.look l.look;
}
