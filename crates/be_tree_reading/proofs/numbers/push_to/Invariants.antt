use Rattle.std.proofs.Common.{◌≡◌, ◌≤◌, ◌-◌, ℕ, drop}
use Rattle.std.specs.Option.{option_copied}
use Rattle.be_pages.specs.Pages.{IsUnchanged}
use Rattle.be_tree_reading.specs.Page.{item_place, items_of}
use Rattle.be_tree_reading.specs.Places.{number_at_place}
use Rattle.be_tree_reading.specs.Range.{HasGot, numbers_to}
use Rattle.be_tree_reading.proofs.Reading.Leaves.{any_past}
use Rattle.be_tree_reading.proofs.numbers.push_to.Given as goal

-- the items before this one are within the bound, and the list has their numbers
abbrev pub invariant-loop-at : goal.invariant-loop-at
invariant-loop-at g l = record {
  number : ℕ;
  is_place : l.at ≡ item_place number;
  begun : number_at_place l.from ≤ number;
  in_range : number ≤ g.L.Look.words l.fn.look l.page 1;
  has : HasGot l.fn.found.items (numbers_to (drop (number_at_place l.from) (items_of (g.L.Look.words l.fn.look l.page))) (option_copied l.high))
      (numbers_to (drop number (items_of (g.L.Look.words l.fn.look l.page))) (option_copied l.high)) l.found.items;
  same : any_past (option_copied l.high) (drop (number_at_place l.from) (items_of (g.L.Look.words l.fn.look l.page))) ≡ any_past (option_copied l.high) (drop number (items_of (g.L.Look.words l.fn.look l.page)));
  unchanged : IsUnchanged g.L.Look.kept g.L.Look.page_state g.L.Look.words l.fn.look l.look;
}

abbrev pub decreases-loop-at : goal.decreases-loop-at
decreases-loop-at g l = l.end - l.at
