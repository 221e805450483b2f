use Rattle.std.proofs.Common.{◌≡◌, ℕ, suc, ◌≤◌, ◌-◌, slice_index_or}
use Rattle.std.specs.declared.cmp.Ordering.TheVariants.{Less}
use Rattle.be_pages.specs.Pages.{IsUnchanged}
use Rattle.be_tree_reading.specs.Pair.{Pair}
use Rattle.be_tree_reading.specs.Key.{key_cmp}
use Rattle.be_tree_reading.specs.Page.{item_place, items_of}
use Rattle.be_tree_reading.proofs.lookup.search.Given as goal

-- the last item compared is below the key
abbrev pub invariant-loop-at : goal.invariant-loop-at
invariant-loop-at g l = record {
  number : ℕ;
  is_place : l.at ≡ item_place number;
  in_range : number ≤ g.L.Look.words l.fn.look l.page 1;
  below : (j : ℕ) (d : Pair) → suc j ≡ number → key_cmp (slice_index_or (items_of (g.L.Look.words l.fn.look l.page)) j d).key l.key ≡ Less;
  unchanged : IsUnchanged g.L.Look.kept g.L.Look.page_state g.L.Look.words l.fn.look l.look;
}

abbrev pub decreases-loop-at : goal.decreases-loop-at
decreases-loop-at g l = l.end - l.at
