use Rattle.std.proofs.Common.{◌≡◌, ◌*◌, drop}
use Rattle.be_pages.specs.Pages.{IsUnchanged}
use Rattle.be_tree_reading.specs.Key.{key_cmp}
use Rattle.be_tree_reading.specs.Page.{item_at}
use Rattle.be_tree_reading.proofs.page.cmp_from.Given as goal

-- the words compared so far are equal
abbrev pub invariant-loop-i : goal.invariant-loop-i
invariant-loop-i g l = record {
  so_far : key_cmp (drop (8 * l.i) (item_at (g.L.Look.words l.fn.look l.page) l.at).key) (drop (8 * l.i) l.key) ≡ key_cmp (item_at (g.L.Look.words l.fn.look l.page) l.at).key l.key;
  unchanged : IsUnchanged g.L.Look.kept g.L.Look.page_state g.L.Look.words l.fn.look l.look;
}
