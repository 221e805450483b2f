use Rattle.std.proofs.Common.{◌≡◌, ◌<◌, ℕ}
use Rattle.be_pages.specs.Pages.{IsUnchanged}
use Rattle.be_tree_reading.specs.Key.{payload_at}
use Rattle.be_tree_reading.specs.Tree.{IsTreeAt, pairs, pairs_at}
use Rattle.be_tree_reading.proofs.lookup.find_place.Given as goal

-- the key remains to be looked up in the tree from this page down
abbrev pub invariant-loop-level : goal.invariant-loop-level
invariant-loop-level g l = record {
  least : ℕ;
  some : 0 < least;
  tree : IsTreeAt l.level least (g.L.Look.page_state l.fn.look) (g.L.Look.words l.fn.look) l.page;
  same : payload_at (pairs_at l.level (g.L.Look.words l.fn.look) l.page) l.key ≡ payload_at (pairs (g.L.Look.words l.fn.look) l.root) l.key;
  unchanged : IsUnchanged g.L.Look.kept g.L.Look.page_state g.L.Look.words l.fn.look l.look;
}

abbrev pub decreases-loop-level : goal.decreases-loop-level
decreases-loop-level g l = l.level
