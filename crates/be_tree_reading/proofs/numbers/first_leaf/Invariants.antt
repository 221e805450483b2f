use Rattle.std.proofs.Common.{◌≡◌, ◌<◌, ◌++◌, false, ℕ, List}
use Rattle.be_pages.specs.Pages.{IsUnchanged}
use Rattle.be_tree_reading.specs.Pair.{Pair}
use Rattle.be_tree_reading.specs.Places.{IsNext}
use Rattle.be_tree_reading.specs.Range.{pairs_from}
use Rattle.be_tree_reading.specs.Tree.{IsTreeAt, pairs, pairs_at}
use Rattle.be_tree_reading.proofs.numbers.first_leaf.Given as goal

-- what is below this page from the key on, followed by the rest, is everything in the tree from the key on
abbrev pub invariant-loop-level : goal.invariant-loop-level
invariant-loop-level g l = record {
  least : ℕ;
  some : 0 < least;
  tree : IsTreeAt l.level least (g.L.Look.page_state l.fn.look) (g.L.Look.words l.fn.look) l.page;
  rest : List Pair;
  same : pairs_from (pairs_at l.level (g.L.Look.words l.fn.look) l.page) l.low false ++ rest ≡ pairs_from (pairs (g.L.Look.words l.fn.look) l.root) l.low false;
  next : IsNext (g.L.Look.page_state l.fn.look) (g.L.Look.words l.fn.look) l.next.page l.next.place rest;
  unchanged : IsUnchanged g.L.Look.kept g.L.Look.page_state g.L.Look.words l.fn.look l.look;
}

abbrev pub decreases-loop-level : goal.decreases-loop-level
decreases-loop-level g l = l.level
