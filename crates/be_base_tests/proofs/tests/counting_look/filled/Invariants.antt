use Rattle.std.proofs.Common.{◌≡◌}
use Rattle.be_tree_reading.specs.Tree.{IsTree}
use Rattle.be_base_tests.proofs.tests.counting_look.filled.Given as goal

abbrev pub invariant-loop-i : goal.invariant-loop-i
invariant-loop-i g l = record {
  tree : IsTree (g.R.Look.page_state l.room) (g.R.Look.words l.room) l.root;
  kept : g.R.Look.kept l.room ≡ g.R.Look.kept l.fn.room;
}
