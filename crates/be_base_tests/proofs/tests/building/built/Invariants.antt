use Rattle.std.proofs.Common.{◌≡◌, ℕ, ◌<◌, ◌≤◌, ◌^◌}
use Rattle.std.specs.Int.{to_be_bytes, w64}
use Rattle.be_tree.specs.Building.{IsBuilder, pairs_given}
use Rattle.be_tree_reading.specs.Key.{AllBelow}
use Rattle.be_base_tests.proofs.tests.building.built.Given as goal

-- the builder has the numbers below this one
abbrev pub invariant-loop-i : goal.invariant-loop-i
invariant-loop-i g l = record {
  builds : IsBuilder (g.R.Look.page_state l.room) (g.R.Look.words l.room) l.builder;
  below : (n : ℕ) → l.i ≤ n → n < 2 ^ 64 → AllBelow (to_be_bytes w64 n) (pairs_given (g.R.Look.words l.room) l.builder);
  kept : g.R.Look.kept l.room ≡ g.R.Look.kept l.fn.room;
}
