use Rattle.std.proofs.Common.{◌≡◌}
use Rattle.be_paged_building.specs.Building.{Builds}
use Rattle.be_paged_building_tests.proofs.tests.give_each.Given as goal

-- the builder can go on
abbrev pub invariant-loop-i : goal.invariant-loop-i
invariant-loop-i g l = record {
  builds : Builds (g.R.Look.page_state l.room) (g.R.Look.words l.room) l.builder l.builder.volume.value;
  kept : g.R.Look.kept l.room ≡ g.R.Look.kept l.fn.room;
}
