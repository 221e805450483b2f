use Rattle.std.proofs.Common.{◌≡◌}
use Rattle.be_paged_building.specs.Building.{Builds}
use Rattle.be_paged_building_tests.proofs.tests.built.Given as goal

-- the builder can go on
abbrev pub invariant-loop-i : goal.invariant-loop-i
invariant-loop-i g l = Builds (g.R.Look.page_state l.room) (g.R.Look.words l.room) l.builder l.builder.volume.value

abbrev pub invariant-loop-i-2 : goal.invariant-loop-i-2
invariant-loop-i-2 g l = record {
  builds : Builds (g.R.Look.page_state l.room) (g.R.Look.words l.room) l.builder l.builder.volume.value;
  kept : g.R.Look.kept l.room ≡ g.R.Look.kept l.fn.room;
}
