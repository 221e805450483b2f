use Rattle.std.proofs.Common.{◌≡◌, suc, ◌+◌, ◌-◌, ◌/◌, ◌≤◌, ◌⊎◌, length}
use Rattle.be_tree.proofs.Builds.Parts.{IsPart}
use Rattle.be_tree.proofs.building.write_level.Given as goal

-- the items before this one are on pages, and at least six are left, or none
abbrev pub invariant-loop-at : goal.invariant-loop-at
invariant-loop-at g l = record {
  within : l.at ≤ length l.slots;
  rest : (length l.slots ≡ l.at) ⊎ (6 ≤ length l.slots - l.at);
  part : IsPart g.R.Look.kept g.R.Look.page_state g.R.Look.words (suc (l.level - 1)) l.slots l.above.items l.at l.fn.room l.room;
  size : length l.above.items + (length l.slots - l.at + 11) / 12 ≡ (length l.slots + 11) / 12;
}

abbrev pub decreases-loop-at : goal.decreases-loop-at
decreases-loop-at g l = length l.slots - l.at
