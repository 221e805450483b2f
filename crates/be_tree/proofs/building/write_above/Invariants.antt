use Rattle.std.proofs.Common.{length}
use Rattle.be_tree.proofs.Builds.Levels.{IsRisen}
use Rattle.be_tree.proofs.building.write_above.Given as goal

-- the leaves are below these branches, with as few pages as possible
abbrev pub invariant-loop-alloc : goal.invariant-loop-alloc
invariant-loop-alloc g l = IsRisen g.R.Look.kept g.R.Look.page_state g.R.Look.words l.fn.leaves.items l.slots.items l.level l.fn.room l.room

abbrev pub decreases-loop-alloc : goal.decreases-loop-alloc
decreases-loop-alloc g l = length l.slots.items
