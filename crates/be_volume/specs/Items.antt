-- How many items a volume has.
use Rattle.std.specs.Prelude.{ℕ, ◌+◌, ◌≤◌, List, length, take}
use Rattle.std.specs.List.{sum_by}
use Rattle.std.specs.FinMap as map
use Rattle.be_volume.specs.Ahead.{state_after}
use Rattle.be_volume.specs.Volume.{State}
use Rattle.be_volume.specs.declared.ops.Op.{Op}
use Rattle.be_volume.specs.declared.ops.Op.TheVariants.{New, Drop, Set, Unset, MkIndex, RmIndex}

-- a volume's items: a mark for each node, the attributes of each, and the pairs of each index
abbrev pub items : State → ℕ
items s = (map.len s.nodes + sum_by (λ e. map.len e.1) (map.entries s.nodes))
    + sum_by (λ e. map.len e.1.pairs) (map.entries s.indices)

-- the most items that an operation adds: a node is one, and an attribute and its pair are two
abbrev pub most_items : Op → ℕ
most_items New = 1
most_items (Drop node) = 0
most_items (Set node name value) = 2
most_items (Unset node name) = 0
most_items (MkIndex name kind) = 0
most_items (RmIndex name) = 0

-- the most indices that an operation adds
abbrev pub most_indices : Op → ℕ
most_indices New = 0
most_indices (Drop node) = 0
most_indices (Set node name value) = 0
most_indices (Unset node name) = 0
most_indices (MkIndex name kind) = 1
most_indices (RmIndex name) = 0

-- before, between and after these operations the volume has at most this many items and indices
abbrev pub StaysWithin : (most indices : ℕ) → State → List Op → Type 0
StaysWithin most indices s ops = (i : ℕ) → i ≤ length ops
    → (items (state_after s (take i ops)) ≤ most)
    × (map.len (state_after s (take i ops)).indices ≤ indices)
