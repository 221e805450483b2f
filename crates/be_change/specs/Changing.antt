-- A change: what it reads, and what it has collected.
use Rattle.std.specs.Prelude.{◌≡◌, ℕ, Bool, List, [], ◌∷◌, ◌++◌, IfOk}
use Rattle.be_value.specs.declared.values.Kind.{Kind}
use Rattle.be_volume.specs.Ahead.{next_after}
use Rattle.be_volume.specs.Reading.{index_kinds}
use Rattle.be_volume.specs.Volume.{State, steps}
use Rattle.be_volume.specs.declared.ops.Done.{Done}
use Rattle.be_volume.specs.declared.ops.Done.TheVariants.{Node, Unit as Nothing}
use Rattle.be_volume.specs.declared.ops.Op.{Op}
use Rattle.be_volume.specs.declared.ops.Op.TheVariants.{New, Drop, Set, Unset, MkIndex, RmIndex}

-- The snapshot's number, the number of the pass that began the change, the number of the first new
-- node, the kinds of the snapshot's indices, the collected operations, whether a set must have the
-- kind of its index, and whether the change itself has pinned its pass.
pub record Changing : Type 0 where
  pub number : ℕ
  pub by : ℕ
  pub first : ℕ
  pub indices : List (List ℕ × Kind)
  pub ops : List Op
  pub checks : Bool
  pub pins : Bool

-- The change reads this volume, which is its base.
pub record Reads (c : Changing) (base : State) : Type 0 where
  pub first : c.first ≡ base.next
  pub indices : c.indices ≡ index_kinds base

-- If the base accepts the collected operations, this holds for the volume after them.
abbrev pub After : Changing → State → (State → Type 0) → Type 0
After c base P = IfOk (steps base c.ops) (λ r. P r.0)

-- The change with one more operation.
abbrev pub with_op : Changing → Op → Changing
with_op c op = record c { ops = c.ops ++ op ∷ [] }

-- The outcome of an operation, if the next node has this number.
abbrev pub outcome : Op → ℕ → Done
outcome New next = Node next
outcome (Drop node) next = Nothing
outcome (Set node name value) next = Nothing
outcome (Unset node name) next = Nothing
outcome (MkIndex name kind) next = Nothing
outcome (RmIndex name) next = Nothing

-- The outcomes of consecutive operations, if the first new node has this number.
abbrev pub outcomes : ℕ → List Op → List Done
outcomes next [] = []
outcomes next (op ∷ ops) = outcome op next ∷ outcomes (next_after op next) ops
