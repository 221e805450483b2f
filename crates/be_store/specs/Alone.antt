-- A store's only pass.
use Rattle.std.specs.Prelude.{◌≡◌, ℕ, ◌+◌, List, [], ◌∷◌, ◌++◌, length, Ok}
use Rattle.be_store.specs.Passes.{volume_seen}
use Rattle.be_table.specs.declared.pass.Knowledge.{Knowledge}
use Rattle.be_table.specs.Rule.{entries}
use Rattle.be_table.specs.Steps.{IsPass, entry_by}
use Rattle.be_volume.specs.Volume.{steps}
use Rattle.be_volume.specs.declared.ops.Done.{Done}
use Rattle.be_volume.specs.declared.ops.Op.{Op}

-- This is a pass of a store that has no other pass.
pub record IsAlone (a : Knowledge) : Type 0 where
  pub pass : IsPass a
  pub one : a.limits.passes ≡ 1

-- The write is the next entry after what the pass had seen, and changes the volume at that point,
-- with these outcomes.
pub record WritesNext (a c : Knowledge) (ops : List Op) (n : ℕ) (dones : List Done) : Type 0 where
  pub seen : entries c.seen ≡ entries a.seen ++ entry_by a ops dones ∷ []
  pub step : steps (volume_seen a) ops ≡ Ok (volume_seen c, dones)
  pub number : n ≡ length a.seen + 1
