-- Which pass a change belongs to, how it begins, and how it ends.
use Rattle.std.specs.Prelude.{◌≡◌, ◌⊎◌, ◌≤◌, ℕ, Bool, true, false, List, [], length}
use Rattle.std.specs.declared.result.Result.{Result}
use Rattle.std.specs.declared.result.Result.TheVariants.{Ok, Err}
use Rattle.be_table.specs.declared.pass.Knowledge.{Knowledge}
use Rattle.be_value.specs.declared.refusals.Refusal.{Refusal}
use Rattle.be_volume.specs.declared.ops.Done.{Done}
use Rattle.be_store.specs.Conditional.{AcceptsAt, IsConflict, IsLastUnapplied, IsUnapplied}
use Rattle.be_store.specs.History.{Pins, Unpins}
use Rattle.be_store.specs.Passes.{HasRead, IsPinnedTo, volume_pinned}
use Rattle.be_store.specs.declared.conditional.ApplyIfError.TheVariants.{Refused}
use Rattle.be_change.specs.Changing.{Changing, Reads, outcomes}
use Rattle.be_change.specs.declared.ending.Ended.{Ended}
use Rattle.be_change.specs.declared.ending.Ended.TheVariants.{Accepted, Again}
use Rattle.be_change.specs.declared.ending.Kinds.{Kinds}
use Rattle.be_change.specs.declared.ending.Kinds.TheVariants.{Checked, Unchecked}

abbrev pub are_checked : Kinds → Bool
are_checked Checked = true
are_checked Unchecked = false

-- The pass is pinned to the change's snapshot, and the change reads what the pass reads.
abbrev pub IsChangeOf : Changing → Knowledge → Type 0
IsChangeOf change a = IsPinnedTo a change.number × Reads change (volume_pinned a)

-- A change that has collected nothing and that checks kinds if `checks` is true. Either its pass
-- was pinned before and has only read, or its pass wasn't pinned before and is pinned now.
pub record Begins (change : Changing) (checks : Bool) (a c : Knowledge) : Type 0 where
  pub of : IsChangeOf change c
  pub by : change.by ≡ c.number
  pub empty : change.ops ≡ []
  pub checks_are : change.checks ≡ checks
  pub pass : ((change.pins ≡ false) × HasRead a c)
      ⊎ ((change.pins ≡ true) × (b : Knowledge) × Pins a b change.number × HasRead b c)

-- A change that wasn't begun leaves the pass pinned or unpinned as before. The pass may have been
-- pinned and unpinned again.
abbrev pub IsNotBegun : Knowledge → Knowledge → Type 0
IsNotBegun a d = HasRead a d
    ⊎ ((n : ℕ) × (b c : Knowledge) × Pins a b n × HasRead b c × Unpins c d)

-- What was written with this commit number. If nothing was collected, nothing was written.
-- Otherwise exactly the collected operations were written, on exactly what was read, as the next
-- entry after the snapshot. Their outcomes are those that the change gave, so new nodes have the
-- numbers that it returned.
abbrev pub Wrote : Changing → (a c : Knowledge) → ℕ → Type 0
Wrote change a c n = ((change.ops ≡ []) × (c ≡ a) × (n ≡ change.number))
    ⊎ ((1 ≤ length change.ops) × (dones : List Done)
    × AcceptsAt a c change.number change.ops n dones
    × (IsChangeOf change a → dones ≡ outcomes change.first change.ops))

-- How a change ends, before its pin is released, if it is attempted up to `tries` times while
-- another pass holds the lock. If another write was made in the meantime, nothing is written, the
-- journal's length is returned, and the change must be made again. If the change is refused,
-- nothing is written either.
abbrev pub Ends : ℕ → Changing → (a c : Knowledge) → Result Ended Refusal → Type 0
Ends tries change a c (Ok (Accepted n)) = Wrote change a c n
Ends tries change a c (Ok (Again found)) = IsConflict a c change.number found
Ends tries change a c (Err e) = IsLastUnapplied tries a c change.number change.ops (Refused e)

-- How a change ends with a single attempt, before its pin is released.
abbrev pub EndsOnce : Changing → (a c : Knowledge) → Result Ended Refusal → Type 0
EndsOnce change a c (Ok (Accepted n)) = Wrote change a c n
EndsOnce change a c (Ok (Again found)) = IsConflict a c change.number found
EndsOnce change a c (Err e) = IsUnapplied a c change.number change.ops (Refused e)

-- If the change made the pin, the pin is released. Any other pin remains in place.
abbrev pub Releases : Bool → Knowledge → Knowledge → Type 0
Releases true c d = Unpins c d
Releases false c d = d ≡ c
