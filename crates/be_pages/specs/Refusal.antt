-- Which error a call returns.
use Rattle.std.specs.Prelude.{◌≡◌, ℕ, ◌≤◌, ◌<◌, ◌⊎◌}
use Rattle.be_value.specs.declared.refusals.Refusal.{Refusal}
use Rattle.be_value.specs.declared.refusals.Refusal.TheVariants.{OutOfMemory, Full, BadLimits}

-- no page was free, and this holds of the number that the error carries
abbrev pub IsFullOf : (ℕ → Type 0) → Refusal → Type 0
IsFullOf reports refusal = (least : ℕ) × (refusal ≡ Full least) × reports least

-- the error is BadLimits if the number of pages is out of range, and otherwise means that memory
-- ran out
abbrev pub IsLimitOrMemory : ℕ → Refusal → Type 0
IsLimitOrMemory pages refusal = (refusal ≡ BadLimits × ((pages < 8) ⊎ (16384 < pages)))
    ⊎ (refusal ≡ OutOfMemory × (8 ≤ pages) × (pages ≤ 16384))
