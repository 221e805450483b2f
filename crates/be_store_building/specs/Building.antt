-- A store that is being built: what it has been given, and why a call is refused.
use Rattle.std.specs.Prelude.{◌≡◌, ◌⊎◌, ℕ, ◌-◌, ◌<◌, List, Some, None, refl, length}
use Rattle.std.specs.Coded.{Coded, code_by, coded_ℕ, coded×}
use Rattle.std.specs.declared.option.Option.{Option}
use Rattle.be_pages.specs.declared.room.PageState.{PageState}
use Rattle.be_paged_reading.specs.Page.{reach}
use Rattle.be_paged_reading.specs.Version.{IsVersion}
use Rattle.be_table.specs.declared.limits.Limits.{Limits}
use Rattle.be_value.specs.declared.refusals.Refusal.{Refusal}
use Rattle.be_value.specs.declared.refusals.Refusal.TheVariants.{Full, OutOfMemory}
use Rattle.be_volume.specs.Volume.{State, empty}

-- The limits of the store, the volume that the builder has been given, and the error with which it
-- has failed, if it has.
pub record Building : Type 0 where
  pub limits : Limits
  pub volume : State
  pub failed : Option Refusal

-- a builder that has been given the empty volume
abbrev pub begun : Limits → Building
begun limits = record { limits = limits; volume = empty; failed = None }

-- the builder, having been given this volume
abbrev pub given : Building → State → Building
given b volume = record { limits = b.limits; volume = volume; failed = None }

-- the builder, having failed with this error; it keeps the volume that it had been given
abbrev pub failed_with : Building → Refusal → Building
failed_with b e = record { limits = b.limits; volume = b.volume; failed = Some e }

-- the number of the last node, or 0 if there is none
abbrev pub last_node : State → ℕ
last_node volume = volume.next - 1

-- each version of the volume has more than this number of pages
abbrev pub NeedsMore : (pages : ℕ) → State → Type 0
NeedsMore pages volume = (page_state : ℕ → PageState) (words : ℕ → ℕ → ℕ) (page : ℕ)
    → IsVersion page_state words page volume → pages < length (reach words page)

-- an error that ends the building: memory ran out, or this many pages can't hold the volume
abbrev pub IsSpent : (pages : ℕ) → State → Refusal → Type 0
IsSpent pages volume e = (e ≡ OutOfMemory) ⊎ ((e ≡ Full 0) × NeedsMore pages volume)

-- Why a call is refused, and what it leaves: the builder had failed with this error before; or
-- `why` says why this may not come next; or memory or pages ran out, and the builder has failed.
abbrev pub Refuses : (why spent : Refusal → Type 0) → (old new : Building) → Refusal → Type 0
Refuses why spent old new e = ((old.failed ≡ Some e) × (new ≡ old))
    ⊎ ((old.failed ≡ None) × (((why e) × (new ≡ old))
    ⊎ ((spent e) × (new ≡ failed_with old e))))
