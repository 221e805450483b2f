-- With which errors a builder fails.
use Rattle.std.specs.Prelude.{◌≡◌, ◌≢◌, ◌⊎◌, ℕ, Some, None}
use Rattle.std.specs.declared.option.Option.{Option}
use Rattle.std.specs.declared.result.Result.{Result}
use Rattle.std.specs.declared.result.Result.TheVariants.{Ok, Err}
use Rattle.be_value.specs.declared.refusals.Refusal.{Refusal}
use Rattle.be_value.specs.declared.refusals.Refusal.TheVariants.{Full, OutOfMemory}

-- no memory, or no page
abbrev pub IsLast : Refusal → Type 0
IsLast e = (e ≡ OutOfMemory) ⊎ ((least : ℕ) × (e ≡ Full least))

-- the error of this call, if the builder can't go on after it
abbrev pub IsFailure : {A : Type 0} → Result A Refusal → Option Refusal → Type 0
IsFailure (Ok x) found = found ≡ None
IsFailure (Err e) found = ((found ≡ Some e) × IsLast e) ⊎ ((found ≡ None) × (IsLast e → ⊥))
