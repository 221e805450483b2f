-- What a query finds in a version.
use Rattle.std.specs.Prelude.{◌≡◌, ◌⊎◌, ℕ, List, Err, IfOk, OnOk}
use Rattle.std.specs.List.Sorted.{IsStrictlyIncreasing}
use Rattle.std.specs.declared.result.Result.{Result}
use Rattle.be_query.specs.Grammar.{Formula}
use Rattle.be_table.specs.declared.pass.Knowledge.{Knowledge}
use Rattle.be_value.specs.Refusal.{Answers}
use Rattle.be_value.specs.declared.refusals.Refusal.{Refusal}
use Rattle.be_value.specs.declared.refusals.Refusal.TheVariants.{OutOfMemory}
use Rattle.be_volume.specs.Query.{scan}
use Rattle.be_volume.specs.Volume.{State}
use Rattle.be_store.specs.Passes.{IsPinnedTo, volume_pinned}

-- The query found these nodes, which are those that match it, in ascending order. Otherwise it has
-- this error in the volume, or memory ran out.
abbrev pub Finds : {X : Type 0} → State → Formula → List ℕ → Result X Refusal → Type 0
Finds volume query nodes answer = Answers (λ _. nodes) answer (scan volume query)
    × OnOk answer (IsStrictlyIncreasing nodes)

-- As in `Finds`, for the volume that a pinned pass reads, and the answer is the pin's number.
abbrev pub FindsAtPin : Knowledge → Formula → List ℕ → Result ℕ Refusal → Type 0
FindsAtPin a query nodes answer = Finds (volume_pinned a) query nodes answer
    × IfOk answer (IsPinnedTo a)

-- The query has this error in the volume, or memory ran out.
abbrev pub FailsWith : State → Formula → Refusal → Type 0
FailsWith volume query e = (e ≡ OutOfMemory) ⊎ (scan volume query ≡ Err e)
