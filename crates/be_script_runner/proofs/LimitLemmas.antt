-- The errors caused by limits that are out of range.
use Rattle.std.proofs.Common.{◌≡◌, ℕ, List, inl, inr, refl, ap, ◌∙◌, subst, arith}
use Rattle.std.specs.Prelude.{◌↔◌, Result, Ok, Err, IfErr, OnErr}
use Rattle.std.specs.declared.option.Option.{Option}
use Rattle.be_value.specs.declared.refusals.Refusal.{Refusal}
use Rattle.be_value.specs.declared.refusals.Refusal.TheVariants.{OutOfMemory}
use Rattle.be_table.specs.declared.limits.Limits.{Limits as StoreLimits}
use Rattle.be_store.specs.Passes.{IsPassOf}
use Rattle.be_table.specs.Place.{Opened, SeatFacts}
use Rattle.be_table.specs.Rule.{AreBad, IsWithin, entries}
use Rattle.be_table.specs.Setting.{Setting}
use Rattle.be_table.specs.Steps.{IsPass}
use Rattle.be_table.specs.Versions.{CanEncodeEach}
use Rattle.be_table.specs.declared.pass.Knowledge.{Knowledge}
use Rattle.be_table.specs.Works.{IsOpenRefused}
use Rattle.be_script_runner.specs.Race.{AreFirstPasses, IsRaceInPart, RaceLeaves}
use Rattle.be_script_runner.specs.Run.{IsLate, Wrote}
use Rattle.be_script_runner.specs.declared.faults.RunFault.{RunFault}
use Rattle.be_script_runner.specs.declared.faults.RunFault.TheVariants.{Limits, Read, TooLong, Write, Memory}

-- a result whose errors satisfy P isn't an error that P excludes
pub not_by : {A : Type 0} (r : Result A RunFault) (P : RunFault → Type 0) (e : RunFault) → (P e → ⊥) → IfErr r P → r ≡ Err e → ⊥
not_by {A} r P e never all is = never (subst (λ (x : Result A RunFault). IfErr x P) is all)

-- if the limits are within their ranges, the error isn't Limits
pub no_fault : {A : Type 0} (limits : StoreLimits) (r : Result A RunFault) → IsWithin limits → (r ≡ Err Limits → ⊥) → (r ≡ Err Limits) ↔ AreBad limits
no_fault limits r within never = (λ is. absurd (never is), λ bad. absurd (bad within))

-- limits within their ranges are still within them if the number of passes is one
pub for_one : (limits : StoreLimits) → IsWithin limits → IsWithin (record limits { passes = 1 })
for_one limits w = record {
  some_pages = w.some_pages;
  few_pages = w.few_pages;
  some_pass = omega arith;
  few = omega arith;
  some_commit = w.some_commit;
  short = w.short;
}

-- opening a store with one pass fails only if memory runs out
pub only_memory : (limits : StoreLimits) (e : Refusal) → IsWithin limits → IsOpenRefused (record limits { passes = 1 }) e → e ≡ OutOfMemory
only_memory limits e within (inl bad) = absurd (bad.1 (for_one limits within))
only_memory limits e within (inr want) = want.0

-- an error after the scripts were read leaves a prefix of the whole text or, if memory ran out,
-- whole passes
pub late_stops : {A : Type 0} (r : Result A RunFault) (limits : StoreLimits) (scripts : List (List ℕ)) (old new : Option (List ℕ)) → IfErr r IsLate →
    OnErr r (Wrote old new (IsRaceInPart limits scripts)) → IfErr r (λ e. e ≡ Memory → Wrote old new (AreFirstPasses limits scripts)) →
    IfErr r (λ e. RaceLeaves limits scripts e old new)
late_stops (Ok x) limits scripts old new late w whole = tt
late_stops (Err Limits) limits scripts old new late w whole = absurd late
late_stops (Err Read) limits scripts old new late w whole = absurd late
late_stops (Err TooLong) limits scripts old new late w whole = absurd late
late_stops (Err Write) limits scripts old new late w whole = w
late_stops (Err Memory) limits scripts old new late w whole = whole refl

-- each volume that a pass has seen fits into the store's pages
seen_encoded : (setting : Setting) (store : Opened) (pass : SeatFacts) (a : Knowledge) → IsPassOf store pass → store.limits ≡ setting → pass.knows ≡ a → IsPass pass.knows →
    CanEncodeEach setting.pages setting.volume (entries a.seen)
seen_encoded setting store pass a of_store is same h =
    subst (λ (k : Knowledge). CanEncodeEach setting.pages setting.volume (entries k.seen)) same
    (subst (λ (s : Setting). CanEncodeEach s.pages s.volume (entries pass.knows.seen)) (of_store.0.2 ∙ is) h.volumes)

-- `seen_encoded` for a pass that a server of the store returns
pub served_encoded : (setting : Setting) (store kept : Opened) (pass : SeatFacts) (a : Knowledge) → kept ≡ store → IsPassOf kept pass → store.limits ≡ setting → pass.knows ≡ a → IsPass pass.knows →
    CanEncodeEach setting.pages setting.volume (entries a.seen)
served_encoded setting store kept pass a same of_kept is knows h = seen_encoded setting store pass a (subst (λ (s : Opened). IsPassOf s pass) same of_kept) is knows h
