-- The calls of two passes, as runs in be_store's small machine.
use Rattle.std.proofs.Common.{◌≡◌, ℕ, List, [], ◌∷◌, refl, sym, ap, ◌∙◌, ◌++◌, subst, arith}
use Rattle.std.specs.Prelude.{◌≢◌, All, AllPairs, map}
use Rattle.std.proofs.lemmas.List.Elements.{All-cons, All-nil}
use Rattle.std.proofs.lemmas.List.Kept.{AllPairs-cons}
use Rattle.be_journal.specs.declared.entries.Entry.{Entry}
use Rattle.be_table.specs.declared.pass.Knowledge.{Knowledge}
use Rattle.be_volume.specs.Volume.{State, empty}
use Rattle.be_store.specs.Calls.{Calls, PassCalls, views_known}
use Rattle.be_store.specs.OneHistory.{IsOneHistory, PassRun, steps_of, views_of}
use Rattle.be_store.specs.SmallMachine.{Step, first_view}
use Rattle.be_store.specs.Views.{IsClosed, view_of, volume}
use Rattle.be_store.proofs.Views.{calls_number}
use Rattle.be_store.proofs.Calls.{calls_both}
use Rattle.example_history.specs.Visits.{IsHistoryOf, IsNew}

-- what be_store's law of one history says about the calls of all passes
abbrev pub Law : Type 0
Law = (first : State) (count : ℕ) (log : List Entry) (passes : List PassCalls) → IsClosed first count log (map (λ (p : PassCalls). p.last) passes) → (runs : List (PassRun volume))
    × (map (λ (r : PassRun volume). r.number) runs ≡ map (λ (p : PassCalls). p.first.number) passes) × (map (steps_of volume) runs ≡ map (λ (p : PassCalls). p.steps) passes)
    × (map (views_of volume) runs ≡ map views_known passes) × (map (λ (r : PassRun volume). r.last) runs ≡ map view_of (map (λ (p : PassCalls). p.last) passes))
    × IsOneHistory volume first log runs

number_of : (a : Knowledge) (k : ℕ) → IsNew a k → a.number ≡ k
number_of a k h = ap (λ (x : Knowledge). x.number) h.2

view_of_new : (a : Knowledge) (k : ℕ) → IsNew a k → view_of a ≡ first_view volume a.limits.volume a.number
view_of_new a k h = subst (λ (x : Knowledge). view_of x ≡ first_view volume x.limits.volume x.number) (sym h.2) refl

history_of_new : (a : Knowledge) (k : ℕ) → IsNew a k → a.history ≡ []
history_of_new a k h = subst (λ (x : Knowledge). x.history ≡ []) (sym h.2) refl

-- a pass keeps its number
pub last_number : (a : Knowledge) (k : ℕ) (steps : List (Step volume)) (z : Knowledge) → IsNew a k → Calls a steps z → z.number ≡ k
last_number a k steps z new calls = calls_number a steps z calls ∙ number_of a k new

pub history : Law → (journal : List Entry) (a b z y : Knowledge) (first second : List (Step volume)) → IsNew a 0 → IsNew b 1 → Calls a first z → Calls b second y → IsClosed empty 2 journal (z ∷ y ∷ [])
    → IsHistoryOf journal first second
history law journal a b z y first second new_a new_b made_a made_b closed =
    let one : PassCalls = record { first = a; steps = first; last = z; new = view_of_new a 0 new_a; fresh = history_of_new a 0 new_a; made = made_a } in
    let other : PassCalls = record { first = b; steps = second; last = y; new = view_of_new b 1 new_b; fresh = history_of_new b 1 new_b; made = made_b } in
    let r = law empty 2 journal (one ∷ other ∷ []) closed in
    (r.0, r.1 ∙ (λ j. number_of a 0 new_a j ∷ number_of b 1 new_b j ∷ []), r.2, r.5)

-- both passes begin with the store's volume
pub two_begin : (first second : Knowledge) (start : State) → first.limits.volume ≡ start → second.limits.volume ≡ start → All (λ (a : Knowledge). a.limits.volume ≡ start) (first ∷ second ∷ [])
two_begin first second start one other =
    All-cons (λ (a : Knowledge). a.limits.volume ≡ start) first (second ∷ []) one (All-cons (λ (a : Knowledge). a.limits.volume ≡ start) second [] other (All-nil (λ (a : Knowledge). a.limits.volume ≡ start)))

-- the two passes are distinct
pub two_apart : (first second : Knowledge) → first.number ≡ 0 → second.number ≡ 1 → AllPairs ◌≢◌ (map (λ (a : Knowledge). a.number) (first ∷ second ∷ []))
two_apart first second none one =
    AllPairs-cons ◌≢◌ first.number (second.number ∷ [])
    (All-cons (λ k. first.number ≢ k) second.number [] (λ same. omega (arith, none, one, same)) (All-nil (λ k. first.number ≢ k)))
    (AllPairs-cons ◌≢◌ second.number [] (All-nil (λ k. second.number ≢ k)) (λ i j d lt end. absurd (omega (arith, end))))

-- a first write and each pass's later calls are one history, given the passes' numbers
pub history_of_two : Law → (journal : List Entry) (a b w z y : Knowledge) (begin more other : ℕ → List (Step volume)) → IsNew a 0 → IsNew b 1 → Calls a (begin a.number) w → Calls w (more w.number) z → Calls b (other b.number) y → IsClosed empty 2 journal (z ∷ y ∷ [])
    → IsHistoryOf journal (begin 0 ++ more 0) (other 1)
history_of_two law journal a b w z y begin more other new_a new_b began went made closed =
    let first : Calls a (begin 0) w = subst (λ n. Calls a (begin n) w) (number_of a 0 new_a) began in
    let later : Calls w (more 0) z = subst (λ n. Calls w (more n) z) (last_number a 0 (begin 0) w new_a first) went in
    history law journal a b z y (begin 0 ++ more 0) (other 1) new_a new_b (calls_both a (begin 0) w (more 0) z first later) (subst (λ n. Calls b (other n) y) (number_of b 1 new_b) made) closed
