-- The outcomes of accepted lists of operations, and how large node numbers become.
use Rattle.std.proofs.Common.{◌≡◌, ◌<◌, ◌≤◌, ◌+◌, ◌*◌, ◌^◌, List, [], ◌∷◌, ◌++◌, length, Ok, Err, fold, refl, sym, ap, ◌∙◌, arith, length-append, All}
use Rattle.std.proofs.lemmas.List.Elements.{All-head, All-tail}
use Rattle.std.specs.Prelude.{Result}
use Rattle.std.specs.Result.{result_map_both}
use Rattle.be_value.specs.declared.refusals.Refusal.{Refusal}
use Rattle.be_volume.specs.Ahead.{state_after, reached}
use Rattle.be_volume.specs.Volume.{State, advance, step, steps}
use Rattle.be_volume.specs.declared.ops.Done.{Done}
use Rattle.be_volume.specs.declared.ops.Op.{Op}
use Rattle.be_volume.proofs.FactLemmas.{steps_bound}
use Rattle.be_volume.proofs.StepLemmas.{refused_stays}
use Rattle.be_journal.specs.Journal.{replay_from, Agrees, HasOperations}
use Rattle.be_journal.specs.declared.entries.Entry.{Entry}
use Rattle.be_table.specs.History.{IsHistory}

answers_of : State → List Done → Result (State × List Done) Refusal → List Done
answers_of s dones (Ok x) = x.1
answers_of s dones (Err e) = dones

-- an accepted list has an outcome for each operation
steps_count : (s t : State) (old dones : List Done) (ops : List Op) → fold advance (Ok (s, old)) ops ≡ Ok (t, dones) → length dones ≡ length old + length ops
unfolding answers_of
steps_count s t old dones [] e = let same : length old ≡ length dones = ap (λ r. length (answers_of s old r)) e in omega (arith, same)
steps_count s t old dones (op ∷ ops) e = by (step s op) e (λ x. steps_count x.0 t (old ++ x.1 ∷ []) dones ops)
  where
    by : (r : Result (State × Done) Refusal) → fold advance (result_map_both (λ answer. (answer.0, old ++ answer.1 ∷ [])) (λ f. f) r) ops ≡ Ok (t, dones) →
        ((x : State × Done) → fold advance (Ok (x.0, old ++ x.1 ∷ [])) ops ≡ Ok (t, dones) → length dones ≡ length (old ++ x.1 ∷ []) + length ops) → length dones ≡ length old + length (op ∷ ops)
    by (Err f) h rest = absurd (let none = sym (refused_stays f ops) ∙ h in cc)
    by (Ok x) h rest = omega (arith, rest x h, length-append old (x.1 ∷ []))

pub answers_each : (s : State) (e : Entry) → Agrees s e → length e.dones ≡ length e.ops
answers_each s e h = omega (arith, steps_count s h.0 [] e.dones e.ops h.1)

-- an entry uses at most 64 numbers
entered : (s : State) (ops : List Op) → length ops ≤ 64 → (state_after s ops).next ≤ s.next + 64
entered s ops few = by (steps s ops) refl
  where
    by : (x : Result (State × List Done) Refusal) → steps s ops ≡ x → (reached s x).next ≤ s.next + 64
    by (Err e) g = omega arith
    by (Ok x) g = omega (arith, few, steps_bound s x.0 x.1 ops g)

replayed : (s : State) (es : List Entry) → All HasOperations es → (fold (λ t e. state_after t e.ops) s es).next ≤ s.next + 64 * length es
replayed s [] are = omega arith
replayed s (e ∷ es) are =
    let have : HasOperations e = All-head HasOperations e es are in
    omega (arith, entered s e.ops have.0, replayed (state_after s e.ops) es (All-tail HasOperations e es are))

-- the next number after a journal is far below the maximum
pub next_fits : (volume : State) (es : List Entry) → volume.next ≤ 2 ^ 63 → IsHistory volume es → length es < 4294967296 → (replay_from volume es).next + 64 < 2 ^ 64
unfolding IsHistory
next_fits volume es low h short = omega (arith, low, short, replayed volume es h.1)
