-- The volume after a list of entries is sound.
use Rattle.std.proofs.Common.{◌≡◌, ◌<◌, ◌≤◌, ◌+◌, ◌*◌, ◌^◌, ℕ, List, [], ◌∷◌, length, refl, Ok, Err, fold, All, arith}
use Rattle.std.proofs.lemmas.List.Elements.{All-head, All-tail}
use Rattle.std.specs.Prelude.{Result}
use Rattle.be_value.specs.declared.refusals.Refusal.{Refusal}
use Rattle.be_volume.specs.Ahead.{state_after, reached}
use Rattle.be_volume.specs.Sound.{IsSound, IsOperation}
use Rattle.be_volume.specs.Volume.{State, steps}
use Rattle.be_volume.specs.declared.ops.Done.{Done}
use Rattle.be_volume.specs.declared.ops.Op.{Op}
use Rattle.be_volume.proofs.FactLemmas.{steps_bound}
use Rattle.be_volume.proofs.Soundness.{steps_sound}
use Rattle.be_journal.specs.Journal.{replay_from, HasOperations}
use Rattle.be_journal.specs.declared.entries.Entry.{Entry}

-- the state is sound, and its next number is at most n
record Reaches (s : State) (n : ℕ) : Type 0 where
  sound : IsSound s
  bound : s.next ≤ n

entered : (s : State) (ops : List Op) (n : ℕ) → Reaches s n → All IsOperation ops → length ops ≤ 64 → n + 64 < 2 ^ 64 → Reaches (state_after s ops) (n + 64)
entered s ops n r are few fits = by (steps s ops) refl
  where
    by : (x : Result (State × List Done) Refusal) → steps s ops ≡ x → Reaches (reached s x) (n + 64)
    by (Err e) g = let low : s.next ≤ n = r.bound in record { sound = r.sound; bound = omega arith }
    by (Ok x) g =
        let low : s.next ≤ n = r.bound in
        let grew : x.0.next ≤ s.next + length ops = steps_bound s x.0 x.1 ops g in
        record { sound = steps_sound s x.0 x.1 ops r.sound (omega arith) are g; bound = omega arith }

replayed : (s : State) (entries : List Entry) (n : ℕ) → Reaches s n → All HasOperations entries → n + 64 * length entries < 2 ^ 64 →
    IsSound (fold (λ t entry. state_after t entry.ops) s entries)
replayed s [] n r are fits = r.sound
replayed s (entry ∷ entries) n r are fits =
    let have : HasOperations entry = All-head HasOperations entry entries are in
    let long : n + 64 * length (entry ∷ entries) < 2 ^ 64 = fits in
    replayed (state_after s entry.ops) entries (n + 64) (entered s entry.ops n r have.1 have.0 (omega arith)) (All-tail HasOperations entry entries are) (omega arith)

pub replay_sound : (base : State) (entries : List Entry) → IsSound base → All HasOperations entries → base.next + 64 * length entries < 2 ^ 64 → IsSound (replay_from base entries)
replay_sound base entries sound are fits = replayed base entries base.next (record { sound = sound; bound = omega arith }) are fits
