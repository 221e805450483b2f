-- The operations of a pinned version rebuild it.
use Rattle.std.proofs.Common.{◌≡◌, ◌<◌, ◌≤◌, ◌^◌, ℕ, List, [], ◌∷◌, All, IsOk, fold, length, take, sym, ap, subst, arith}
use Rattle.std.proofs.lemmas.List.{length-map, length-take}
use Rattle.std.proofs.lemmas.List.Elements.{All-take}
use Rattle.std.specs.Option.{option_map_or}
use Rattle.be_journal.specs.Journal.{HasOperations, replay_from}
use Rattle.be_journal.specs.declared.entries.Entry.{Entry}
use Rattle.be_journal.proofs.SoundLemmas.{replay_sound}
use Rattle.be_volume_state.specs.Rebuilding.{IsNumbered, state_ops}
use Rattle.be_volume_state.proofs.Numbering.{stays_numbered}
use Rattle.be_volume_state.proofs.Rebuilt.{is_accepted, is_same}
use Rattle.be_table.specs.declared.pass.Commit.{Commit}
use Rattle.be_table.specs.declared.pass.Knowledge.{Knowledge}
use Rattle.be_table.specs.History.{IsHistory}
use Rattle.be_table.specs.Rule.{entries}
use Rattle.be_table.specs.Steps.{IsPass}
use Rattle.be_volume.specs.Ahead.{state_after}
use Rattle.be_volume.specs.Sound.{IsSound}
use Rattle.be_volume.specs.Volume.{State, empty, steps}
use Rattle.be_store.specs.Passes.{IsPinnedTo, volume_pinned}

numbered : (s : State) (log : List Entry) → IsNumbered s → IsNumbered (fold (λ t entry. state_after t entry.ops) s log)
numbered s [] is = is
numbered s (entry ∷ log) is = numbered (state_after s entry.ops) log (stays_numbered s entry.ops is)

has_operations : (first : State) (log : List Entry) → IsHistory first log → All HasOperations log
unfolding IsHistory
has_operations first log h = h.1

pub volume_is : (a : Knowledge) (n : ℕ) → IsPinnedTo a n → volume_pinned a ≡ replay_from a.limits.volume (take n (entries a.seen))
volume_is a n pin = ap (λ o. option_map_or (λ m. replay_from a.limits.volume (take m (entries a.seen))) o empty) pin

pub front_sound : (a : Knowledge) (n : ℕ) → IsPass a → IsSound (replay_from a.limits.volume (take n (entries a.seen)))
front_sound a n pass =
    let few : a.limits.commits < 4294967296 = pass.within.limits.short in
    let room : length a.seen ≤ a.limits.commits = pass.room in
    let long : length (entries a.seen) ≡ length a.seen = length-map a.seen (λ (c : Commit). c.entry) in
    let cut = length-take n (entries a.seen) in
    let low : a.limits.volume.next ≤ 2 ^ 63 = pass.within.next in
    replay_sound a.limits.volume (take n (entries a.seen)) pass.within.sound (All-take HasOperations n (entries a.seen) (has_operations a.limits.volume (entries a.seen) pass.legal))
    (omega (arith, few, room, long, cut, low))

front_numbered : (a : Knowledge) (n : ℕ) → IsPass a → IsNumbered (replay_from a.limits.volume (take n (entries a.seen)))
front_numbered a n pass = numbered a.limits.volume (take n (entries a.seen)) pass.within.numbered

pub accepted : (a : Knowledge) (n : ℕ) → IsPass a → IsPinnedTo a n → IsOk (steps empty (state_ops (volume_pinned a)))
accepted a n pass pin =
    subst (λ (s : State). IsOk (steps empty (state_ops s))) (sym (volume_is a n pin))
    (is_accepted (replay_from a.limits.volume (take n (entries a.seen))) (front_sound a n pass) (front_numbered a n pass))

pub same : (a : Knowledge) (n : ℕ) → IsPass a → IsPinnedTo a n → state_after empty (state_ops (volume_pinned a)) ≡ volume_pinned a
same a n pass pin =
    subst (λ (s : State). state_after empty (state_ops s) ≡ s) (sym (volume_is a n pin))
    (is_same (replay_from a.limits.volume (take n (entries a.seen))) (front_sound a n pass) (front_numbered a n pass))
