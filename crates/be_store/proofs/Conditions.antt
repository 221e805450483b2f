-- Conditional writes, from the lock to the return of the call, and when they are retried.
use Rattle.std.proofs.Common.{◌≡◌, ◌≢◌, ◌≤◌, ◌+◌, ◌⊎◌, ℕ, true, false, inl, inr, List, [], ◌∷◌, ◌++◌, length, take, sym, ap, ◌∙◌, subst, arith, length-append}
use Rattle.std.specs.Option.{option_map_or}
use Rattle.std.specs.Prelude.{Result, Ok, Err, IfOk, IfErr}
use Rattle.std.proofs.lemmas.Bool.{false≢true}
use Rattle.std.proofs.lemmas.List.{length-map, take-append-le, take_all}
use Rattle.be_core.specs.Machine.{InTime}
use Rattle.be_core.specs.declared.event.Phase.TheVariants.{Pinned}
use Rattle.be_journal.specs.Journal.{replay_from}
use Rattle.be_table.specs.declared.pass.Commit.{Commit}
use Rattle.be_table.specs.declared.pass.Knowledge.{Knowledge}
use Rattle.be_table.specs.declared.pass.Move.TheVariants.{Unlock}
use Rattle.be_table.specs.Rule.{entries}
use Rattle.be_table.specs.Steps.{IsPass, without_lock, with_history}
use Rattle.be_table.specs.Trace.{Makes}
use Rattle.be_table.specs.Working.{HasWorked}
use Rattle.be_table.specs.Works.{FoundHeld, Moves, TakesLock}
use Rattle.be_value.specs.declared.refusals.Refusal.{Refusal}
use Rattle.be_volume.specs.Volume.{empty, steps}
use Rattle.be_volume.specs.declared.ops.Done.{Done}
use Rattle.be_volume.specs.declared.ops.Op.{Op}
use Rattle.be_store.specs.Conditional.{AcceptsAt, IsConflict, IsHeldBackIf, IsLastUnapplied, IsUnapplied, was_held}
use Rattle.be_store.specs.History.{IsHeldThrough, IsReason, IsRefusedAt, LocksOnly, is_busy, tried}
use Rattle.be_store.specs.Passes.{IsPinnedTo, volume_pinned}
use Rattle.be_store.specs.Writing.{Publishes}
use Rattle.be_store.specs.declared.conditional.ApplyIfError.{ApplyIfError}
use Rattle.be_store.specs.declared.conditional.ApplyIfError.TheVariants.{Conflict, Refused}
use Rattle.be_store.proofs.Applied.{accepts, entries_append, held_locks, learns, learns_only, refused_unlocked}
use Rattle.be_store.proofs.Passes.{pinned_phase}
use Rattle.be_store.proofs.Retries.{accepts_at_last, held_at_last, held_by, learns_at_last, locks_at_last}

-- A write that has taken the lock, and whether or not the length of the journal is the number.
module _ (a w : Knowledge) (t : TakesLock a w) (number : ℕ) where
  -- A pass that was pinned to the whole journal has read the current volume.
  read_is_current : length w.seen ≡ number → IsPinnedTo a number → volume_pinned a ≡ replay_from w.limits.volume (entries w.seen)
  read_is_current long pin =
      let at = pinned_phase a.phase number pin in
      let inside : InTime (length a.seen) (Pinned at.0 number) = subst (InTime (length a.seen)) at.1 t.before.pin in
      let counted = length-map a.seen (λ (x : Commit). x.entry) in
      let all = length-map w.seen (λ (x : Commit). x.entry) in
      let below : number ≤ length (entries a.seen) = omega (arith, inside.1, counted) in
      let whole : entries w.seen ≡ entries a.seen ++ entries t.more.0 = ap entries t.more.1 ∙ entries_append a.seen t.more.0 in
      let read : volume_pinned a ≡ replay_from a.limits.volume (take number (entries a.seen)) = ap (λ o. option_map_or (λ m. replay_from a.limits.volume (take m (entries a.seen))) o empty) pin in
      read ∙ ap (replay_from a.limits.volume) (sym (take-append-le number (entries a.seen) (entries t.more.0) below) ∙ (ap (take number) (sym whole) ∙ take_all number (entries w.seen) (omega (arith, long, all))))
      ∙ ap (λ (k : Knowledge). replay_from k.limits.volume (entries w.seen)) (sym t.same)

  pub accepts_at : (v c : Knowledge) (ops : List Op) (n : ℕ) (dones : List Done) → Publishes w v ops n dones × (length w.seen ≡ number)
      → c ≡ without_lock (with_history v c.history) → IsPass c → Moves v (Unlock v.number ∷ []) c → AcceptsAt a c number ops n dones
  accepts_at v c ops n dones p is pass unlocked =
      let seen = ap length p.0.seen in
      let parts = length-append w.seen (p.0.commit ∷ []) in record {
        accepts = accepts a w t v c ops n dones p.0 is pass unlocked;
        next = omega (arith, p.0.number, seen, parts, p.1);
        read = λ pin. (p.0.answered.0, ap (λ s. steps s ops) (read_is_current p.1 pin) ∙ p.0.answered.1);
      }

  conflict : (found : ℕ) (v c : Knowledge) → (v ≡ w) × (found ≡ length w.seen) × (found ≢ number) → c ≡ without_lock (with_history v c.history)
      → Moves v (Unlock v.number ∷ []) c → IsPass c → IsConflict a c number found
  conflict found v c h is unlocked pass =
      let is_same : c ≡ without_lock (with_history w c.history) = subst (λ (k : Knowledge). c ≡ without_lock (with_history k c.history)) h.0 is in
      let moves : Moves w (Unlock w.number ∷ []) c = subst (λ (k : Knowledge). Moves k (Unlock k.number ∷ []) c) h.0 unlocked in record {
        learns = learns_only a w t c is_same pass moves;
        found_is = h.1 ∙ sym (ap (λ (k : Knowledge). length k.seen) is_same);
        other = h.2;
        locked = w.history;
        lock = t.moves.made;
        unlock = subst (λ k. Makes k w.history (Unlock k ∷ []) c.history) (ap (λ (k : Knowledge). k.number) t.same) moves.made;
      }

  pub unapplied : (v c : Knowledge) (ops : List Op) (e : ApplyIfError) → IsHeldBackIf w v number ops e → c ≡ without_lock (with_history v c.history)
      → Moves v (Unlock v.number ∷ []) c → IsPass c → (v.published ≡ false → HasWorked v.limits v.number v.history) → IsUnapplied a c number ops e
  unapplied v c ops (Conflict found) h is unlocked pass worked = conflict found v c h is unlocked pass
  unapplied v c ops (Refused e) h is unlocked pass worked = (
    learns a w t v c ops e h.0 is pass worked unlocked,
    inr (
      refused_unlocked v c ops e is unlocked h.0.reason,
      ap (λ (k : Knowledge). length k.seen) is ∙ (ap length h.0.seen ∙ h.1),
      held_locks a w t v c ops e h.0 worked unlocked,
    ),
  )

-- The state after a number of failed attempts, the last of which led from m to c.
module _ (a : Knowledge) (writers : List ℕ) (m c : Knowledge) (is : m ≡ tried a writers) (number : ℕ) (ops : List Op) where
  accepts_then : (n : ℕ) (dones : List Done) → AcceptsAt m c number ops n dones → AcceptsAt a c number ops n dones
  accepts_then n dones h = by (subst (λ (k : Knowledge). AcceptsAt k c number ops n dones) is h)
    where
      by : AcceptsAt (tried a writers) c number ops n dones → AcceptsAt a c number ops n dones
      by last = record { accepts = accepts_at_last a writers m c is ops n dones h.accepts; next = last.next; read = last.read }

  conflict_then : (found : ℕ) → IsConflict m c number found → IsConflict a c number found
  conflict_then found h = by (subst (λ (k : Knowledge). IsConflict k c number found) is h)
    where
      by : IsConflict (tried a writers) c number found → IsConflict a c number found
      by last = record {
        learns = learns_at_last a writers m c is h.learns;
        found_is = last.found_is;
        other = last.other;
        locked = last.locked;
        lock = last.lock;
        unlock = last.unlock;
      }

  plain_reason : (e : Refusal) → (FoundHeld e m c × (c.seen ≡ m.seen)) ⊎ (IsRefusedAt c ops e × (length c.seen ≡ number) × LocksOnly m c) → IsReason m c ops e
  plain_reason e (inl h) = inl h
  plain_reason e (inr h) = inr (h.0, h.2)

  -- The last attempt.
  last_unapplied : (tries : ℕ) (e : ApplyIfError) → length writers + 1 ≡ tries → IsUnapplied m c number ops e → IsLastUnapplied tries a c number ops e
  last_unapplied tries (Conflict found) count h = conflict_then found h
  last_unapplied tries (Refused e) count h = (learns_at_last a writers m c is h.0, by h.1)
    where
      by : (FoundHeld e m c × (c.seen ≡ m.seen)) ⊎ (IsRefusedAt c ops e × (length c.seen ≡ number) × LocksOnly m c) → IsHeldThrough tries a c e ⊎ (IsRefusedAt c ops e × (length c.seen ≡ number) × LocksOnly a c)
      by (inl held) = inl (subst (λ n. IsHeldThrough n a c e) count (held_at_last a writers m c is e held.0))
      by (inr at) = inr (at.0, at.1, locks_at_last a writers m c is at.2)

  -- An attempt that wasn't the last.
  free_unapplied : (tries : ℕ) (e : ApplyIfError) → was_held {X = ℕ} (Err e) ≡ false → IsUnapplied m c number ops e → IsLastUnapplied tries a c number ops e
  free_unapplied tries (Conflict found) free h = conflict_then found h
  free_unapplied tries (Refused e) free h = (learns_at_last a writers m c is h.0, by h.1)
    where
      by : (FoundHeld e m c × (c.seen ≡ m.seen)) ⊎ (IsRefusedAt c ops e × (length c.seen ≡ number) × LocksOnly m c) → IsHeldThrough tries a c e ⊎ (IsRefusedAt c ops e × (length c.seen ≡ number) × LocksOnly a c)
      by (inl held) = absurd (false≢true (sym free ∙ ap is_busy held.0.1))
      by (inr at) = inr (at.0, at.1, locks_at_last a writers m c is at.2)

  -- The attempt found that another pass held the lock.
  pub held_again_if : {X : Type 0} (r : Result X ApplyIfError) → was_held r ≡ true → IfErr r (IsUnapplied m c number ops) → (b : ℕ) × (c ≡ tried a (b ∷ writers))
  held_again_if (Ok x) held h = absurd (false≢true held)
  held_again_if (Err (Conflict found)) held h = absurd (false≢true held)
  held_again_if (Err (Refused e)) held h = held_by a writers m c is ops e held (plain_reason e h.1)

  pub accepted_if_last : {X : Type 0} (outcomes_of : X → List Done) (r : Result (ℕ × X) ApplyIfError) → IfOk r (λ x. AcceptsAt m c number ops x.0 (outcomes_of x.1))
      → IfOk r (λ x. AcceptsAt a c number ops x.0 (outcomes_of x.1))
  accepted_if_last outcomes_of (Ok x) h = accepts_then x.0 (outcomes_of x.1) h
  accepted_if_last outcomes_of (Err e) h = tt

  pub refused_if_last : {X : Type 0} (tries : ℕ) (r : Result X ApplyIfError) → length writers + 1 ≡ tries → IfErr r (IsUnapplied m c number ops) → IfErr r (IsLastUnapplied tries a c number ops)
  refused_if_last tries (Ok x) count h = tt
  refused_if_last tries (Err e) count h = last_unapplied tries e count h

  pub refused_if_else : {X : Type 0} (tries : ℕ) (r : Result X ApplyIfError) → was_held r ≡ false → IfErr r (IsUnapplied m c number ops) → IfErr r (IsLastUnapplied tries a c number ops)
  refused_if_else tries (Ok x) free h = tt
  refused_if_else tries (Err (Conflict found)) free h = free_unapplied tries (Conflict found) free h
  refused_if_else tries (Err (Refused e)) free h = free_unapplied tries (Refused e) free h
