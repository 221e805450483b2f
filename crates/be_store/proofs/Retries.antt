-- A write is retried while another pass holds the lock.
use Rattle.std.proofs.Common.{◌≡◌, ◌≢◌, ◌<◌, ◌+◌, ◌⊎◌, ℕ, true, false, inl, inr, List, [], ◌∷◌, ◌++◌, length, refl, sym, ap, ◌∙◌, subst, arith}
use Rattle.std.specs.Prelude.{Result, Ok, Err, IfOk, IfErr}
use Rattle.std.proofs.lemmas.Bool.{false≢true}
use Rattle.be_table.specs.declared.pass.Knowledge.{Knowledge}
use Rattle.be_table.specs.Steps.{finds_held}
use Rattle.be_table.specs.Works.{FoundHeld, HasNoRoom}
use Rattle.be_value.specs.declared.refusals.Refusal.{Refusal}
use Rattle.be_value.specs.declared.refusals.Refusal.TheVariants.{Busy}
use Rattle.be_volume.specs.declared.ops.Done.{Done}
use Rattle.be_volume.specs.declared.ops.Op.{Op}
use Rattle.be_store.specs.History.{Accepts, IsHeldThrough, Learns, LocksOnly, IsReason, IsLastReason, is_busy, was_busy, tried}
use Rattle.be_store.specs.Passes.{volume_seen}
use Rattle.be_store.proofs.Refusals.{steps_refuse}

-- A refusal that isn't Busy.
pub no_busy : (e : Refusal) → ((b : ℕ) → e ≡ Busy b → ⊥) → is_busy e ≡ false
no_busy (Busy b) other = absurd (other b refl)
no_busy e other = refl

-- The pass that the refusal names.
busy_with : (e : Refusal) → is_busy e ≡ true → (b : ℕ) × (e ≡ Busy b)
busy_with (Busy b) h = (b, refl)
busy_with e h = absurd (false≢true h)

-- Busy comes only from the lock.
busy_by_lock : (a c : Knowledge) (ops : List Op) (b : ℕ) → IsReason a c ops (Busy b) → FoundHeld (Busy b) a c
busy_by_lock a c ops b (inl h) = h.0
busy_by_lock a c ops b (inr (inl h, locks)) = absurd (let few = (steps_refuse (volume_seen c) ops (Busy b) h).0 in omega (arith, few))
busy_by_lock a c ops b (inr (inr (inl h), locks)) = absurd (unroomed h.1)
  where
    unroomed : HasNoRoom (Busy b) c → ⊥
    unroomed (inl none) = absurd (let e = none.0 in cc)
    unroomed (inr none) = absurd (let e = none.0 in cc)
busy_by_lock a c ops b (inr (inr (inr h), locks)) = absurd (let e = h.2.1 in cc)

-- Before the first attempt.
pub untried : (a : Knowledge) → a ≡ tried a []
untried a = let same : a.steps ≡ a.steps + 0 = omega arith in ap (λ (n : ℕ). record a { steps = n }) same

-- The state after a number of failed attempts, the last of which led from m to c.
module _ (a : Knowledge) (writers : List ℕ) (m c : Knowledge) (is : m ≡ tried a writers) where
  -- One more attempt.
  tried_again : (b : ℕ) → c ≡ finds_held m b → c ≡ tried a (b ∷ writers)
  tried_again b next =
      let steps : a.steps + length writers + 1 ≡ a.steps + length (b ∷ writers) = omega arith in
      next ∙ (ap (λ (k : Knowledge). finds_held k b) is ∙ ap (λ (n : ℕ). record a { writers = (b ∷ writers) ++ a.writers; steps = n }) steps)

  pub accepts_at_last : (ops : List Op) (n : ℕ) (dones : List Done) → Accepts m c ops n dones → Accepts a c ops n dones
  accepts_at_last ops n dones h = by (subst (λ (k : Knowledge). Accepts k c ops n dones) is h)
    where
      by : Accepts (tried a writers) c ops n dones → Accepts a c ops n dones
      by h = record {
        others = h.others;
        commit = h.commit;
        seen = h.seen;
        entry = h.entry;
        apart = h.apart;
        answered = h.answered;
        number = h.number;
        mine = h.mine;
        pass = h.pass;
        limits = h.limits;
        pin = h.pin;
        moves = record { locked = h.moves.locked; lock = h.moves.lock; worked = h.moves.worked; work = h.moves.work; given = h.moves.given; publish = h.moves.publish; at = h.moves.at };
      }

  pub locks_at_last : LocksOnly m c → LocksOnly a c
  locks_at_last h = by (subst (λ (k : Knowledge). LocksOnly k c) is h)
    where
      by : LocksOnly (tried a writers) c → LocksOnly a c
      by l = record { locked = l.locked; lock = l.lock; worked = l.worked; work = l.work; unlock = l.unlock }

  pub learns_at_last : Learns m c → Learns a c
  learns_at_last h = by (subst (λ (k : Knowledge). Learns k c) is h)
    where
      by : Learns (tried a writers) c → Learns a c
      by h = record { more = h.more; mine = h.mine; pass = h.pass; limits = h.limits; pin = h.pin; moves = moved h.moves }
        where
          moved : (c.history ≡ a.history) ⊎ LocksOnly (tried a writers) c → (c.history ≡ a.history) ⊎ LocksOnly a c
          moved (inl none) = inl none
          moved (inr l) = inr (record { locked = l.locked; lock = l.lock; worked = l.worked; work = l.work; unlock = l.unlock })

  -- The last attempt also found that another pass held the lock.
  pub held_at_last : (e : Refusal) → FoundHeld e m c → IsHeldThrough (length writers + 1) a c e
  held_at_last e late =
      (late.0, writers, late.1, subst (λ (k : Knowledge). late.0 < k.limits.passes) is late.2, subst (λ (k : Knowledge). late.0 ≢ k.number) is late.3, refl, tried_again late.0 late.4)

  -- The reason of the last attempt.
  reason_at_last : (ops : List Op) (e : Refusal) → IsReason m c ops e → IsLastReason (length writers + 1) a c ops e
  reason_at_last ops e (inl h) = inl (held_at_last e h.0)
  reason_at_last ops e (inr h) = inr (h.0, locks_at_last h.1)

  -- The reason of an attempt that wasn't the last.
  reason_else : (tries : ℕ) (ops : List Op) (e : Refusal) → is_busy e ≡ false → IsReason m c ops e → IsLastReason tries a c ops e
  reason_else tries ops e free (inl h) = absurd (false≢true (sym free ∙ ap is_busy h.0.1))
  reason_else tries ops e free (inr h) = inr (h.0, locks_at_last h.1)

  -- An attempt that is refused with Busy found that another pass held the lock.
  pub held_by : (ops : List Op) (e : Refusal) → is_busy e ≡ true → IsReason m c ops e → (b : ℕ) × (c ≡ tried a (b ∷ writers))
  held_by ops e held h =
      let busy = busy_with e held in
      let late = busy_by_lock m c ops busy.0 (subst (λ (x : Refusal). IsReason m c ops x) busy.1 h) in
      (late.0, tried_again late.0 late.4)

  -- The attempt found that another pass held the lock.
  pub held_again : {X : Type 0} (ops : List Op) (r : Result X Refusal) → was_busy r ≡ true → IfErr r (λ e. Learns m c × IsReason m c ops e) → (b : ℕ) × (c ≡ tried a (b ∷ writers))
  held_again ops (Ok x) held h = absurd (false≢true held)
  held_again ops (Err e) held h = held_by ops e held h.1

  pub accepted_at_last : {X : Type 0} (outcomes_of : X → List Done) (ops : List Op) (r : Result (ℕ × X) Refusal) → IfOk r (λ x. Accepts m c ops x.0 (outcomes_of x.1)) →
      IfOk r (λ x. Accepts a c ops x.0 (outcomes_of x.1))
  accepted_at_last outcomes_of ops (Ok x) h = accepts_at_last ops x.0 (outcomes_of x.1) h
  accepted_at_last outcomes_of ops (Err e) h = tt

  pub refused_at_last : {X : Type 0} (tries : ℕ) (ops : List Op) (r : Result X Refusal) → length writers + 1 ≡ tries → IfErr r (λ e. Learns m c × IsReason m c ops e) →
      IfErr r (λ e. Learns a c × IsLastReason tries a c ops e)
  refused_at_last tries ops (Ok x) count h = tt
  refused_at_last tries ops (Err e) count h = (learns_at_last h.0, subst (λ n. IsLastReason n a c ops e) count (reason_at_last ops e h.1))

  pub refused_else : {X : Type 0} (tries : ℕ) (ops : List Op) (r : Result X Refusal) → was_busy r ≡ false → IfErr r (λ e. Learns m c × IsReason m c ops e) →
      IfErr r (λ e. Learns a c × IsLastReason tries a c ops e)
  refused_else tries ops (Ok x) free h = tt
  refused_else tries ops (Err e) free h = (learns_at_last h.0, reason_else tries ops e free h.1)
