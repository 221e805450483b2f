-- The writer's events other than scans preserve the invariant.
use Rattle.std.proofs.Common.{◌≡◌, ℕ, suc, ◌<◌, ◌≤◌, false, not, ◌&&◌, ◌||◌, ◌==◌, List, Some, None, IsTrue, IsFalse, arith, refl, sym, ◌∙◌, inl, inr, le_refl}
use Rattle.std.proofs.lemmas.Bool.Decides.{eqb_tells}
use Rattle.be_core.specs.declared.event.Phase.{Phase}
use Rattle.be_core.specs.declared.event.Phase.TheVariants.{Idle, Looked, Announced, Pinned}
use Rattle.be_core.specs.Machine.{World, Writer, update, Sound, InTime, MayLock, after_lock, after_fill, MayPublish, after_publish, has, MayUnlock, after_unlock, after_return}
use Rattle.be_core.proofs.Places.{taken_now, returned_now, freed_now, published_now, neither, or_left, or_false, update-same, test-other, current-alone, only, after_giving, at_member, taken_inside, next_is}

module _ (w : World) (s : Sound w) where
  pub after_lock-sound : (k : ℕ) → MayLock w k → Sound (after_lock w k)
  after_lock-sound k may = record {
    partition = λ p. rw (s.unheld may.1 p) at (s.partition p);
    in_time = s.in_time;
    outside = s.outside;
    pinned = λ k a n p e r. let x = s.pinned k a n p e r in (x.0, refl, x.2, x.3);
    now = s.now;
    was_reached = s.was_reached;
    counted = λ h is open_. only _ h (λ h. (k a n : ℕ) → k < h.scanned → w.phases k ≡ Pinned a n → n < w.current → h.least ≤ a) is (λ k a n below e l. absurd (omega arith));
    lowest_in_time = λ h is. only _ h (λ h. h.least ≤ w.current) is (le_refl w.current);
    unheld = λ e p. refl;
    inside = s.inside;
    writer_inside = λ h is. only _ h (λ h. h.pass < w.passes) is may.0;
  }

  pub after_unlock-sound : (k : ℕ) → MayUnlock w k → Sound (after_unlock w)
  after_unlock-sound k may = record {
    partition = λ p. freed_now _ _ _ _ _ (s.partition p);
    in_time = s.in_time;
    outside = s.outside;
    pinned = λ k a n p e r. let x = s.pinned k a n p e r in (or_false _ _ x.0 x.1, refl, x.2, x.3);
    now = s.now;
    was_reached = s.was_reached;
    counted = λ h is. absurd (cc);
    lowest_in_time = λ h is. absurd (cc);
    unheld = λ e p. refl;
    inside = s.inside;
    writer_inside = λ h is. absurd (cc);
  }

  module _ (p : ℕ) (in_hand : IsTrue (w.taken p || w.free p)) where
    -- a page that is neither free nor taken is a different page
    elsewhere : (q : ℕ) → IsFalse (w.free q) → IsFalse (w.taken q) → (q == p) ≡ false
    elsewhere q u v = test-other q p (λ e. neither (w.free q) (w.taken q) (rw (← e) at in_hand) u v)

    pub after_fill-sound : (i word : ℕ) → ((h : Writer) × (w.writer ≡ Some h)) → Sound (after_fill w p i word)
    after_fill-sound i word held = record {
      partition = λ q. elim (eqb_tells q p) [
        | inl y ↦ rw (y.0) (taken_now _ _ _ _ _ (rw (← y.1) at in_hand) (s.partition q))
        | inr n ↦ rw (n.0) (s.partition q)
      ];
      in_time = s.in_time;
      outside = s.outside;
      pinned = λ k a n q e r. let x = s.pinned k a n q e r in rw (elsewhere q x.0 x.1) x;
      now = λ q j r. let x = current-alone w s q r in rw (elsewhere q x.0 x.1) (s.now q j r);
      was_reached = s.was_reached;
      counted = s.counted;
      lowest_in_time = s.lowest_in_time;
      unheld = λ e q. absurd (let f : Some held.0 ≡ None = sym held.1 ∙ e in cc);
      inside = s.inside;
      writer_inside = s.writer_inside;
    }

  pub after_return-sound : (p : ℕ) → IsTrue (w.taken p) → Sound (after_return w p)
  after_return-sound p t = record {
    partition = λ q. elim (eqb_tells q p) [
      | inl y ↦ rw (y.0) (returned_now _ _ _ _ _ (rw (← y.1) at t) (s.partition q))
      | inr n ↦ rw (n.0) (s.partition q)
    ];
    in_time = s.in_time;
    outside = s.outside;
    pinned = λ k a n q e r. let x = s.pinned k a n q e r in rw (elsewhere p (or_left _ _ t) q x.0 x.1) x;
    now = s.now;
    was_reached = s.was_reached;
    counted = s.counted;
    lowest_in_time = s.lowest_in_time;
    unheld = λ e q. absurd (let f : IsFalse (w.taken p) = s.unheld e p in cc);
    inside = s.inside;
    writer_inside = s.writer_inside;
  }

  -- a phase that has no number above c has none above c + 1
  later : (c : ℕ) (phase : Phase) → InTime c phase → InTime (suc c) phase
  later c Idle h = tt
  later c (Looked a) h = omega arith
  later c (Announced a) h = omega arith
  later c (Pinned a n) h = (h.0, omega arith)

  pub after_publish-sound : (k v : ℕ) (given : List ℕ) → MayPublish w k v given → Sound (after_publish w given)
  after_publish-sound k v given may = record {
    partition = λ q. rw (update-same w.reach (suc w.current)) (published_now _ _ _ _ _ (w.retired q) w.current (at_member (λ x. IsTrue (w.reach w.current x)) given q may.5) (s.partition q));
    in_time = λ k. later w.current (w.phases k) (s.in_time k);
    outside = s.outside;
    pinned = λ k a n p e r.
        let before : (a ≤ n) × (n ≤ w.current) = rw e at (s.in_time k) in
        let m = test-other n (suc w.current) (λ i. absurd (omega arith)) in
        let x = s.pinned k a n p e (rw m at r) in
        rw m (x.0, refl, (λ r e. after_giving (λ r. n ≤ r) (has given p) w.current r (w.retired p) e (λ g. before.1) (x.2 r)), x.3);
    now = λ p i r. rw (update-same w.image (suc w.current)) refl;
    was_reached = λ p r e. after_giving (λ r. (r < suc w.current) × IsTrue (update w.reach (suc w.current) (λ p. (w.reach w.current p && not (has given p)) || w.taken p) r p)) (has given p) w.current r (w.retired p) e
        (λ g. (omega arith, rw (test-other w.current (suc w.current) (λ i. absurd (omega arith))) (at_member (λ x. IsTrue (w.reach w.current x)) given p may.5 g)))
        (λ o. let x = s.was_reached p r o in (omega arith, rw (test-other r (suc w.current) (λ i. absurd (omega arith))) x.1));
    counted = λ h is open_. let yes : IsTrue h.published = only _ h (λ h. IsTrue h.published) (rw may.2.1.0 at is) refl in absurd (cc);
    lowest_in_time = λ h is. only _ h (λ h. h.least ≤ suc w.current) (rw may.2.1.0 at is) (let x = s.lowest_in_time may.2.0 may.2.1.0 in omega arith);
    unheld = λ e p. refl;
    inside = λ n p r. elim (eqb_tells n (suc w.current)) [
      | inl y ↦ next_is (w.reach w.current p) (has given p) (w.taken p) (p < w.pages) (rw y.0 at r) (s.inside w.current p) (λ t. taken_inside _ _ _ _ p w.pages t (s.partition p))
      | inr m ↦ s.inside n p (rw m.0 at r)
    ];
    writer_inside = λ h is. only _ h (λ h. h.pass < w.passes) (rw may.2.1.0 at is) (s.writer_inside may.2.0 may.2.1.0);
  }
