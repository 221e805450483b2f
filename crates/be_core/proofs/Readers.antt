-- A reader's events preserve the invariant.
use Rattle.std.proofs.Common.{◌≡◌, ℕ, ◌<◌, ◌≤◌, Some, IsTrue, IsFalse, arith, refl, ◌∙◌, inl, inr, subst, le_refl}
use Rattle.std.proofs.lemmas.Bool.Decides.{eqb_tells}
use Rattle.be_core.specs.declared.event.Phase.{Phase}
use Rattle.be_core.specs.declared.event.Phase.TheVariants.{Idle, Looked, Announced, Pinned}
use Rattle.be_core.specs.Machine.{World, Writer, update, to, Sound, InTime, KeepsPinned, phase_after_look, after_look, after_announce, after_look_again, after_unpin, MayLook, MayAnnounce, MayLookAgain, MayUnpin}
use Rattle.be_core.proofs.Places.{current-keeps}

-- a fact about each phase after one phase has changed
each_phase : (P : ℕ → Phase → Type 0) (f : ℕ → Phase) (k0 : ℕ) (phase : Phase) → P k0 phase → ((k : ℕ) → P k (f k)) → (k : ℕ) → P k (update f k0 phase k)
each_phase P f k0 phase new old k = elim (eqb_tells k k0) [
  | inl y ↦ rw (y.0, y.1) new
  | inr n ↦ rw n.0 (old k)
]

module _ (w : World) (s : Sound w) (k0 : ℕ) (phase : Phase) where
  pub to-sound : k0 < w.passes → InTime w.current phase
      → ((a n p : ℕ) → phase ≡ Pinned a n → IsTrue (w.reach n p) → KeepsPinned w n p)
      → ((h : Writer) → w.writer ≡ Some h → IsFalse h.published → (a n : ℕ) → k0 < h.scanned → phase ≡ Pinned a n → n < w.current → h.least ≤ a)
      → Sound (to w k0 phase)
  to-sound inside in_time pinned counted = record {
    partition = s.partition;
    in_time = each_phase (λ k ph. InTime w.current ph) w.phases k0 phase in_time s.in_time;
    outside = each_phase (λ k ph. w.passes ≤ k → ph ≡ Idle) w.phases k0 phase (λ h. absurd (omega arith)) s.outside;
    pinned = λ k. each_phase (λ k ph. (a n p : ℕ) → ph ≡ Pinned a n → IsTrue (w.reach n p) → KeepsPinned w n p) w.phases k0 phase pinned s.pinned k;
    now = s.now;
    was_reached = s.was_reached;
    counted = λ h is open_ k a n below. each_phase (λ k ph. k < h.scanned → (a n : ℕ) → ph ≡ Pinned a n → n < w.current → h.least ≤ a) w.phases k0 phase
        (λ b a n e l. counted h is open_ a n b e l) (λ k b a n e l. s.counted h is open_ k a n b e l) k below a n;
    lowest_in_time = s.lowest_in_time;
    unheld = s.unheld;
    inside = s.inside;
    writer_inside = s.writer_inside;
  }

module _ (w : World) (s : Sound w) (k : ℕ) where
  -- a change to a phase that pins nothing preserves the invariant
  plain : (phase : Phase) → k < w.passes → InTime w.current phase → ((a n : ℕ) → phase ≡ Pinned a n → ⊥) → Sound (to w k phase)
  plain phase inside in_time unpinned = to-sound w s k phase inside in_time (λ a n p e r. absurd (unpinned a n e)) (λ h i o a n b e l. absurd (unpinned a n e))

  pub after_unpin-sound : MayUnpin w k → Sound (after_unpin w k)
  after_unpin-sound may = plain Idle may.0 tt (λ a n e. cc)

  pub after_announce-sound : MayAnnounce w k → Sound (after_announce w k)
  after_announce-sound may = rw may.1.1 (plain (Announced may.1.0) may.0 (rw may.1.1 at (s.in_time k)) (λ a n e. cc))

  pub after_look_again-sound : MayLookAgain w k → Sound (after_look_again w k)
  after_look_again-sound may = rw may.1.1 (to-sound w s k (Pinned may.1.0 w.current) may.0 (rw may.1.1 at (s.in_time k), le_refl w.current)
      (λ a n p e r. let m : w.current ≡ n = cc in subst (λ (v : ℕ). IsTrue (w.reach v p) → KeepsPinned w v p) m (current-keeps w s p) r)
      (λ h is open_ a n b e l. let m : w.current ≡ n = cc in absurd (omega arith)))

  pub after_look-sound : MayLook w k → Sound (after_look w k)
  after_look-sound may = looked (w.phases k) refl
    where
      looked : (phase : Phase) → w.phases k ≡ phase → Sound (to w k (phase_after_look phase w.current))
      looked Idle e = plain (Looked w.current) may (le_refl w.current) (λ a n e. cc)
      looked (Looked a) e = plain (Looked w.current) may (le_refl w.current) (λ a n e. cc)
      looked (Announced a) e = plain (Announced a) may (rw e at (s.in_time k)) (λ a n e. cc)
      looked (Pinned a n) e = to-sound w s k (Pinned a n) may (rw e at (s.in_time k)) (λ b m p e' r. s.pinned k b m p (e ∙ e') r) (λ h i o b m be e' l. s.counted h i o k b m be (e ∙ e') l)
