-- A scan preserves the invariant, and a whole scan leaves no unreached page retired.
use Rattle.std.proofs.Common.{◌≡◌, ℕ, suc, ◌<◌, ◌≤◌, Bool, true, false, ◌||◌, ◌==◌, Option, Some, None, is_some, IsTrue, IsFalse, arith, refl, inl, inr, le_refl, if◌then◌else◌, eq-eqb}
use Rattle.std.proofs.lemmas.Bool.Decides.{eqb_tells, leb_tells}
use Rattle.be_core.specs.declared.event.Phase.{Phase}
use Rattle.be_core.specs.declared.event.Phase.TheVariants.{Idle, Looked, Announced, Pinned}
use Rattle.be_core.specs.declared.event.Event.TheVariants.{Scan}
use Rattle.be_core.specs.Laws.{LeavesNone}
use Rattle.be_core.specs.Machine.{World, Writer, HasOpenWrite, Sound, MayScan, after_scan, scanned_by, lowest_after, lowest_with, is_below, swept, Unreached}
use Rattle.be_core.proofs.Places.{swept_now, or_false, current-alone, only, test-other, left_over, lt-test}

-- the minimum after one more phase is at most the minimum before it, and at most what a pinned pass
-- announced
lowest-falls : (l : ℕ) (phase : Phase) → lowest_with l phase ≤ l
lowest-falls l Idle = omega arith
lowest-falls l (Looked a) = omega arith
lowest-falls l (Announced a) = omega arith
lowest-falls l (Pinned a n) = omega arith

-- a retired page whose number isn't below l
not_below : (o : Option ℕ) (l : ℕ) → ((r : ℕ) → o ≡ Some r → l ≤ r) → IsFalse (is_below l o)
not_below None l h = refl
not_below (Some r) l h = let above : l ≤ r = h r refl in elim (leb_tells (suc r) l) [ inl y ↦ absurd (omega arith) | inr n ↦ n.0 ]

never : (o : Option ℕ) (l : ℕ) → IsFalse (is_some o) → IsFalse (is_below l o)
never None l h = refl
never (Some r) l h = absurd (cc)

-- a page that is still retired was retired before
still : (b : Bool) (o : Option ℕ) (r : ℕ) → (if b then None else o) ≡ Some r → o ≡ Some r
still true o r e = absurd (cc)
still false o r e = e

-- a page that remains retired after a sweep has a number of at least l
pub left_late : (o : Option ℕ) (l r : ℕ) → (if is_below l o then None else o) ≡ Some r → l ≤ r
left_late None l r e = absurd (cc)
left_late (Some q) l r e = elim (leb_tells (suc q) l) [
  | inl y ↦ absurd (let f : None ≡ Some r = (rw y.0 at e) in cc)
  | inr n ↦ let f : Some q ≡ Some r = (rw n.0 at e) in let same : q ≡ r = cc in omega (arith, n.1)
]

module _ (w : World) (s : Sound w) (h : Writer) (k j : ℕ) (writes : HasOpenWrite w k h) (at_j : j ≡ h.scanned) where
  start-in_time : (if j == 0 then w.current else h.least) ≤ w.current
  start-in_time = elim (eqb_tells j 0) [ inl y ↦ rw y.0 (le_refl w.current) | inr n ↦ rw n.0 (s.lowest_in_time h writes.0) ]

  lowest-in_time : lowest_after w h j ≤ w.current
  lowest-in_time = let a = lowest-falls (if j == 0 then w.current else h.least) (w.phases j) in let b = start-in_time in omega arith

  -- after the j-th slot has been read, the minimum is at most what a pass up to j announced, if
  -- that pass is pinned to an old version
  lowest-counts : (i a n : ℕ) → i < suc j → w.phases i ≡ Pinned a n → n < w.current → lowest_after w h j ≤ a
  lowest-counts i a n b e l = elim (eqb_tells i j) [
    | inl y ↦ rw (rw y.1 at e) (omega arith)
    | inr m ↦ let before : h.least ≤ a = s.counted h writes.0 writes.2 i a n (omega (arith, m.1)) e l in
        let falls = lowest-falls (if j == 0 then w.current else h.least) (w.phases j) in
        let later : (j == 0) ≡ false = test-other j 0 (λ z. let apart : ¬ (i ≡ j) = m.1 in omega arith) in
        let falls' = rw later at falls in
        rw later (omega arith)
  ]

  pub part-sound : Sound record w { writer = Some record h { scanned = suc j; least = lowest_after w h j } }
  part-sound = record {
    partition = s.partition;
    in_time = s.in_time;
    outside = s.outside;
    pinned = s.pinned;
    now = s.now;
    was_reached = s.was_reached;
    counted = λ g is open_. only _ g (λ g. (k a n : ℕ) → k < g.scanned → w.phases k ≡ Pinned a n → n < w.current → g.least ≤ a) is lowest-counts;
    lowest_in_time = λ g is. only _ g (λ g. g.least ≤ w.current) is lowest-in_time;
    unheld = λ e. absurd (cc);
    inside = s.inside;
    writer_inside = λ g is. only _ g (λ g. g.pass < w.passes) is (s.writer_inside h writes.0);
  }

  pinned-inside : (i a n : ℕ) → w.phases i ≡ Pinned a n → i < w.passes
  pinned-inside i a n e = elim (leb_tells (suc i) w.passes) [ inl y ↦ y.1 | inr m ↦ absurd (let idle : w.phases i ≡ Idle = s.outside i (omega (arith, m.1)) in cc) ]

  module _ (last : suc j ≡ w.passes) where
    -- no sweep frees a page of a pinned version
    unswept : (i a n p : ℕ) → w.phases i ≡ Pinned a n → IsTrue (w.reach n p) → IsFalse (is_below (lowest_after w h j) (w.retired p))
    unswept i a n p e r = elim (leb_tells (suc n) w.current) [
      | inl y ↦ not_below (w.retired p) (lowest_after w h j) (λ q f.
          let late = (s.pinned i a n p e r).2 q f in
          let t : (a ≤ n) × (n ≤ w.current) = rw e at (s.in_time i) in
          let c = lowest-counts i a n (rw last (pinned-inside i a n e)) e y.1 in
          omega arith)
      | inr m ↦ let t : (a ≤ n) × (n ≤ w.current) = rw e at (s.in_time i) in
          let same : n ≡ w.current = omega (arith, m.1) in
          never (w.retired p) (lowest_after w h j) (current-alone w s p (rw same at r)).2
    ]

    pub whole-sound : Sound (swept (record w { writer = Some record h { scanned = 0; least = lowest_after w h j } }) (lowest_after w h j))
    whole-sound = record {
      partition = λ p. swept_now _ _ _ _ (w.retired p) (lowest_after w h j) (s.partition p);
      in_time = s.in_time;
      outside = s.outside;
      pinned = λ i a n p e r. let x = s.pinned i a n p e r in let u = unswept i a n p e r in (or_false _ _ x.0 u, x.1, (λ q f. x.2 q (still _ _ q f)), x.3);
      now = s.now;
      was_reached = λ p r e. s.was_reached p r (still _ _ r e);
      counted = λ g is open_. only _ g (λ g. (k a n : ℕ) → k < g.scanned → w.phases k ≡ Pinned a n → n < w.current → g.least ≤ a) is (λ k a n b e l. absurd (omega arith));
      lowest_in_time = λ g is. only _ g (λ g. g.least ≤ w.current) is lowest-in_time;
      unheld = λ e. absurd (cc);
      inside = s.inside;
      writer_inside = λ g is. only _ g (λ g. g.pass < w.passes) is (s.writer_inside h writes.0);
    }

    -- a page that isn't reached by any version from the minimum on is free or taken
    pub all_swept : (p : ℕ) → p < w.pages → Unreached w (lowest_after w h j) w.current p → IsTrue ((w.free p || is_below (lowest_after w h j) (w.retired p)) || w.taken p)
    all_swept p inside un = left_over _ _ _ _ (w.retired p) (lowest_after w h j) (s.partition p) (lt-test p w.pages inside) (un w.current lowest-in_time (le_refl w.current))
        (λ r e. elim (leb_tells (suc r) (lowest_after w h j)) [
          | inl y ↦ y.1
          | inr m ↦ absurd (
              let x = s.was_reached p r e in
              let unseen : IsFalse (w.reach r p) = un r (omega (arith, m.1)) (omega (arith, x.0)) in
              let seen : IsTrue (w.reach r p) = x.1 in
              cc)
        ])

    pub whole-leaves_none : LeavesNone w (Scan k j) (scanned_by w (Some h) j)
    whole-leaves_none = rw (eq-eqb _ _ last) (λ _ g is p inside un.
        all_swept p inside (only _ g (λ g. Unreached w g.least w.current p → Unreached w (lowest_after w h j) w.current p) is (λ u. u) un))

  pub scan-sound : Sound (scanned_by w (Some h) j)
  scan-sound = elim (eqb_tells (suc j) w.passes) [ inl y ↦ rw y.0 (whole-sound y.1) | inr n ↦ rw n.0 part-sound ]

pub after_scan-sound : (w : World) → Sound w → (k j : ℕ) → MayScan w k j → Sound (after_scan w j)
after_scan-sound w s k j may = rw may.1.1.0 (scan-sound w s may.1.0 k j may.1.1 may.1.2)
