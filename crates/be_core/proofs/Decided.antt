-- Whether an event is allowed is decidable, so each schedule has a run.
use Rattle.std.proofs.Common.{◌≡◌, ◌≢◌, ℕ, zero, suc, ◌<◌, Bool, true, false, ◌||◌, List, [], ◌∷◌, All, AllPairs, Option, Some, None, IsTrue, IsFalse, arith, refl, inl, inr, ◌⊎◌, not, ◌==◌, eq-eqb}
use Rattle.std.proofs.lemmas.Bool.Decides.{eqb_tells, leb_tells}
use Rattle.be_core.specs.declared.event.Event.{Event}
use Rattle.be_core.specs.declared.event.Event.TheVariants.{Look, Announce, LookAgain, Read, Unpin, Lock, Scan, Fill, Publish, Unlock}
use Rattle.be_core.specs.declared.event.Phase.{Phase}
use Rattle.be_core.specs.declared.event.Phase.TheVariants.{Idle, Looked, Announced, Pinned}
use Rattle.be_core.specs.Machine.{World, Writer, HasOpenWrite, Allowed, after_event}
use Rattle.be_core.specs.Laws.{EachScheduleRuns}

abbrev Decided : Type 0 → Type 0
Decided A = A ⊎ (¬ A)

both : {A B : Type 0} → Decided A → Decided B → Decided (A × B)
both (inl a) (inl b) = inl (a, b)
both (inr n) d = inr (λ x. n x.0)
both (inl a) (inr n) = inr (λ x. n x.1)

like : {A B : Type 0} → (A → B) → (B → A) → Decided A → Decided B
like f g (inl a) = inl (f a)
like f g (inr n) = inr (λ b. n (g b))

below : (a b : ℕ) → Decided (a < b)
below a b = elim (leb_tells (suc a) b) [ inl y ↦ inl y.1 | inr n ↦ inr (λ h. omega (arith, n.1)) ]

equal : (a b : ℕ) → Decided (a ≡ b)
equal a b = elim (eqb_tells a b) [ inl y ↦ inl y.1 | inr n ↦ inr n.1 ]

is_true : (b : Bool) → Decided (IsTrue b)
is_true true = inl refl
is_true false = inr (λ h. cc)

is_false : (b : Bool) → Decided (IsFalse b)
is_false true = inr (λ h. cc)
is_false false = inl refl

no_writer : (o : Option Writer) → Decided (o ≡ None)
no_writer None = inl refl
no_writer (Some h) = inr (λ e. cc)

is_looked : (ph : Phase) → Decided ((a : ℕ) × (ph ≡ Looked a))
is_looked Idle = inr (λ x. let e = x.1 in cc)
is_looked (Looked a) = inl (a, refl)
is_looked (Announced a) = inr (λ x. let e = x.1 in cc)
is_looked (Pinned a n) = inr (λ x. let e = x.1 in cc)

is_announced : (ph : Phase) → Decided ((a : ℕ) × (ph ≡ Announced a))
is_announced Idle = inr (λ x. let e = x.1 in cc)
is_announced (Looked a) = inr (λ x. let e = x.1 in cc)
is_announced (Announced a) = inl (a, refl)
is_announced (Pinned a n) = inr (λ x. let e = x.1 in cc)

-- the phase is pinned to a version that passes the test
is_pinned : (test : ℕ → Bool) (ph : Phase) → Decided ((a : ℕ) × (n : ℕ) × (ph ≡ Pinned a n) × IsTrue (test n))
is_pinned test Idle = inr (λ x. let e = x.2 in cc)
is_pinned test (Looked a) = inr (λ x. let e = x.2 in cc)
is_pinned test (Announced a) = inr (λ x. let e = x.2 in cc)
is_pinned test (Pinned a n) = by_test (test n) refl
  where
    by_test : (b : Bool) → test n ≡ b → Decided ((c : ℕ) × (m : ℕ) × (Pinned a n ≡ Pinned c m) × IsTrue (test m))
    by_test true t = inl (a, n, refl, t)
    by_test false t = inr (λ x. let same : n ≡ x.1 = (let e = x.2 in cc) in let yes : IsTrue (test n) = rw same x.3 in cc)

-- the lock is held, and P holds for the writer
held_by : (o : Option Writer) (P : Writer → Type 0) → ((h : Writer) → Decided (P h)) → Decided ((h : Writer) × (o ≡ Some h) × P h)
held_by None P d = inr (λ x. let e = x.1 in cc)
held_by (Some h) P d = like (λ p. (h, refl, p)) (λ x. let same : x.0 ≡ h = (let e = x.1 in cc) in rw (← same) x.2) (d h)

-- every number passes the test
each_passes : (test : ℕ → Bool) (xs : List ℕ) → Decided (All (λ p. IsTrue (test p)) xs)
each_passes test [] = inl (λ k d b. absurd (omega arith))
each_passes test (x ∷ xs) = like {A = IsTrue (test x) × All (λ p. IsTrue (test p)) xs} to_all from_all (both (is_true (test x)) (each_passes test xs))
  where
    to_all : IsTrue (test x) × All (λ p. IsTrue (test p)) xs → All (λ p. IsTrue (test p)) (x ∷ xs)
    to_all h zero d b = h.0
    to_all h (suc k) d b = h.1 k d (omega arith)

    from_all : All (λ p. IsTrue (test p)) (x ∷ xs) → IsTrue (test x) × All (λ p. IsTrue (test p)) xs
    from_all h = (h 0 0 (omega arith), λ k d b. h (suc k) d (omega arith))

abbrev differs : ℕ → ℕ → Bool
differs x p = not (x == p)

apart : (x p : ℕ) → IsTrue (differs x p) → x ≢ p
apart x p h e = let f : not true ≡ true = (rw (eq-eqb x p e) at h) in absurd (cc)

differ : (x p : ℕ) → x ≢ p → IsTrue (differs x p)
differ x p n = elim (eqb_tells x p) [ inl y ↦ absurd (n y.1) | inr m ↦ rw m.0 refl ]

-- no two numbers are equal
all_distinct : (xs : List ℕ) → Decided (AllPairs ◌≢◌ xs)
all_distinct [] = inl (λ i j d a b. absurd (omega arith))
all_distinct (x ∷ xs) = like {A = All (λ p. IsTrue (differs x p)) xs × AllPairs ◌≢◌ xs} to_pairs from_pairs (both (each_passes (differs x) xs) (all_distinct xs))
  where
    to_pairs : All (λ p. IsTrue (differs x p)) xs × AllPairs ◌≢◌ xs → AllPairs ◌≢◌ (x ∷ xs)
    to_pairs h zero zero d a b = absurd (omega arith)
    to_pairs h zero (suc j) d a b = apart x _ (h.0 j d (omega arith))
    to_pairs h (suc i) zero d a b = absurd (omega arith)
    to_pairs h (suc i) (suc j) d a b = h.1 i j d (omega arith) (omega arith)

    from_pairs : AllPairs ◌≢◌ (x ∷ xs) → All (λ p. IsTrue (differs x p)) xs × AllPairs ◌≢◌ xs
    from_pairs h = ((λ k d b. differ x _ (h 0 (suc k) d (omega arith) (omega arith))), (λ i j d a b. h (suc i) (suc j) d (omega arith) (omega arith)))

module _ (w : World) where
  writes : (k : ℕ) → Decided ((h : Writer) × HasOpenWrite w k h)
  writes k = like (λ x. (x.0, (x.1, x.2.0, x.2.1))) (λ x. (x.0, x.1.0, (x.1.1, x.1.2))) (held_by w.writer (λ h. (h.pass ≡ k) × IsFalse h.published) (λ h. both (equal h.pass k) (is_false h.published)))

  decided : (e : Event) → Decided (Allowed w e)
  decided (Look k) = below k w.passes
  decided (Announce k) = both (below k w.passes) (is_looked (w.phases k))
  decided (LookAgain k) = both (below k w.passes) (is_announced (w.phases k))
  decided (Read k p i) = like (λ x. (x.0, x.1.0, x.1.1.0, x.1.1.1)) (λ x. (x.0, (x.1, (x.2, x.3)))) (both (below k w.passes) (both (below p w.pages) (both (below i 512) (is_pinned (λ n. w.reach n p) (w.phases k)))))
  decided (Unpin k) = like (λ x. (x.0, (x.1.0, x.1.1, x.1.2))) (λ x. (x.0, (x.1.0, x.1.1, x.1.2, refl))) (both (below k w.passes) (is_pinned (λ n. true) (w.phases k)))
  decided (Lock k) = both (below k w.passes) (no_writer w.writer)
  decided (Scan k j) = both (below j w.passes) (like (λ x. (x.0, (x.1, x.2.0, x.2.1), x.2.2)) (λ x. (x.0, x.1.0, (x.1.1, x.1.2, x.2)))
      (held_by w.writer (λ h. (h.pass ≡ k) × IsFalse h.published × (j ≡ h.scanned)) (λ h. like (λ x. (x.0, x.1.0, x.1.1)) (λ x. (x.0, (x.1, x.2))) (both (equal h.pass k) (both (is_false h.published) (equal j h.scanned))))))
  decided (Fill k p i word) = like (λ x. (x.0, x.1.0, x.1.1.0, x.1.1.1)) (λ x. (x.0, (x.1, (x.2, x.3)))) (both (below p w.pages) (both (below i 512) (both (writes k) (is_true (w.taken p || w.free p)))))
  decided (Publish k v given) = like (λ x. (x.0, x.1.0, x.1.1.0, x.1.1.1.0, x.1.1.1.1.0, x.1.1.1.1.1)) (λ x. (x.0, (x.1, (x.2, (x.3, (x.4, x.5))))))
      (both (below w.current w.commits) (both (below v w.pages) (both (writes k) (both (is_true (w.taken v)) (both (all_distinct given.items) (each_passes (w.reach w.current) given.items))))))
  decided (Unlock k) = held_by w.writer (λ h. h.pass ≡ k) (λ h. equal h.pass k)

pub each_schedule_runs : EachScheduleRuns
each_schedule_runs w [] = (w, refl)
each_schedule_runs w (e ∷ es) = elim (decided w e) [
  | inl a ↦ let r = each_schedule_runs (after_event w e) es in (r.0, (after_event w e, inl (a, refl), r.1))
  | inr n ↦ let r = each_schedule_runs w es in (r.0, (w, inr (n, refl), r.1))
]
