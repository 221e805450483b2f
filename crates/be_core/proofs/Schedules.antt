-- The laws: the invariant holds at first and each event preserves it, so it holds after every
-- schedule.
use Rattle.std.proofs.Common.{◌≡◌, ℕ, suc, ◌+◌, ◌<◌, ◌≤◌, Bool, true, false, not, ◌&&◌, ◌==◌, nat_lt, List, [], ◌∷◌, IsTrue, IsFalse, refl, sym, inl, inr, subst, arith}
use Rattle.std.proofs.lemmas.Bool.Decides.{eqb_tells, leb_tells}
use Rattle.be_core.specs.declared.event.Event.{Event}
use Rattle.be_core.specs.declared.event.Event.TheVariants.{Look, Announce, LookAgain, Read, Unpin, Lock, Scan, Fill, Publish, Unlock}
use Rattle.be_core.specs.Machine.{World, Sound, Run, Move, happens, returns, Moves, Allowed, after_event, Protected, first_state, MayFill, bit, after_fill}
use Rattle.be_core.specs.Laws.{Always, FillsNoPinned, LeavesNone, ScanLeavesNone}
use Rattle.be_core.proofs.Places.{neither, lt-test}
use Rattle.be_core.proofs.Readers.{after_look-sound, after_announce-sound, after_look_again-sound, after_unpin-sound}
use Rattle.be_core.proofs.Writers.{after_lock-sound, after_unlock-sound, after_fill-sound, after_return-sound, after_publish-sound}
use Rattle.be_core.proofs.Scans.{after_scan-sound, whole-leaves_none}

at_first : (pages used p : ℕ) → used ≤ pages → bit (nat_lt p pages && not (nat_lt p used)) + bit false + bit false + bit (nat_lt p used) ≡ bit (nat_lt p pages)
at_first pages used p le = elim (leb_tells (suc p) used) [
  | inl y ↦ rw (y.0, lt-test p pages (omega (arith, le, y))) refl
  | inr n ↦ rw n.0 (elim (leb_tells (suc p) pages) [ inl y ↦ rw y.0 refl | inr m ↦ rw m.0 refl ])
]

pub first-sound : (pages used passes commits : ℕ) (words : ℕ → ℕ → ℕ) → used ≤ pages → Sound (first_state pages used passes commits words)
first-sound pages used passes commits words le = record {
  partition = λ p. at_first pages used p le;
  in_time = λ k. tt;
  outside = λ k _. refl;
  pinned = λ k a n p e. absurd (cc);
  now = λ p i r. refl;
  was_reached = λ p r e. absurd (cc);
  counted = λ h is. absurd (cc);
  lowest_in_time = λ h is. absurd (cc);
  unheld = λ e p. refl;
  inside = λ n p r. only_first n p r;
  writer_inside = λ h is. absurd (cc);
}
  where
    no_and : (b : Bool) → IsTrue (b && false) → ⊥
    no_and true h = cc
    no_and false h = cc

    only_first : (n p : ℕ) → IsTrue ((n == 0) && nat_lt p used) → p < pages
    only_first n p r = elim (leb_tells (suc p) used) [ inl y ↦ omega (arith, le, y) | inr m ↦ absurd (let no : IsTrue ((n == 0) && false) = (rw m.0 at r) in no_and (n == 0) no) ]

pub fill-sound : (w : World) (k p i word : ℕ) → Sound w → MayFill w k p i → Sound (after_fill w p i word)
fill-sound w k p i word s may = after_fill-sound w s p may.3 i word (may.2.0, may.2.1.0)

pub after-sound : (w : World) (e : Event) → Sound w → Allowed w e → Sound (after_event w e)
after-sound w (Look k) s may = after_look-sound w s k may
after-sound w (Announce k) s may = after_announce-sound w s k may
after-sound w (LookAgain k) s may = after_look_again-sound w s k may
after-sound w (Read k p i) s may = s
after-sound w (Unpin k) s may = after_unpin-sound w s k may
after-sound w (Lock k) s may = after_lock-sound w s k may
after-sound w (Scan k j) s may = after_scan-sound w s k j may
after-sound w (Fill k p i word) s may = fill-sound w k p i word s may
after-sound w (Publish k v given) s may = after_publish-sound w s k v _ may
after-sound w (Unlock k) s may = after_unlock-sound w s k may

moves-sound : (w : World) (m : Move) (w' : World) → Sound w → Moves w m w' → Sound w'
moves-sound w (happens e) w' s (inl x) = subst Sound (sym x.1) (after-sound w e s x.0)
moves-sound w (happens e) w' s (inr x) = subst Sound (sym x.1) s
moves-sound w (returns p) w' s x = subst Sound (sym x.1) (after_return-sound w s p x.0)

pub run-sound : (w : World) (ms : List Move) (w' : World) → Sound w → Run w ms w' → Sound w'
run-sound w [] w' s r = subst Sound (sym r) s
run-sound w (m ∷ ms) w' s r = run-sound r.0 ms w' (moves-sound w m r.0 s r.1) r.2

pub sound-protected : (w : World) → Sound w → Protected w
sound-protected w s k a n p e r = let x = s.pinned k a n p e r in (x.0, x.1, x.3)

pub sound-fills_no_pinned : (w : World) → Sound w → FillsNoPinned w
sound-fills_no_pinned w s k p i j a n may e = unreached (w.reach n p) refl
  where
    unreached : (b : Bool) → w.reach n p ≡ b → IsFalse b
    unreached false r = refl
    unreached true r = let x = s.pinned j a n p e r in absurd (neither (w.free p) (w.taken p) may.3 x.0 x.1)

pub sound-scan_leaves_none : (w : World) → Sound w → ScanLeavesNone w
sound-scan_leaves_none w s k j may last = rw may.1.1.0 (whole-leaves_none w s may.1.0 k j may.1.1 may.1.2 last last)

-- what an allowed event leaves
pub after-leaves_none : (w : World) (e : Event) → Sound w → Allowed w e → LeavesNone w e (after_event w e)
after-leaves_none w (Look k) s may = tt
after-leaves_none w (Announce k) s may = tt
after-leaves_none w (LookAgain k) s may = tt
after-leaves_none w (Read k p i) s may = tt
after-leaves_none w (Unpin k) s may = tt
after-leaves_none w (Lock k) s may = tt
after-leaves_none w (Scan k j) s may = sound-scan_leaves_none w s k j may
after-leaves_none w (Fill k p i word) s may = tt
after-leaves_none w (Publish k v given) s may = tt
after-leaves_none w (Unlock k) s may = tt

pub always : (P : World → Type 0) → ((w : World) → Sound w → P w) → Always P
always P h pages used passes commits words moves w le run = h w (run-sound (first_state pages used passes commits words) moves w (first-sound pages used passes commits words le) run)
