-- Which of the four sets a page is in.
use Rattle.std.proofs.Common.{◌≡◌, ℕ, suc, ◌+◌, ◌<◌, ◌≤◌, Bool, true, false, not, ◌&&◌, ◌||◌, ◌==◌, nat_lt, Option, Some, None, is_some, IsTrue, IsFalse, arith, refl, inl, inr, if◌then◌else◌, subst, List, [], ◌∷◌, All, length, slice_index_or, eq-eqb, zero}
use Rattle.std.proofs.lemmas.Bool.Decides.{eqb_tells, leb_tells}
use Rattle.be_core.specs.Machine.{World, Sound, KeepsPinned, bit, update, is_below, has}

pub bit-le : (b : Bool) → bit b ≤ 1
bit-le true = omega arith
bit-le false = omega arith

-- at most one of four facts holds; if the last one holds, the others don't
pub only_last : (f t r b : Bool) → bit f + bit t + bit r + bit true ≡ bit b → IsFalse f × IsFalse t × IsFalse r
only_last false false false b h = (refl, refl, refl)
only_last true t r b h = absurd (omega (arith, bit-le))
only_last false true r b h = absurd (omega (arith, bit-le))
only_last false false true b h = absurd (omega (arith, bit-le))

-- a page that is free or taken becomes taken
pub taken_now : (f t r v b : Bool) → IsTrue (t || f) → bit f + bit t + bit r + bit v ≡ bit b → bit false + bit true + bit r + bit v ≡ bit b
taken_now true true r v b i h = absurd (omega (arith, bit-le))
taken_now true false r v b i h = h
taken_now false true r v b i h = h
taken_now false false r v b i h = absurd (cc)

-- a taken page becomes free
pub returned_now : (f t r v b : Bool) → IsTrue t → bit f + bit t + bit r + bit v ≡ bit b → bit true + bit false + bit r + bit v ≡ bit b
returned_now true true r v b i h = absurd (omega (arith, bit-le))
returned_now false true r v b i h = h
returned_now f false r v b i h = absurd (cc)

-- all taken pages become free
pub freed_now : (f t r v b : Bool) → bit f + bit t + bit r + bit v ≡ bit b → bit (f || t) + bit false + bit r + bit v ≡ bit b
freed_now true true r v b h = absurd (omega (arith, bit-le))
freed_now true false r v b h = h
freed_now false true r v b h = h
freed_now false false r v b h = h

-- the given pages of the current version become retired, and the taken pages are added to it
pub published_now : (f t v g b : Bool) (o : Option ℕ) (c : ℕ) → (IsTrue g → IsTrue v) → bit f + bit t + bit (is_some o) + bit v ≡ bit b
    → bit f + bit false + bit (is_some (if g then Some c else o)) + bit ((v && not g) || t) ≡ bit b
published_now false false true true b None c i h = h
published_now true t true true b o c i h = absurd (omega (arith, bit-le))
published_now false true true true b o c i h = absurd (omega (arith, bit-le))
published_now false false true true b (Some x) c i h = absurd (omega (arith, bit-le))
published_now f t false true b o c i h = absurd (let e : false ≡ true = i refl in cc)
published_now f true true false b o c i h = absurd (omega (arith, bit-le))
published_now f false true false b o c i h = h
published_now f true false false b o c i h = omega arith
published_now f false false false b o c i h = h

-- a page that is retired with a number below l becomes free
pub swept_now : (f t v b : Bool) (o : Option ℕ) (l : ℕ) → bit f + bit t + bit (is_some o) + bit v ≡ bit b
    → bit (f || is_below l o) + bit t + bit (is_some (if is_below l o then None else o)) + bit v ≡ bit b
swept_now true t v b None l h = h
swept_now false t v b None l h = h
swept_now true t v b (Some r) l h = absurd (omega (arith, bit-le))
swept_now false t v b (Some r) l h = by_test (nat_lt r l)
  where
    by_test : (x : Bool) → bit (false || x) + bit t + bit (is_some (if x then None else Some r)) + bit v ≡ bit b
    by_test true = omega arith
    by_test false = h

-- a taken page is one of the machine's pages
pub taken_inside : (f t r v : Bool) (p pages : ℕ) → IsTrue t → bit f + bit t + bit r + bit v ≡ bit (nat_lt p pages) → p < pages
taken_inside f false r v p pages i h = absurd (cc)
taken_inside f true r v p pages i h = elim (leb_tells (suc p) pages) [
  | inl y ↦ y.1
  | inr n ↦ absurd (let none : bit f + bit true + bit r + bit v ≡ bit false = (rw n.0 at h) in omega (arith, none))
]

-- a page of the next version is one of the current version, or was taken
pub next_is : (v g t : Bool) (P : Type 0) → IsTrue ((v && not g) || t) → (IsTrue v → P) → (IsTrue t → P) → P
next_is v g true P h old new = new refl
next_is true g false P h old new = old refl
next_is false g false P h old new = absurd (cc)

pub unretired : (o : Option ℕ) (r : ℕ) → IsFalse (is_some o) → o ≡ Some r → ⊥
unretired None r h e = cc
unretired (Some x) r h e = cc

pub neither : (f t : Bool) → IsTrue (t || f) → IsFalse f → IsFalse t → ⊥
neither true t h u v = cc
neither false true h u v = cc
neither false false h u v = cc

pub or_left : (f t : Bool) → IsTrue t → IsTrue (t || f)
or_left f true h = refl
or_left f false h = absurd (cc)

pub or_false : (f t : Bool) → IsFalse f → IsFalse t → IsFalse (f || t)
or_false true t u v = u
or_false false true u v = v
or_false false false u v = refl

pub update-same : {X : Type 0} (f : ℕ → X) (a : ℕ) (b : X) → update f a b a ≡ b
update-same f a b = elim (eqb_tells a a) [ inl y ↦ rw y.0 refl | inr n ↦ absurd (n.1 refl) ]

pub test-other : (k a : ℕ) → (k ≡ a → ⊥) → (k == a) ≡ false
test-other k a h = elim (eqb_tells k a) [ inl y ↦ absurd (h y.1) | inr n ↦ n.0 ]

-- a page of the current version is neither free nor taken nor retired
pub current-alone : (w : World) → Sound w → (p : ℕ) → IsTrue (w.reach w.current p) → IsFalse (w.free p) × IsFalse (w.taken p) × IsFalse (is_some (w.retired p))
current-alone w s p r = only_last _ _ _ _ (rw r at (s.partition p))

pub current-keeps : (w : World) → Sound w → (p : ℕ) → IsTrue (w.reach w.current p) → KeepsPinned w w.current p
current-keeps w s p r = let a = current-alone w s p r in (a.0, a.1, (λ q e. absurd (unretired (w.retired p) q a.2 e)), (λ i. s.now p i r))

-- what holds of one value of an option holds of the other
pub only : {X : Type 0} (x y : X) (P : X → Type 0) → Some x ≡ Some y → P x → P y
only x y P e h = let e' : x ≡ y = cc in subst P e' h

-- a page's retirement number after the listed pages are retired with the number c
pub after_giving : (P : ℕ → Type 0) (g : Bool) (c r : ℕ) (o : Option ℕ) → (if g then Some c else o) ≡ Some r → (IsTrue g → P c) → (o ≡ Some r → P r) → P r
after_giving P true c r o e new old = only c r P e (new refl)
after_giving P false c r o e new old = old e

pub lt-test : (a b : ℕ) → a < b → IsTrue (nat_lt a b)
lt-test a b h = elim (leb_tells (suc a) b) [ inl y ↦ y.0 | inr n ↦ absurd (omega (arith, n.1)) ]

-- a page that the current version doesn't reach, and that is retired only with a number below l, is
-- free or taken
pub left_over : (f t v b : Bool) (o : Option ℕ) (l : ℕ) → bit f + bit t + bit (is_some o) + bit v ≡ bit b → IsTrue b → IsFalse v
    → ((r : ℕ) → o ≡ Some r → r < l) → IsTrue ((f || is_below l o) || t)
left_over true t v b o l h i u old = refl
left_over false true v b None l h i u old = refl
left_over false true v b (Some r) l h i u old = rw (lt-test r l (old r refl)) refl
left_over false false v b (Some r) l h i u old = rw (lt-test r l (old r refl)) refl
left_over false false true b None l h i u old = absurd (cc)
left_over false false false true None l h i u old = absurd (omega arith)
left_over false false false false None l h i u old = absurd (cc)

-- what holds of each number in a list holds of each member
pub at_member : (P : ℕ → Type 0) (given : List ℕ) (p : ℕ) → All P given → IsTrue (has given p) → P p
at_member P [] p all h = absurd (cc)
at_member P (q ∷ qs) p all h = elim (eqb_tells q p) [
  | inl y ↦ subst P y.1 (all 0 0 (omega arith))
  | inr n ↦ at_member P qs p (λ k d b. all (suc k) d (omega arith)) (rw n.0 at h)
]

pub member_at : (given : List ℕ) (k d : ℕ) → k < length given → IsTrue (has given (slice_index_or given k d))
member_at [] k d b = absurd (omega arith)
member_at (q ∷ qs) zero d b = rw (eq-eqb q q refl) refl
member_at (q ∷ qs) (suc k) d b = rw (member_at qs k d (omega arith)) (or_true (q == slice_index_or qs k d))
  where
    or_true : (b : Bool) → IsTrue (b || true)
    or_true true = refl
    or_true false = refl
