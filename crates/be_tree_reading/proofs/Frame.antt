-- Changes to the pages in use.
use Rattle.std.proofs.Common.{◌≡◌, ℕ, zero, suc, ◌+◌, ◌<◌, ◌≤◌, List, [], ◌∷◌, ◌++◌, IsTrue, ap, sym, subst, ◌∙◌, refl, inl, inr, arith, cond, ◌==◌}
use Rattle.std.proofs.lemmas.Bool.{cases_eq}
use Rattle.std.proofs.lemmas.Bool.Decides.{nat_tests}
use Rattle.std.proofs.lemmas.List.Sums.{sum_by-append, sum_by-cons}
use mathlib.Core.Bool.{false≢true}
use Rattle.be_pages.specs.declared.room.PageState.{PageState}
use Rattle.be_pages.specs.declared.room.PageState.TheVariants.{Free, Old, GivenUp, Taken, Filled}
use Rattle.be_pages.specs.Pages.{is_readable, is_taken, is_kept, is_from_before, after_undo, times, PageStep, untouched, unused, fresh, given_old, given_new, stays_old, stays_new, Swaps, KeepsStart, IsUnchanged}

-- how many times a page occurs among the pages of two parts
pub times_append : (q : ℕ) (xs ys : List ℕ) → times q (xs ++ ys) ≡ times q xs + times q ys
times_append q xs ys = sum_by-append (λ p. cond (p == q) 1 0) xs ys

pub times-cons : (q p : ℕ) (ps : List ℕ) → times q (p ∷ ps) ≡ cond (p == q) 1 0 + times q ps
times-cons q p ps = sum_by-cons (λ p. cond (p == q) 1 0) p ps

pub times_tail : (q p : ℕ) (ps : List ℕ) → times q ps ≤ times q (p ∷ ps)
times_tail q p ps = omega (arith, times-cons q p ps)

pub same_page : (p : ℕ) → cond {A = ℕ} (p == p) 1 0 ≡ 1
same_page p = grind (arith, nat_tests)

pub times_itself : (p : ℕ) → times p (p ∷ []) ≡ 1
times_itself p = omega (arith, times-cons p p [], same_page p)

pub times_other : (q p : ℕ) → (q ≡ p → ⊥) → times q (p ∷ []) ≡ 0
times_other q p ne = omega (arith, times-cons q p [], other q p ne)
  where
    other : (q p : ℕ) → (q ≡ p → ⊥) → cond {A = ℕ} (p == q) 1 0 ≡ 0
    other q p ne = grind (arith, nat_tests)

pub one_page : (q p : ℕ) → times q (p ∷ []) ≤ 1
one_page q p = elim (cases_eq q p) [
  | inl e ↦ omega (arith, ap (λ r. times r (p ∷ [])) e, times_itself p)
  | inr ne ↦ omega (arith, times_other q p ne)
]

-- what holds for a page holds for each page in a list of only that page
pub alone : (P : ℕ → Type 0) (page : ℕ) → P page → (q : ℕ) → 0 < times q (page ∷ []) → P q
alone P page here q some = elim (cases_eq q page) [
  | inl e ↦ subst P (sym e) here
  | inr ne ↦ absurd (omega (arith, some, times_other q page ne))
]

-- one more page, and two more, that don't occur among these
pub one_beside : (page : ℕ) (ps : List ℕ) → times page ps ≡ 0 → ((q : ℕ) → times q ps ≤ 1) → (q : ℕ) → times q (page ∷ []) + times q ps ≤ 1
one_beside page ps none once q = elim (cases_eq q page) [
  | inl e ↦ subst (λ p. times p (page ∷ []) + times p ps ≤ 1) (sym e) (omega (arith, times_itself page, none))
  | inr ne ↦ omega (arith, times_other q page ne, once q)
]

pub two_beside : (l r : ℕ) (ps : List ℕ) → (l ≡ r → ⊥) → times l ps ≡ 0 → times r ps ≡ 0 → ((q : ℕ) → times q ps ≤ 1) → (q : ℕ) → times q (l ∷ r ∷ []) + times q ps ≤ 1
two_beside l r ps ne nl nr once q = elim (cases_eq q l) [
  | inl e ↦ subst (λ p. times p (l ∷ r ∷ []) + times p ps ≤ 1) (sym e) (omega (arith, times_append l (l ∷ []) (r ∷ []), times_itself l, times_other l r ne, nl))
  | inr other ↦ omega (arith, times_append q (l ∷ []) (r ∷ []), times_other q l other, one_beside r ps nr once q)
]

-- two changes of a page in sequence
step_trans : {P Q S : Type 0} {b m a : ℕ} {s t u : PageState} → (P → Q → S) → PageStep P b m s t → PageStep Q m a t u → PageStep S b a s u
step_trans f (untouched p) (untouched q) = untouched (f p q)
step_trans f (untouched p) unused = unused
step_trans f (untouched p) fresh = fresh
step_trans f unused (untouched q) = unused
step_trans f unused unused = unused
step_trans f unused fresh = fresh
step_trans f fresh given_new = unused
step_trans f fresh stays_new = fresh
step_trans f (given_old p) (untouched q) = given_old (f p q)
step_trans f given_new (untouched q) = given_new
step_trans f given_new unused = given_new
step_trans f given_new fresh = stays_new
step_trans f (stays_old p) (given_old q) = given_old (f p q)
step_trans f (stays_old p) (stays_old q) = stays_old (f p q)
step_trans f stays_new given_new = given_new
step_trans f stays_new stays_new = stays_new

-- a page in use that isn't touched is in use before and after
stays_used : {P : Type 0} (s : PageState) → IsTrue (is_kept s) → P → (n m : ℕ) → PageStep P (suc n) (suc m) s s
stays_used Free used p n m = absurd (false≢true used)
stays_used Old used p n m = stays_old p
stays_used GivenUp used p n m = absurd (false≢true used)
stays_used Taken used p n m = absurd (false≢true used)
stays_used Filled used p n m = stays_new

step_stays : {P : Type 0} {b a : ℕ} {s t : PageState} → IsTrue (is_kept s) → b ≡ 0 → PageStep P b a s t → (n m : ℕ) → PageStep P (suc n) (suc m) s t
step_stays used e (untouched {s} p) n m = stays_used s used p n m
step_stays used e unused n m = absurd (false≢true used)
step_stays used e fresh n m = absurd (false≢true used)
step_stays used e (given_old {b} p) n m = absurd (omega (arith, e))
step_stays used e (given_new {b}) n m = absurd (omega (arith, e))
step_stays used e (stays_old {b} p) n m = absurd (omega (arith, e))
step_stays used e (stays_new {b}) n m = absurd (omega (arith, e))

-- the same change, together with other pages in use
step_frame : {P : Type 0} {b a : ℕ} {s t : PageState} (x : ℕ) → x + b ≤ 1 → (0 < x → IsTrue (is_kept s)) → PageStep P b a s t → PageStep P (x + b) (x + a) s t
step_frame {P = P} {b = b} {a = a} {s = s} {t = t} zero once used step =
    let e : b ≡ 0 + b = omega arith in
    let f : a ≡ 0 + a = omega arith in
    subst (λ n. PageStep P n (0 + a) s t) e (subst (λ n. PageStep P b n s t) f step)
step_frame {P = P} {b = b} {a = a} {s = s} {t = t} (suc x) once used step =
    let e : suc (x + b) ≡ suc x + b = omega arith in
    let f : suc (x + a) ≡ suc x + a = omega arith in
    subst (λ n. PageStep P n (suc x + a) s t) e (subst (λ n. PageStep P (suc (x + b)) n s t) f (step_stays (used (omega arith)) (omega (arith, once)) step (x + b) (x + a)))

-- a page that others use keeps its words
step_same : {P : Type 0} {b a : ℕ} {s t : PageState} → b ≡ 0 → IsTrue (is_readable s) → PageStep P b a s t → P
step_same none read (untouched p) = p
step_same none read unused = absurd (false≢true read)
step_same none read fresh = absurd (false≢true read)
step_same none read (given_old p) = p
step_same none read (given_new {b}) = absurd (omega (arith, none))
step_same none read (stays_old p) = p
step_same none read (stays_new {b} {a}) = absurd (omega (arith, none))

-- and its state
step_state_stays : {P : Type 0} {b a : ℕ} {s t : PageState} → b ≡ 0 → IsTrue (is_readable s) → PageStep P b a s t → t ≡ s
step_state_stays none read (untouched p) = refl
step_state_stays none read unused = refl
step_state_stays none read fresh = absurd (false≢true read)
step_state_stays none read (given_old {b} p) = absurd (omega (arith, none))
step_state_stays none read (given_new {b}) = absurd (omega (arith, none))
step_state_stays none read (stays_old p) = refl
step_state_stays none read stays_new = refl

-- a page in use afterwards is kept
step_after : {P : Type 0} {b a : ℕ} {s t : PageState} → 0 < a → PageStep P b a s t → IsTrue (is_kept t)
step_after some (untouched p) = absurd (omega (arith, some))
step_after some unused = absurd (omega (arith, some))
step_after some fresh = refl
step_after some (given_old p) = absurd (omega (arith, some))
step_after some given_new = absurd (omega (arith, some))
step_after some (stays_old p) = refl
step_after some stays_new = refl

-- a page that comes into use was free
step_fresh : {P : Type 0} {b a : ℕ} {s t : PageState} → b ≡ 0 → 0 < a → PageStep P b a s t → s ≡ Free
step_fresh none some (untouched p) = absurd (omega (arith, some))
step_fresh none some unused = refl
step_fresh none some fresh = refl
step_fresh none some (given_old {b} p) = absurd (omega (arith, none))
step_fresh none some given_new = absurd (omega (arith, some))
step_fresh none some (stays_old {b} p) = absurd (omega (arith, none))
step_fresh none some (stays_new {b}) = absurd (omega (arith, none))

step_undone : {P : Type 0} {b a : ℕ} {s t : PageState} → PageStep P b a s t → after_undo t ≡ after_undo s
step_undone (untouched p) = refl
step_undone unused = refl
step_undone fresh = refl
step_undone (given_old p) = refl
step_undone given_new = refl
step_undone (stays_old p) = refl
step_undone stays_new = refl

step_older : {P : Type 0} {b a : ℕ} {s t : PageState} → IsTrue (is_from_before s) → PageStep P b a s t → P
step_older old (untouched p) = p
step_older old unused = absurd (false≢true old)
step_older old fresh = absurd (false≢true old)
step_older old (given_old p) = p
step_older old given_new = absurd (false≢true old)
step_older old (stays_old p) = p
step_older old stays_new = absurd (false≢true old)

-- if two states are the same after an undo, and one is that of a page from before the write, so is
-- the other
from_before : (s t : PageState) → after_undo t ≡ after_undo s → IsTrue (is_from_before s) → IsTrue (is_from_before t)
from_before s t e old = same t ∙ ap is_from_before e ∙ sym (same s) ∙ old
  where
    same : (s : PageState) → is_from_before s ≡ is_from_before (after_undo s)
    same Free = refl
    same Old = refl
    same GivenUp = refl
    same Taken = refl
    same Filled = refl

module _ {S K : Type 0} (kept_of : S → K) (page_state_of : S → ℕ → PageState) (words_of : S → ℕ → ℕ → ℕ) where
  pub swaps_trans : (b m a : List ℕ) (old mid new : S) → Swaps kept_of page_state_of words_of b m old mid → Swaps kept_of page_state_of words_of m a mid new → Swaps kept_of page_state_of words_of b a old new
  swaps_trans b m a old mid new first then = record {
    kept = then.kept ∙ first.kept;
    each = λ q. step_trans (λ x y. y ∙ x) (first.each q) (then.each q);
  }

  pub swaps_frame : (b a b' a' : List ℕ) (x : ℕ → ℕ) (old new : S) → Swaps kept_of page_state_of words_of b a old new
      → ((q : ℕ) → times q b' ≡ x q + times q b) → ((q : ℕ) → times q a' ≡ x q + times q a) → ((q : ℕ) → times q b' ≤ 1) → ((q : ℕ) → 0 < x q → IsTrue (is_kept (page_state_of old q)))
      → Swaps kept_of page_state_of words_of b' a' old new
  swaps_frame b a b' a' x old new swaps eb ea once used = record {
    kept = swaps.kept;
    each = λ q. subst (λ n. PageStep (words_of new q ≡ words_of old q) n (times q a') (page_state_of old q) (page_state_of new q)) (sym (eb q))
        (subst (λ n. PageStep (words_of new q ≡ words_of old q) (x q + times q b) n (page_state_of old q) (page_state_of new q)) (sym (ea q))
        (step_frame (x q) (omega (arith, eb q, once q)) (used q) (swaps.each q)));
  }

  pub swaps_same : (b a : List ℕ) (old new : S) → Swaps kept_of page_state_of words_of b a old new → (q : ℕ) → times q b ≡ 0 → IsTrue (is_readable (page_state_of old q)) → words_of new q ≡ words_of old q
  swaps_same b a old new swaps q none read = step_same none read (swaps.each q)

  pub swaps_stays : (b a : List ℕ) (old new : S) → Swaps kept_of page_state_of words_of b a old new → (q : ℕ) → times q b ≡ 0 → IsTrue (is_readable (page_state_of old q)) → page_state_of new q ≡ page_state_of old q
  swaps_stays b a old new swaps q none read = step_state_stays none read (swaps.each q)

  pub swaps_after : (b a : List ℕ) (old new : S) → Swaps kept_of page_state_of words_of b a old new → (q : ℕ) → 0 < times q a → IsTrue (is_kept (page_state_of new q))
  swaps_after b a old new swaps q some = step_after some (swaps.each q)

  pub swaps_fresh : (b a : List ℕ) (old new : S) → Swaps kept_of page_state_of words_of b a old new → (q : ℕ) → times q b ≡ 0 → 0 < times q a → page_state_of old q ≡ Free
  swaps_fresh b a old new swaps q none some = step_fresh none some (swaps.each q)

  -- a change, together with a page in use
  pub swaps_with : (page : ℕ) (b a : List ℕ) (old new : S) → Swaps kept_of page_state_of words_of b a old new → times page b ≡ 0 → ((q : ℕ) → times q b ≤ 1) → IsTrue (is_kept (page_state_of old page))
      → Swaps kept_of page_state_of words_of (page ∷ b) (page ∷ a) old new
  swaps_with page b a old new swaps none once used =
      swaps_frame b a (page ∷ b) (page ∷ a) (λ q. times q (page ∷ [])) old new swaps
      (λ q. times_append q (page ∷ []) b) (λ q. times_append q (page ∷ []) a) (λ q. omega (arith, times_append q (page ∷ []) b, one_beside page b none once q))
      (alone (λ q. IsTrue (is_kept (page_state_of old q))) page used)

  -- some pages are replaced, and then others
  pub swaps_both : (b1 a1 b2 a2 b a : List ℕ) (old mid new : S) → Swaps kept_of page_state_of words_of b1 a1 old mid → Swaps kept_of page_state_of words_of b2 a2 mid new
      → ((q : ℕ) → times q b ≡ times q b1 + times q b2) → ((q : ℕ) → times q a ≡ times q a1 + times q a2) → ((q : ℕ) → times q b ≤ 1) → ((q : ℕ) → times q a1 ≤ 1)
      → ((q : ℕ) → 0 < times q b2 → IsTrue (is_kept (page_state_of old q))) → Swaps kept_of page_state_of words_of b a old new
  swaps_both b1 a1 b2 a2 b a old mid new first last eb ea once few used =
      swaps_trans b (a1 ++ b2) a old mid new
      (swaps_frame b1 a1 b (a1 ++ b2) (λ q. times q b2) old mid first (λ q. omega (arith, eb q)) (λ q. omega (arith, times_append q a1 b2)) once used)
      (swaps_frame b2 a2 (a1 ++ b2) a (λ q. times q a1) mid new last (λ q. times_append q a1 b2) ea between (λ q some. swaps_after b1 a1 old mid first q some))
    where
      between : (q : ℕ) → times q (a1 ++ b2) ≤ 1
      between q = split (times q b2) (times q a1) refl refl
        where
          split : (n m : ℕ) → times q b2 ≡ n → times q a1 ≡ m → times q (a1 ++ b2) ≤ 1
          split zero m en em = omega (arith, times_append q a1 b2, few q, en)
          split (suc n) zero en em = omega (arith, times_append q a1 b2, en, em, eb q, once q)
          split (suc n) (suc m) en em =
              let free = swaps_fresh b1 a1 old mid first q (omega (arith, eb q, once q, en)) (omega (arith, em)) in
              absurd (false≢true (ap is_kept (sym free) ∙ used q (omega (arith, en))))

  pub swaps_start : (b a : List ℕ) (old new : S) → Swaps kept_of page_state_of words_of b a old new → KeepsStart kept_of page_state_of words_of old new
  swaps_start b a old new swaps = record {
    kept = swaps.kept;
    undone = λ q. step_undone (swaps.each q);
    words = λ q old. step_older old (swaps.each q);
  }

  pub start_trans : (old mid new : S) → KeepsStart kept_of page_state_of words_of old mid → KeepsStart kept_of page_state_of words_of mid new → KeepsStart kept_of page_state_of words_of old new
  start_trans old mid new first then = record {
    kept = then.kept ∙ first.kept;
    undone = λ q. then.undone q ∙ first.undone q;
    words = λ q was. then.words q (from_before (page_state_of old q) (page_state_of mid q) (first.undone q) was) ∙ first.words q was;
  }

pub readable_kept : (s : PageState) → IsTrue (is_kept s) → IsTrue (is_readable s)
readable_kept Free used = absurd (false≢true used)
readable_kept Old used = refl
readable_kept GivenUp used = refl
readable_kept Taken used = refl
readable_kept Filled used = refl

-- a free page is taken and filled
pub written_swaps : {S K : Type 0} (kept_of : S → K) (page_state_of : S → ℕ → PageState) (words_of : S → ℕ → ℕ → ℕ) (page : ℕ) (old new : S)
    → kept_of new ≡ kept_of old → page_state_of old page ≡ Free → page_state_of new page ≡ Filled
    → ((q : ℕ) → (q ≡ page → ⊥) → page_state_of new q ≡ page_state_of old q) → ((q : ℕ) → (q ≡ page → ⊥) → words_of new q ≡ words_of old q)
    → Swaps kept_of page_state_of words_of [] (page ∷ []) old new
written_swaps kept_of page_state_of words_of page old new kept free filled states words = record {
  kept = kept;
  each = λ q. elim (cases_eq q page) [
    | inl e ↦
        step q (words_of new q ≡ words_of old q) 1 0 (page_state_of old q) (page_state_of new q) (ap (λ p. times p (page ∷ [])) e ∙ times_itself page) (ap (page_state_of old) e ∙ free) (ap (page_state_of new) e ∙ filled)
    | inr ne ↦
        subst (λ n. PageStep (words_of new q ≡ words_of old q) zero n (page_state_of old q) (page_state_of new q)) (sym (times_other q page ne))
        (subst (λ t. PageStep (words_of new q ≡ words_of old q) zero zero (page_state_of old q) t) (sym (states q ne)) (untouched (words q ne)))
  ];
}
  where
    step : (q : ℕ) (P : Type 0) (n m : ℕ) (s t : PageState) → times q (page ∷ []) ≡ 1 → s ≡ Free → t ≡ Filled → PageStep P zero (times q (page ∷ [])) s t
    step q P n m s t once free filled =
        subst (λ n. PageStep P zero n s t) (sym once) (subst (λ u. PageStep P zero 1 u t) (sym free) (subst (λ u. PageStep P zero 1 Free u) (sym filled) fresh))

pub filled_is : (s : PageState) → IsTrue (is_kept s) → IsTrue (is_taken s) → s ≡ Filled
filled_is Free used taken = absurd (false≢true used)
filled_is Old used taken = absurd (false≢true taken)
filled_is GivenUp used taken = absurd (false≢true used)
filled_is Taken used taken = absurd (false≢true used)
filled_is Filled used taken = refl

-- a page in use that the write has taken is overwritten
pub rewritten_swaps : {S K : Type 0} (kept_of : S → K) (page_state_of : S → ℕ → PageState) (words_of : S → ℕ → ℕ → ℕ) (page : ℕ) (old new : S)
    → kept_of new ≡ kept_of old → IsTrue (is_kept (page_state_of old page)) → IsTrue (is_taken (page_state_of old page)) → page_state_of new page ≡ Filled
    → ((q : ℕ) → (q ≡ page → ⊥) → page_state_of new q ≡ page_state_of old q) → ((q : ℕ) → (q ≡ page → ⊥) → words_of new q ≡ words_of old q)
    → Swaps kept_of page_state_of words_of (page ∷ []) (page ∷ []) old new
rewritten_swaps kept_of page_state_of words_of page old new kept used taken filled states words = record {
  kept = kept;
  each = λ q. elim (cases_eq q page) [
    | inl e ↦
        step q (words_of new q ≡ words_of old q) (page_state_of old q) (page_state_of new q) (ap (λ p. times p (page ∷ [])) e ∙ times_itself page)
        (ap (page_state_of old) e ∙ filled_is (page_state_of old page) used taken) (ap (page_state_of new) e ∙ filled)
    | inr ne ↦
        subst (λ n. PageStep (words_of new q ≡ words_of old q) n n (page_state_of old q) (page_state_of new q)) (sym (times_other q page ne))
        (subst (λ t. PageStep (words_of new q ≡ words_of old q) zero zero (page_state_of old q) t) (sym (states q ne)) (untouched (words q ne)))
  ];
}
  where
    step : (q : ℕ) (P : Type 0) (s t : PageState) → times q (page ∷ []) ≡ 1 → s ≡ Filled → t ≡ Filled → PageStep P (times q (page ∷ [])) (times q (page ∷ [])) s t
    step q P s t once was filled =
        subst (λ n. PageStep P n n s t) (sym once) (subst (λ u. PageStep P 1 1 u t) (sym was) (subst (λ u. PageStep P 1 1 Filled u) (sym filled) stays_new))

-- a change, after pages were only read
pub swaps_since : {S K : Type 0} (kept_of : S → K) (page_state_of : S → ℕ → PageState) (words_of : S → ℕ → ℕ → ℕ) (b a : List ℕ) (old read new : S) → IsUnchanged kept_of page_state_of words_of old read
    → Swaps kept_of page_state_of words_of b a read new → Swaps kept_of page_state_of words_of b a old new
swaps_since kept_of page_state_of words_of b a old read new same swaps = record {
  kept = swaps.kept ∙ same.kept;
  each = λ q. subst (λ s. PageStep (words_of new q ≡ words_of old q) (times q b) (times q a) (s q) (page_state_of new q)) same.page_state
      (subst (λ w. PageStep (words_of new q ≡ w q) (times q b) (times q a) (page_state_of read q) (page_state_of new q)) same.words (swaps.each q));
}

pub unchanged_start : {S K : Type 0} (kept_of : S → K) (page_state_of : S → ℕ → PageState) (words_of : S → ℕ → ℕ → ℕ) (old read : S) → IsUnchanged kept_of page_state_of words_of old read → KeepsStart kept_of page_state_of words_of old read
unchanged_start kept_of page_state_of words_of old read same = record {
  kept = same.kept;
  undone = λ q. ap (λ s. after_undo (s q)) same.page_state;
  words = λ q old. ap (λ w. w q) same.words;
}

-- two reads in sequence
pub unchanged_trans : {S K : Type 0} (kept_of : S → K) (page_state_of : S → ℕ → PageState) (words_of : S → ℕ → ℕ → ℕ) (old mid new : S)
    → IsUnchanged kept_of page_state_of words_of old mid → IsUnchanged kept_of page_state_of words_of mid new → IsUnchanged kept_of page_state_of words_of old new
unchanged_trans kept_of page_state_of words_of old mid new first last = record {
  kept = last.kept ∙ first.kept;
  page_state = last.page_state ∙ first.page_state;
  words = last.words ∙ first.words;
}
