-- Counting the pages that a write holds.
use Rattle.std.proofs.Common.{◌≡◌, ◌≢◌, ℕ, zero, suc, ◌+◌, ◌<◌, ◌≤◌, ◌==◌, List, [], ◌∷◌, length, IsTrue, true, false, Bool, refl, ap, inl, inr, arith, cond}
use Rattle.std.proofs.lemmas.Bool.{cases_eq}
use Rattle.std.proofs.lemmas.Bool.Decides.{nat_tests}
use mathlib.Core.Bool.{false≢true}
use Rattle.be_pages.specs.declared.room.PageState.{PageState}
use Rattle.be_pages.specs.declared.room.PageState.TheVariants.{Free, Old, GivenUp, Taken, Filled}
use Rattle.be_pages.specs.Pages.{is_taken, after_give_up, times, SetsStateAt, PageStep, untouched, unused, fresh, given_old, given_new, stays_old, stays_new, Swaps}
use Rattle.be_tree.specs.Counting.{one_of, in_hand, TakesAtMost, TakesFewer, HasInHand}
use Rattle.be_tree_reading.proofs.Frame.{times-cons, times_itself}
use Rattle.be_tree.proofs.Nodes.PageStates.{changed_state, other_states}

-- two changes in sequence
pub takes_then : (a b : ℕ) (s t u : ℕ → PageState) → TakesAtMost a s t → TakesAtMost b t u → TakesAtMost (a + b) s u
takes_then a b s t u first second n = omega (arith, first n, second n)

pub takes_fewer_then : (a b : ℕ) (s t u : ℕ → PageState) → TakesAtMost a s t → TakesFewer b t u → TakesFewer (a + b) s u
takes_fewer_then a b s t u first second n = omega (arith, first n, second n)

-- nothing is taken
pub takes_same : (s t : ℕ → PageState) → t ≡ s → TakesAtMost 0 s t
takes_same s t e n = omega (arith, ap (in_hand n) e)

pub takes_within : (a b : ℕ) (s t : ℕ → PageState) → a ≤ b → TakesAtMost a s t → TakesAtMost b s t
takes_within a b s t le takes n = omega (arith, le, takes n)

pub fewer_within : (a b : ℕ) (s t : ℕ → PageState) → a ≤ b → TakesFewer a s t → TakesFewer b s t
fewer_within a b s t le takes n = omega (arith, le, takes n)

-- how often the first n pages occur among some pages
all_times : ℕ → List ℕ → ℕ
all_times zero ps = 0
all_times (suc n) ps = times n ps + all_times n ps

hits : ℕ → ℕ → ℕ
hits zero p = 0
hits (suc n) p = cond (p == n) 1 0 + hits n p

no_hits : (n p : ℕ) → n ≤ p → hits n p ≡ 0
unfolding hits
no_hits zero p le = refl
no_hits (suc n) p le = omega (arith, no_hits n p (omega (arith, le)), other n p (omega (arith, le)))
  where
    other : (n p : ℕ) → n < p → cond {A = ℕ} (p == n) 1 0 ≡ 0
    other n p lt = grind (arith, nat_tests)

one_hit : (n p : ℕ) → hits n p ≤ 1
unfolding hits
one_hit zero p = omega arith
one_hit (suc n) p = elim (cases_eq p n) [
  | inl e ↦ omega (arith, no_hits n p (omega (arith, e)), at_most p n)
  | inr ne ↦ omega (arith, one_hit n p, other p n ne)
]
  where
    at_most : (p n : ℕ) → cond {A = ℕ} (p == n) 1 0 ≤ 1
    at_most p n = grind (arith, nat_tests)

    other : (p n : ℕ) → (p ≡ n → ⊥) → cond {A = ℕ} (p == n) 1 0 ≡ 0
    other p n ne = grind (arith, nat_tests)

none_of_none : (n : ℕ) → all_times n [] ≡ 0
unfolding all_times
none_of_none zero = refl
none_of_none (suc n) = omega (arith, none_of_none n)

all_times_cons : (n p : ℕ) (ps : List ℕ) → all_times n (p ∷ ps) ≡ hits n p + all_times n ps
unfolding all_times hits
all_times_cons zero p ps = refl
all_times_cons (suc n) p ps = omega (arith, all_times_cons n p ps, times-cons n p ps)

all_times_size : (n : ℕ) (ps : List ℕ) → all_times n ps ≤ length ps
all_times_size n [] = omega (arith, none_of_none n)
all_times_size n (p ∷ ps) = omega (arith, all_times_cons n p ps, one_hit n p, all_times_size n ps)

-- if all newly held pages are among these, there are no more of them than of these
by_pages : (n : ℕ) (old new : ℕ → PageState) (ps : List ℕ) → ((q : ℕ) → one_of (is_taken (new q)) ≤ one_of (is_taken (old q)) + times q ps) → in_hand n new ≤ in_hand n old + all_times n ps
unfolding all_times
by_pages zero old new ps each = omega arith
by_pages (suc n) old new ps each = omega (arith, each n, by_pages n old new ps each)

pub takes_by : (old new : ℕ → PageState) (ps : List ℕ) → ((q : ℕ) → one_of (is_taken (new q)) ≤ one_of (is_taken (old q)) + times q ps) → TakesAtMost (length ps) old new
takes_by old new ps each n = omega (arith, by_pages n old new ps each, all_times_size n ps)

-- no page changes its state
pub takes_still : (s t : ℕ → PageState) → ((q : ℕ) → t q ≡ s q) → TakesAtMost 0 s t
takes_still s t same = takes_by s t [] (λ q. omega (arith, ap (λ x. one_of (is_taken x)) (same q)))

-- only this page does
pub takes_one : (s t : ℕ → PageState) (page : ℕ) → ((q : ℕ) → q ≢ page → t q ≡ s q) → TakesAtMost 1 s t
takes_one s t page same = takes_by s t (page ∷ []) (λ q. elim (cases_eq q page) [
  | inl e ↦ omega (arith, at_most_one (is_taken (t q)), ap (λ p. times p (page ∷ [])) e, times_itself page)
  | inr ne ↦ omega (arith, ap (λ x. one_of (is_taken x)) (same q ne))
])
  where
    at_most_one : (b : Bool) → one_of b ≤ 1
    at_most_one true = omega arith
    at_most_one false = omega arith

-- a page that was given up is no longer held
given_up : (x : PageState) → is_taken (after_give_up x) ≡ false
given_up Free = refl
given_up Old = refl
given_up GivenUp = refl
given_up Taken = refl
given_up Filled = refl

pub takes_given_up : (s t : ℕ → PageState) (page : ℕ) → SetsStateAt s t page (after_give_up (s page)) → TakesAtMost 0 s t
takes_given_up s t page states = takes_by s t [] (λ q. elim (cases_eq q page) [
  | inl e ↦ omega (arith, ap (λ p. one_of (is_taken (t p))) e, ap (λ x. one_of (is_taken x)) (changed_state s t page (after_give_up (s page)) states), ap one_of (given_up (s page)))
  | inr ne ↦ omega (arith, ap (λ x. one_of (is_taken x)) (other_states s t page (after_give_up (s page)) states q ne))
])

-- the held pages are no more than the pages that they are among
in_bits : (b : Bool) (n : ℕ) → (IsTrue b → 0 < n) → one_of b ≤ n
in_bits true n h = h refl
in_bits false n h = omega arith

hand_by : (n : ℕ) (page_state : ℕ → PageState) (ps : List ℕ) → HasInHand page_state ps → in_hand n page_state ≤ all_times n ps
unfolding all_times
hand_by zero page_state ps has = omega arith
hand_by (suc n) page_state ps has = omega (arith, in_bits (is_taken (page_state n)) (times n ps) (has n), hand_by n page_state ps has)

pub hand_size : (page_state : ℕ → PageState) (ps : List ℕ) → HasInHand page_state ps → (n : ℕ) → in_hand n page_state ≤ length ps
hand_size page_state ps has n = omega (arith, hand_by n page_state ps has, all_times_size n ps)

-- a page that changes while those in use are replaced
step_hand : {P : Type 0} {b a : ℕ} {s t : PageState} → PageStep P b a s t → one_of (is_taken t) ≤ one_of (is_taken s) + a
step_hand (untouched p) = omega arith
step_hand unused = omega arith
step_hand fresh = omega arith
step_hand (given_old p) = omega arith
step_hand given_new = omega arith
step_hand (stays_old p) = omega arith
step_hand stays_new = omega arith

step_has : {P : Type 0} {b a : ℕ} {s t : PageState} → (IsTrue (is_taken s) → 0 < b) → PageStep P b a s t → IsTrue (is_taken t) → 0 < a
step_has had (untouched p) taken = had taken
step_has had unused taken = absurd (false≢true taken)
step_has had (fresh {a}) taken = omega arith
step_has had (given_old p) taken = absurd (false≢true taken)
step_has had given_new taken = absurd (false≢true taken)
step_has had (stays_old p) taken = absurd (false≢true taken)
step_has had (stays_new {b} {a}) taken = omega arith

module _ {S K : Type 0} (kept_of : S → K) (page_state_of : S → ℕ → PageState) (words_of : S → ℕ → ℕ → ℕ) (before after : List ℕ) (old new : S) (swaps : Swaps kept_of page_state_of words_of before after old new) where
  pub takes_swaps : TakesAtMost (length after) (page_state_of old) (page_state_of new)
  takes_swaps = takes_by (page_state_of old) (page_state_of new) after (λ q. step_hand (swaps.each q))

  pub hand_swaps : HasInHand (page_state_of old) before → HasInHand (page_state_of new) after
  hand_swaps has q = step_has (has q) (swaps.each q)
