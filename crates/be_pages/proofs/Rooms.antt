-- A page writer's page states when its pool's places change.
use Rattle.std.proofs.Common.{◌≡◌, ℕ, suc, ◌+◌, ◌<◌, ◌≤◌, ◌==◌, ◌⊎◌, List, [], ◌∷◌, length, cond, Bool, true, false, if◌then◌else◌, ap, sym, subst, ◌∙◌, refl, inl, inr, arith, slice_set, count_by, map}
use Rattle.std.specs.Prelude.{IsTrue, slice_index_or}
use Rattle.std.proofs.lemmas.Bool.{cases_eq, cases_lt}
use Rattle.std.proofs.lemmas.List.{get_or_past, get_or-set_same, get_or-set_other, get_or_default, get_or-map, length-map, set_past}
use Rattle.std.proofs.lemmas.List.FromFn.{fill_by_all}
use Rattle.std.proofs.lemmas.List.Sums.{sum_by-cons}
use mathlib.Core.Bool.{false≢true}
use Rattle.be_pages.specs.declared.room.PageState.{PageState as AnyPageState}
use Rattle.be_pages.specs.declared.room.PageState.TheVariants as states
use Rattle.be_pages.specs.declared.page_pool.Place.{Place}
use Rattle.be_pages.specs.declared.page_pool.Place.TheVariants.{Free, Reserved, Filled, Current, GivenUp, Retired}
use Rattle.be_pages.specs.Pages.{SetsStateAt, after_give_up, after_keep, after_undo, is_held, is_readable, is_taken, is_takable as state_is_free}
use Rattle.be_pages.specs.Place.{given_place, is_free, is_held_page, is_in_hand, is_retired, kept_place, place_of, undone_place}
use Rattle.be_pages.specs.VecRoom.{page_state_in, page_state_of, page_states}
use Rattle.be_pages.proofs.PageSets.{same_test, other_test}

-- one page of the pool gets a new place
pub state_set : (P : List Place) (p : ℕ) (s : Place) → p < length P → SetsStateAt (page_state_in P) (page_state_in (slice_set P p s)) p (page_state_of s)
state_set P p s lt q = elim (cases_eq q p) [
  | inl e ↦ subst (λ r. page_state_in (slice_set P p s) r ≡ (if r == p then page_state_of s else page_state_in P r)) (sym e)
      (ap page_state_of (get_or-set_same P p s Free lt) ∙ sym (ap (λ (b : Bool). if b then page_state_of s else page_state_in P p) (same_test p)))
  | inr ne ↦ ap page_state_of (get_or-set_other P p q s Free ne) ∙ sym (ap (λ (b : Bool). if b then page_state_of s else page_state_in P q) (other_test q p ne))
]

-- each page has the state that the map gives it
pub state_map : (f : Place → Place) (g : AnyPageState → AnyPageState) → ((x : Place) → page_state_of (f x) ≡ g (page_state_of x)) → g states.Free ≡ states.Free → (P : List Place) (q : ℕ) → page_state_in (map f P) q ≡ g (page_state_in P q)
state_map f g same free P q = elim (cases_lt q (length P)) [
  | inl lt ↦ ap page_state_of (get_or-map f P q Free Free lt) ∙ same (slice_index_or P q Free)
  | inr past ↦ ap page_state_of (get_or_past (map f P) q Free (omega (arith, past, length-map P f))) ∙ sym free ∙ sym (ap (λ (x : Place). g (page_state_of x)) (get_or_past P q Free past))
]

pub state_kept : (x : Place) → page_state_of (kept_place x) ≡ after_keep (page_state_of x)
state_kept Free = refl
state_kept Reserved = refl
state_kept Filled = refl
state_kept Current = refl
state_kept GivenUp = refl
state_kept (Retired n) = refl

pub state_undone : (x : Place) → page_state_of (undone_place x) ≡ after_undo (page_state_of x)
state_undone Free = refl
state_undone Reserved = refl
state_undone Filled = refl
state_undone Current = refl
state_undone GivenUp = refl
state_undone (Retired n) = refl

pub state_given : (x : Place) → page_state_of (given_place x) ≡ after_give_up (page_state_of x)
state_given Free = refl
state_given Reserved = refl
state_given Filled = refl
state_given Current = refl
state_given GivenUp = refl
state_given (Retired n) = refl

-- no page is retired
pub unretired_kept : (x : Place) → is_retired (kept_place x) ≡ is_retired x
unretired_kept Free = refl
unretired_kept Reserved = refl
unretired_kept Filled = refl
unretired_kept Current = refl
unretired_kept GivenUp = refl
unretired_kept (Retired n) = refl

pub unretired_undone : (x : Place) → is_retired (undone_place x) ≡ is_retired x
unretired_undone Free = refl
unretired_undone Reserved = refl
unretired_undone Filled = refl
unretired_undone Current = refl
unretired_undone GivenUp = refl
unretired_undone (Retired n) = refl

pub unretired_given : (x : Place) → is_retired (given_place x) ≡ is_retired x
unretired_given Free = refl
unretired_given Reserved = refl
unretired_given Filled = refl
unretired_given Current = refl
unretired_given GivenUp = refl
unretired_given (Retired n) = refl

pub unretired_map : (f : Place → Place) → ((x : Place) → is_retired (f x) ≡ is_retired x) → (P : List Place) → ((q : ℕ) → is_retired (place_of P q) ≡ false) → (q : ℕ) → is_retired (place_of (map f P) q) ≡ false
unretired_map f same P none q = elim (cases_lt q (length P)) [
  | inl lt ↦ ap is_retired (get_or-map f P q Current Current lt) ∙ same (place_of P q) ∙ none q
  | inr past ↦ ap is_retired (get_or_past (map f P) q Current (omega (arith, past, length-map P f)))
]

pub unretired_set : (P : List Place) (p : ℕ) (s : Place) → is_retired s ≡ false → ((q : ℕ) → is_retired (place_of P q) ≡ false) → (q : ℕ) → is_retired (place_of (slice_set P p s) q) ≡ false
unretired_set P p s is none q = elim (cases_lt p (length P)) [
  | inl lt ↦ elim (cases_eq q p) [
    | inl e ↦ ap (λ (r : ℕ). is_retired (place_of (slice_set P p s) r)) e ∙ ap is_retired (get_or-set_same P p s Current lt) ∙ is
    | inr ne ↦ ap is_retired (get_or-set_other P p q s Current ne) ∙ none q
  ]
  | inr past ↦ ap (λ (xs : List Place). is_retired (place_of xs q)) (set_past P p s past) ∙ none q
]

-- what a page's state says about its place
pub page_state_past : (P : List Place) (p : ℕ) → length P ≤ p → page_state_in P p ≡ states.Free
page_state_past P p past = ap page_state_of (get_or_past P p Free past)

pub page_state_at : (P : List Place) (p : ℕ) → p < length P → page_state_in P p ≡ page_state_of (place_of P p)
page_state_at P p lt = ap page_state_of (get_or_default P p Free Current lt)

taken_place : (x : Place) → IsTrue (is_taken (page_state_of x)) → IsTrue (is_in_hand x)
taken_place Free h = absurd (false≢true h)
taken_place Reserved h = refl
taken_place Filled h = refl
taken_place Current h = absurd (false≢true h)
taken_place GivenUp h = absurd (false≢true h)
taken_place (Retired n) h = absurd (false≢true h)

held_place : (x : Place) → IsTrue (is_held (page_state_of x)) → IsTrue (is_held_page x)
held_place Free h = absurd (false≢true h)
held_place Reserved h = refl
held_place Filled h = refl
held_place Current h = refl
held_place GivenUp h = absurd (false≢true h)
held_place (Retired n) h = absurd (false≢true h)

pub held_inside : (P : List Place) (p : ℕ) → IsTrue (is_held (page_state_in P p)) → p < length P
held_inside P p h = elim (cases_lt p (length P)) [
  | inl lt ↦ lt
  | inr past ↦ absurd (false≢true (sym (ap is_held (page_state_past P p past)) ∙ h))
]

pub inside : (P : List Place) (p : ℕ) → IsTrue (is_taken (page_state_in P p)) → p < length P
inside P p h = elim (cases_lt p (length P)) [
  | inl lt ↦ lt
  | inr past ↦ absurd (false≢true (sym (ap is_taken (page_state_past P p past)) ∙ h))
]

-- a readable page is in the pool
pub read_inside : (P : List Place) (p : ℕ) → IsTrue (is_readable (page_state_in P p)) → p < length P
read_inside P p h = elim (cases_lt p (length P)) [
  | inl lt ↦ lt
  | inr past ↦ absurd (false≢true (sym (ap is_readable (page_state_past P p past)) ∙ h))
]

taken_same : (x : Place) → is_in_hand x ≡ is_taken (page_state_of x)
taken_same Free = refl
taken_same Reserved = refl
taken_same Filled = refl
taken_same Current = refl
taken_same GivenUp = refl
taken_same (Retired n) = refl

pub taken_is : (P : List Place) (p : ℕ) → p < length P → is_in_hand (place_of P p) ≡ is_taken (page_state_in P p)
taken_is P p lt = taken_same (place_of P p) ∙ sym (ap is_taken (page_state_at P p lt))

pub in_hand : (P : List Place) (p : ℕ) → IsTrue (is_taken (page_state_in P p)) → IsTrue (is_in_hand (place_of P p))
in_hand P p h = taken_place (place_of P p) (sym (ap is_taken (page_state_at P p (inside P p h))) ∙ h)

pub held_in_pool : (P : List Place) (p : ℕ) → IsTrue (is_held (page_state_in P p)) → IsTrue (is_held_page (place_of P p))
held_in_pool P p h = held_place (place_of P p) (sym (ap is_held (page_state_at P p (held_inside P p h))) ∙ h)

free_place : (x : Place) → is_retired x ≡ false → page_state_of x ≡ states.Free → x ≡ Free
free_place Free is e = refl
free_place Reserved is e = cc
free_place Filled is e = cc
free_place Current is e = cc
free_place GivenUp is e = cc
free_place (Retired n) is e = absurd (false≢true (sym is))

pub busy_place : (P : List Place) (q : ℕ) → q < length P → is_retired (place_of P q) ≡ false → (place_of P q ≡ Free → ⊥) → page_state_in P q ≡ states.Free → ⊥
busy_place P q lt is busy e = busy (free_place (place_of P q) is (sym (page_state_at P q lt) ∙ e))

-- the free pages, counted by their states
same_free : (x : Place) → is_retired x ≡ false → state_is_free (page_state_of x) ≡ is_free x
same_free Free is = refl
same_free Reserved is = refl
same_free Filled is = refl
same_free Current is = refl
same_free GivenUp is = refl
same_free (Retired n) is = absurd (false≢true (sym is))

count_map : (P : List Place) → ((q : ℕ) → is_retired (place_of P q) ≡ false) → count_by state_is_free (map page_state_of P) ≡ count_by is_free P
count_map [] none = refl
count_map (x ∷ xs) none =
    omega (
      arith,
      sum_by-cons (λ (s : AnyPageState). cond {A = ℕ} (state_is_free s) 1 0) (page_state_of x) (map page_state_of xs),
      sum_by-cons (λ (y : Place). cond {A = ℕ} (is_free y) 1 0) x xs,
      ap (λ (b : Bool). cond {A = ℕ} b 1 0) (same_free x (none 0)),
      count_map xs (λ q. none (suc q)),
    )

pub count_free : (P : List Place) → ((q : ℕ) → is_retired (place_of P q) ≡ false) → count_by is_free P ≡ count_by state_is_free (page_states P)
count_free P none = sym (count_map P none)
    ∙ ap (count_by state_is_free) (fill_by_all (page_state_in P) (map page_state_of P) (length P) states.Free (length-map P page_state_of) (λ k lt. get_or-map page_state_of P k Free states.Free lt))

-- what calls of `take` and `fill` use
pub ruleset taking = (state_set, unretired_set, busy_place)

-- a page in which a word has been filled keeps its state
pub filled_still : (P : List Place) (p : ℕ) → page_state_in P p ≡ states.Filled → SetsStateAt (page_state_in P) (page_state_in P) p states.Filled
filled_still P p h q = elim (cases_eq q p) [
  | inl e ↦ subst (λ r. page_state_in P r ≡ (if r == p then states.Filled else page_state_in P r)) (sym e)
      (h ∙ sym (ap (λ (b : Bool). if b then states.Filled else page_state_in P p) (same_test p)))
  | inr ne ↦ sym (ap (λ (b : Bool). if b then states.Filled else page_state_in P q) (other_test q p ne))
]

pub filled_inside : (P : List Place) (p : ℕ) → page_state_in P p ≡ states.Filled → p < length P
filled_inside P p h = read_inside P p (ap is_readable h)

pub ruleset refilling = (filled_still, filled_inside)

pub ruleset filling = (state_set, unretired_set, in_hand, inside)
