-- A pool's lists when one page's place changes.
use Rattle.std.proofs.Common.{◌≡◌, ℕ, suc, ◌+◌, ◌<◌, ◌≤◌, ◌==◌, List, [], ◌∷◌, ◌++◌, ◌||◌, length, drop, cond, Bool, true, false, if◌then◌else◌, ap, sym, subst, ◌∙◌, refl, inl, inr, arith, slice_set, count_by, map}
use Rattle.std.specs.Prelude.{IsTrue, slice_index}
use Rattle.std.proofs.lemmas.Bool.{cases_eq, cases_lt, le-ltb, lt-ltb}
use Rattle.std.proofs.lemmas.List.{get_or_past, get_or-set_same, get_or-set_other, get_or-drop, get_or_append_left, get_or_push, drop_more, length-drop, length-append, length-set, length-map, get_or-map, ext_get_or}
use Rattle.std.proofs.lemmas.List.Sums.{sum_by-cons, sum_by-set, count_by-le-length, get_or-le-sum_by}
use mathlib.Core.Bool.{false≢true}
use Rattle.be_pages.specs.declared.page_pool.Place.{Place}
use Rattle.be_pages.specs.declared.page_pool.Place.TheVariants.{Free, Reserved, Filled, Current, GivenUp, Retired}
use Rattle.be_pages.specs.declared.page_pool.Ending.{Ending}
use Rattle.be_pages.specs.declared.page_pool.Ending.TheVariants.{Published, Kept, Undone}
use Rattle.be_pages.specs.Pages.{times}
use Rattle.be_pages.specs.PageSet.{has_page, is_place, one_if}
use Rattle.be_pages.specs.Place.{is_free, is_held_page, is_idle, is_in_hand, is_retired, retired_number, retired_at, place_of, place_after, published_place, swept_place, IsNewest, IsOldestFirst}
use Rattle.be_pages.proofs.PageSets.{times_more, same_page, other_page, same_test, other_test}

pub in_hand : (x : Place) → IsTrue (is_in_hand x) → (is_free x ≡ false) × (is_retired x ≡ false) × (is_idle x ≡ false)
in_hand Free h = absurd (false≢true h)
in_hand Reserved h = (refl, refl, refl)
in_hand Filled h = (refl, refl, refl)
in_hand Current h = absurd (false≢true h)
in_hand GivenUp h = absurd (false≢true h)
in_hand (Retired n) h = absurd (false≢true h)

pub in_hand_inside : (P : List Place) (p : ℕ) → IsTrue (is_in_hand (place_of P p)) → p < length P
in_hand_inside P p h = elim (cases_lt p (length P)) [
  | inl lt ↦ lt
  | inr past ↦ absurd (false≢true (subst (λ (x : Place). IsTrue (is_in_hand x)) (get_or_past P p Current past) h))
]

pub held_unretired : (x : Place) → IsTrue (is_held_page x) → is_retired x ≡ false
held_unretired Free h = refl
held_unretired Reserved h = refl
held_unretired Filled h = refl
held_unretired Current h = refl
held_unretired GivenUp h = refl
held_unretired (Retired n) h = absurd (false≢true h)

pub free_unretired : (x : Place) → is_free x ≡ true → is_retired x ≡ false
free_unretired Free h = refl
free_unretired Reserved h = refl
free_unretired Filled h = refl
free_unretired Current h = refl
free_unretired GivenUp h = refl
free_unretired (Retired n) h = absurd (false≢true h)

pub retired_busy : (x : Place) → is_retired x ≡ true → is_free x ≡ false
retired_busy Free h = absurd (false≢true h)
retired_busy Reserved h = refl
retired_busy Filled h = refl
retired_busy Current h = refl
retired_busy GivenUp h = refl
retired_busy (Retired n) h = refl

pub retired_inside : (P : List Place) (p : ℕ) → is_retired (place_of P p) ≡ true → p < length P
retired_inside P p h = elim (cases_lt p (length P)) [
  | inl lt ↦ lt
  | inr past ↦ absurd (false≢true (sym (ap is_retired (get_or_past P p Current past)) ∙ h))
]

pub active : (x : Place) → is_idle x ≡ false → (is_free x ≡ false) × (is_retired x ≡ false)
active Free h = (absurd (false≢true (sym h)), refl)
active Reserved h = (refl, refl)
active Filled h = (refl, refl)
active Current h = (refl, refl)
active GivenUp h = (refl, refl)
active (Retired n) h = (refl, absurd (false≢true (sym h)))

-- a page that a write hasn't touched keeps its place when the write ends
pub idle_after : (ending : Ending) (x : Place) → is_idle x ≡ true → place_after ending x ≡ x
idle_after (Published n) Free h = refl
idle_after (Published n) Reserved h = absurd (false≢true h)
idle_after (Published n) Filled h = absurd (false≢true h)
idle_after (Published n) Current h = refl
idle_after (Published n) GivenUp h = absurd (false≢true h)
idle_after (Published n) (Retired r) h = refl
idle_after Kept Free h = refl
idle_after Kept Reserved h = absurd (false≢true h)
idle_after Kept Filled h = absurd (false≢true h)
idle_after Kept Current h = refl
idle_after Kept GivenUp h = absurd (false≢true h)
idle_after Kept (Retired r) h = refl
idle_after Undone Free h = refl
idle_after Undone Reserved h = absurd (false≢true h)
idle_after Undone Filled h = absurd (false≢true h)
idle_after Undone Current h = refl
idle_after Undone GivenUp h = absurd (false≢true h)
idle_after Undone (Retired r) h = refl

-- after a write ends, no page is one that a write has touched
pub after_idle : (ending : Ending) (x : Place) → is_idle (place_after ending x) ≡ true
after_idle (Published n) Free = refl
after_idle (Published n) Reserved = refl
after_idle (Published n) Filled = refl
after_idle (Published n) Current = refl
after_idle (Published n) GivenUp = refl
after_idle (Published n) (Retired r) = refl
after_idle Kept Free = refl
after_idle Kept Reserved = refl
after_idle Kept Filled = refl
after_idle Kept Current = refl
after_idle Kept GivenUp = refl
after_idle Kept (Retired r) = refl
after_idle Undone Free = refl
after_idle Undone Reserved = refl
after_idle Undone Filled = refl
after_idle Undone Current = refl
after_idle Undone GivenUp = refl
after_idle Undone (Retired r) = refl

-- if the end of a write retires a page, no page has a greater number
pub newest_after : (ending : Ending) (x : Place) (number : ℕ → ℕ) → IsNewest ending number → is_idle x ≡ false → is_retired (place_after ending x) ≡ true → (q : ℕ) → number q ≤ retired_number (place_after ending x)
newest_after (Published n) Free number new un is q = absurd (false≢true (sym un))
newest_after (Published n) Reserved number new un is q = absurd (false≢true is)
newest_after (Published n) Filled number new un is q = absurd (false≢true is)
newest_after (Published n) Current number new un is q = absurd (false≢true is)
newest_after (Published n) GivenUp number new un is q = new q
newest_after (Published n) (Retired r) number new un is q = absurd (false≢true (sym un))
newest_after Kept Free number new un is q = absurd (false≢true (sym un))
newest_after Kept Reserved number new un is q = absurd (false≢true is)
newest_after Kept Filled number new un is q = absurd (false≢true is)
newest_after Kept Current number new un is q = absurd (false≢true is)
newest_after Kept GivenUp number new un is q = absurd (false≢true is)
newest_after Kept (Retired r) number new un is q = absurd (false≢true (sym un))
newest_after Undone Free number new un is q = absurd (false≢true (sym un))
newest_after Undone Reserved number new un is q = absurd (false≢true is)
newest_after Undone Filled number new un is q = absurd (false≢true is)
newest_after Undone Current number new un is q = absurd (false≢true is)
newest_after Undone GivenUp number new un is q = absurd (false≢true is)
newest_after Undone (Retired r) number new un is q = absurd (false≢true (sym un))

number_after : (n : ℕ) (x : Place) → retired_number x ≤ n → retired_number (published_place n x) ≤ n
number_after n Free le = omega arith
number_after n Reserved le = omega arith
number_after n Filled le = omega arith
number_after n Current le = omega arith
number_after n GivenUp le = omega arith
number_after n (Retired r) le = le

-- a retired page below the minimum is free after a sweep
pub swept_free : (least : ℕ) (x : Place) → is_retired x ≡ true → retired_number x < least → swept_place least x ≡ Free
swept_free least Free is lt = absurd (false≢true is)
swept_free least Reserved is lt = absurd (false≢true is)
swept_free least Filled is lt = absurd (false≢true is)
swept_free least Current is lt = absurd (false≢true is)
swept_free least GivenUp is lt = absurd (false≢true is)
swept_free least (Retired n) is lt = ap (λ (b : Bool). if b then Free else Retired n) (lt-ltb n least lt)

pub swept_stays : (least : ℕ) (x : Place) → (is_retired x ≡ true → least ≤ retired_number x) → swept_place least x ≡ x
swept_stays least Free h = refl
swept_stays least Reserved h = refl
swept_stays least Filled h = refl
swept_stays least Current h = refl
swept_stays least GivenUp h = refl
swept_stays least (Retired n) h = ap (λ (b : Bool). if b then Free else Retired n) (le-ltb n least (h refl))

-- lists of places that agree place by place
pub places_map : (f : Place → Place) (new old : List Place) → f Current ≡ Current → length new ≡ length old → ((q : ℕ) → place_of new q ≡ f (place_of old q)) → new ≡ map f old
places_map f new old stays len each = ext_get_or Current new (map f old) (len ∙ sym (length-map old f)) (λ q lt. each q ∙ sym (get_or-map f old q Current Current (omega (arith, lt, len))))

-- how many pages two disjoint sets have
pub count_free : (f : Place → Bool) (plain spare : List ℕ) (P : List Place) → length plain ≡ length P → length spare ≡ length P → ((q : ℕ) → (has_page plain q || has_page spare q) ≡ f (place_of P q))
    → ((q : ℕ) → has_page plain q ≡ true → has_page spare q ≡ false) → count_by is_place plain + count_by is_place spare ≡ count_by f P
unfolding has_page
count_free f [] [] [] len same h apart = refl
count_free f [] [] (y ∷ ys) len same h apart = absurd (omega (arith, len))
count_free f [] (z ∷ zs) [] len same h apart = absurd (omega (arith, same))
count_free f [] (z ∷ zs) (y ∷ ys) len same h apart = absurd (omega (arith, len))
count_free f (x ∷ xs) [] [] len same h apart = absurd (omega (arith, len))
count_free f (x ∷ xs) [] (y ∷ ys) len same h apart = absurd (omega (arith, same))
count_free f (x ∷ xs) (z ∷ zs) [] len same h apart = absurd (omega (arith, len))
count_free f (x ∷ xs) (z ∷ zs) (y ∷ ys) len same h apart =
    omega (
      arith,
      sum_by-cons (λ (n : ℕ). cond {A = ℕ} (is_place n) 1 0) x xs,
      sum_by-cons (λ (n : ℕ). cond {A = ℕ} (is_place n) 1 0) z zs,
      sum_by-cons (λ (p : Place). cond {A = ℕ} (f p) 1 0) y ys,
      of_one (is_place x) (is_place z) (apart 0),
      ap (λ (b : Bool). cond {A = ℕ} b 1 0) (h 0),
      count_free f xs zs ys (omega (arith, len)) (omega (arith, same)) (λ q. h (suc q)) (λ q. apart (suc q)),
    )
  where
    of_one : (a b : Bool) → (a ≡ true → b ≡ false) → cond {A = ℕ} a 1 0 + cond {A = ℕ} b 1 0 ≡ cond {A = ℕ} (a || b) 1 0
    of_one true b apart = ap (λ (c : Bool). 1 + cond {A = ℕ} c 1 0) (apart refl)
    of_one false true apart = refl
    of_one false false apart = refl

-- if no page passes a test, none is counted
pub count_none : (f : Place → Bool) (P : List Place) → ((q : ℕ) → f (place_of P q) ≡ false) → count_by f P ≡ 0
count_none f [] h = refl
count_none f (y ∷ ys) h = omega (arith, sum_by-cons (λ (p : Place). cond {A = ℕ} (f p) 1 0) y ys, ap (λ (b : Bool). cond {A = ℕ} b 1 0) (h 0), count_none f ys (λ q. h (suc q)))

-- a page in the queue occurs there at least once
pub at_most_once : (queue : List ℕ) (i : ℕ) → i < length queue → 1 ≤ times (slice_index queue i) queue
at_most_once queue i lt =
    let x : ℕ = slice_index queue i in
    omega (arith, get_or-le-sum_by (λ (p : ℕ). cond {A = ℕ} (p == x) 1 0) queue i 0 lt, same_page x)

-- a page that is in the queue has a position there
pub find_place : (queue : List ℕ) (q : ℕ) → 0 < times q queue → (i : ℕ) × (i < length queue) × (slice_index queue i ≡ q)
find_place [] q some = absurd (omega (arith, some))
find_place (x ∷ xs) q some = elim (cases_eq x q) [
  | inl e ↦ (0, omega arith, e)
  | inr ne ↦ let rest : (i : ℕ) × (i < length xs) × (slice_index xs i ≡ q) =
      find_place xs q (omega (arith, some, sum_by-cons (λ (p : ℕ). cond {A = ℕ} (p == q) 1 0) x xs, other_page q x (λ e. ne (sym e)))) in
      (suc rest.0, omega (arith, rest.1), rest.2)
]

oldest_frame : (num new : ℕ → ℕ) (queue : List ℕ) → ((i : ℕ) → i < length queue → new (slice_index queue i) ≡ num (slice_index queue i)) → IsOldestFirst num queue → IsOldestFirst new queue
oldest_frame num new queue same order i j le lt = omega (arith, same i (omega (arith, le, lt)), same j lt, order i j le lt)

oldest_push : (num : ℕ → ℕ) (queue : List ℕ) (p : ℕ) → IsOldestFirst num queue → ((i : ℕ) → i < length queue → num (slice_index queue i) ≤ num p) → IsOldestFirst num (queue ++ p ∷ [])
oldest_push num queue p order most i j le lt = elim (cases_lt j (length queue)) [
  | inl within ↦ omega (arith, order i j le within, ap num (get_or_append_left queue (p ∷ []) 0 i (omega (arith, le, within))), ap num (get_or_append_left queue (p ∷ []) 0 j within))
  | inr past ↦
      let last : j ≡ length queue = omega (arith, past, lt, length-append queue (p ∷ [])) in
      let top : slice_index (queue ++ p ∷ []) j ≡ p = get_or_push queue p 0 j (sym last) in
      elim (cases_lt i (length queue)) [
        | inl before ↦ omega (arith, most i before, ap num (get_or_append_left queue (p ∷ []) 0 i before), ap num top)
        | inr at ↦ let e : i ≡ j = omega (arith, at, le, last) in omega (arith, ap (λ (k : ℕ). num (slice_index (queue ++ p ∷ []) k)) e)
      ]
]

oldest_drop : (num : ℕ → ℕ) (queue : List ℕ) → IsOldestFirst num queue → IsOldestFirst num (drop 1 queue)
oldest_drop num queue order i j le lt =
    omega (arith, order (1 + i) (1 + j) (omega (arith, le)) (omega (arith, lt, length-drop 1 queue)), ap num (get_or-drop 1 queue i 0), ap num (get_or-drop 1 queue j 0))

queue_top : (queue : List ℕ) → 0 < length queue → queue ≡ slice_index queue 0 ∷ drop 1 queue
queue_top queue some = drop_more queue 0 0 some

-- one page gets a new place
module _ (P : List Place) (p : ℕ) (s : Place) (lt : p < length P) where
  pub here : place_of (slice_set P p s) p ≡ s
  here = get_or-set_same P p s Current lt

  pub there : (q : ℕ) → (q ≡ p → ⊥) → place_of (slice_set P p s) q ≡ place_of P q
  there q ne = get_or-set_other P p q s Current ne

  -- the result of a test for each page
  pub flags_same : (f : Place → Bool) (flags : ℕ → Bool) → ((q : ℕ) → flags q ≡ f (place_of P q)) → f (place_of P p) ≡ f s → (q : ℕ) → flags q ≡ f (place_of (slice_set P p s) q)
  flags_same f flags is same q = elim (cases_eq q p) [
    | inl e ↦ subst (λ r. flags r ≡ f (place_of (slice_set P p s) r)) (sym e) (is p ∙ same ∙ sym (ap f here))
    | inr ne ↦ is q ∙ ap f (sym (there q ne))
  ]

  pub flags_to : (f : Place → Bool) (b : Bool) (flags new : ℕ → Bool) → ((q : ℕ) → flags q ≡ f (place_of P q)) → ((q : ℕ) → new q ≡ (if q == p then b else flags q)) → f s ≡ b
      → (q : ℕ) → new q ≡ f (place_of (slice_set P p s) q)
  flags_to f b flags new is to same q = elim (cases_eq q p) [
    | inl e ↦ subst (λ r. new r ≡ f (place_of (slice_set P p s) r)) (sym e) (to p ∙ ap (λ (c : Bool). if c then b else flags p) (same_test p) ∙ sym same ∙ sym (ap f here))
    | inr ne ↦ to q ∙ ap (λ (c : Bool). if c then b else flags q) (other_test q p ne) ∙ is q ∙ ap f (sym (there q ne))
  ]

  -- the pages that the write touched are among those that wait
  pub touches_to : (b : Bool) (flags new : List ℕ) → ((q : ℕ) → is_idle (place_of P q) ≡ false → has_page flags q ≡ true) → ((q : ℕ) → has_page new q ≡ (if q == p then b else has_page flags q)) → (is_idle s ≡ false → b ≡ true)
      → (q : ℕ) → is_idle (place_of (slice_set P p s) q) ≡ false → has_page new q ≡ true
  touches_to b flags new touches to is q un = elim (cases_eq q p) [
    | inl e ↦ subst (λ r. has_page new r ≡ true) (sym e) (to p ∙ ap (λ (c : Bool). if c then b else has_page flags p) (same_test p) ∙ is (sym (ap is_idle here) ∙ ap (λ r. is_idle (place_of (slice_set P p s) r)) (sym e) ∙ un))
    | inr ne ↦ to q ∙ ap (λ (c : Bool). if c then b else has_page flags q) (other_test q p ne) ∙ touches q (ap is_idle (sym (there q ne)) ∙ un)
  ]

  pub touches_same : (flags : List ℕ) → ((q : ℕ) → is_idle (place_of P q) ≡ false → has_page flags q ≡ true) → (is_idle s ≡ false → is_idle (place_of P p) ≡ false)
      → (q : ℕ) → is_idle (place_of (slice_set P p s) q) ≡ false → has_page flags q ≡ true
  touches_same flags touches is q un = elim (cases_eq q p) [
    | inl e ↦ subst (λ r. has_page flags r ≡ true) (sym e) (touches p (is (sym (ap is_idle here) ∙ ap (λ r. is_idle (place_of (slice_set P p s) r)) (sym e) ∙ un)))
    | inr ne ↦ touches q (ap is_idle (sym (there q ne)) ∙ un)
  ]

  -- how many pass a test
  pub counted : (f : Place → Bool) → count_by f (slice_set P p s) + one_if (f (place_of P p)) ≡ count_by f P + one_if (f s)
  counted f = omega (arith, sum_by-set (λ (x : Place). cond {A = ℕ} (f x) 1 0) P p s Current lt, is_one (f (place_of P p)), is_one (f s))
    where
      is_one : (b : Bool) → one_if b ≡ cond {A = ℕ} b 1 0
      is_one true = refl
      is_one false = refl

  pub count_same : is_retired (place_of P p) ≡ is_retired s → count_by is_retired (slice_set P p s) ≡ count_by is_retired P
  count_same e = omega (arith, counted is_retired, ap one_if e)

  pub count_more : is_retired (place_of P p) ≡ false → is_retired s ≡ true → count_by is_retired (slice_set P p s) ≡ count_by is_retired P + 1
  count_more was is = omega (arith, counted is_retired, ap one_if was, ap one_if is)

  pub count_less : is_retired (place_of P p) ≡ true → is_retired s ≡ false → count_by is_retired (slice_set P p s) + 1 ≡ count_by is_retired P
  count_less was is = omega (arith, counted is_retired, ap one_if was, ap one_if is)

  pub passes_same : (f : Place → Bool) → f (place_of P p) ≡ f s → count_by f (slice_set P p s) ≡ count_by f P
  passes_same f e = omega (arith, counted f, ap one_if e)

  pub passes_more : (f : Place → Bool) → f (place_of P p) ≡ false → f s ≡ true → count_by f (slice_set P p s) ≡ count_by f P + 1
  passes_more f was is = omega (arith, counted f, ap one_if was, ap one_if is)

  pub passes_less : (f : Place → Bool) → f (place_of P p) ≡ true → f s ≡ false → count_by f (slice_set P p s) + 1 ≡ count_by f P
  passes_less f was is = omega (arith, counted f, ap one_if was, ap one_if is)

  pub count_room : is_retired (place_of P p) ≡ false → is_retired s ≡ true → count_by is_retired P < length P
  count_room was is = omega (arith, count_more was is, count_by-le-length is_retired (slice_set P p s), length-set P p s)

  -- which pages the queue has
  module _ (queue : List ℕ) (retires : (q : ℕ) → times q queue ≡ one_if (is_retired (place_of P q))) where
    pub retires_same : is_retired (place_of P p) ≡ is_retired s → (q : ℕ) → times q queue ≡ one_if (is_retired (place_of (slice_set P p s) q))
    retires_same same q = elim (cases_eq q p) [
      | inl e ↦ subst (λ r. times r queue ≡ one_if (is_retired (place_of (slice_set P p s) r))) (sym e) (retires p ∙ ap one_if same ∙ sym (ap (λ (x : Place). one_if (is_retired x)) here))
      | inr ne ↦ retires q ∙ ap (λ (x : Place). one_if (is_retired x)) (sym (there q ne))
    ]

    pub retires_more : is_retired (place_of P p) ≡ false → is_retired s ≡ true → (q : ℕ) → times q (queue ++ p ∷ []) ≡ one_if (is_retired (place_of (slice_set P p s) q))
    retires_more was is q = elim (cases_eq q p) [
      | inl e ↦ subst (λ r. times r (queue ++ p ∷ []) ≡ one_if (is_retired (place_of (slice_set P p s) r))) (sym e)
          (omega (arith, times_more p p queue, same_page p, retires p, ap one_if was, ap (λ (x : Place). one_if (is_retired x)) here, ap one_if is))
      | inr ne ↦ omega (arith, times_more q p queue, other_page q p ne, retires q, ap (λ (x : Place). one_if (is_retired x)) (there q ne))
    ]

    first_out : 0 < length queue → p ≡ slice_index queue 0 → (q : ℕ) → times q queue ≡ cond {A = ℕ} (p == q) 1 0 + times q (drop 1 queue)
    first_out some top q =
        omega (arith, ap (times q) (queue_top queue some), sum_by-cons (λ (r : ℕ). cond {A = ℕ} (r == q) 1 0) (slice_index queue 0) (drop 1 queue), ap (λ (r : ℕ). cond {A = ℕ} (r == q) 1 0) top)

    pub retires_less : 0 < length queue → p ≡ slice_index queue 0 → is_retired s ≡ false → is_retired (place_of P p) ≡ true → (q : ℕ) → times q (drop 1 queue) ≡ one_if (is_retired (place_of (slice_set P p s) q))
    retires_less some top is was q = elim (cases_eq q p) [
      | inl e ↦ subst (λ r. times r (drop 1 queue) ≡ one_if (is_retired (place_of (slice_set P p s) r))) (sym e)
          (omega (arith, first_out some top p, same_page p, retires p, ap one_if was, ap (λ (x : Place). one_if (is_retired x)) here, ap one_if is))
      | inr ne ↦ omega (arith, first_out some top q, other_page q p ne, retires q, ap (λ (x : Place). one_if (is_retired x)) (there q ne))
    ]

    not_queued : is_retired (place_of P p) ≡ false → (i : ℕ) → i < length queue → slice_index queue i ≡ p → ⊥
    not_queued was i within e = absurd (omega (arith, at_most_once queue i within, ap (λ (r : ℕ). times r queue) e, retires p, ap one_if was))

    pub order_same : is_retired (place_of P p) ≡ false → IsOldestFirst (retired_at P) queue → IsOldestFirst (retired_at (slice_set P p s)) queue
    order_same was order = oldest_frame (retired_at P) (retired_at (slice_set P p s)) queue (λ i within. ap retired_number (there (slice_index queue i) (not_queued was i within))) order

    pub order_more : is_retired (place_of P p) ≡ false → ((q : ℕ) → retired_at P q ≤ retired_number s) → IsOldestFirst (retired_at P) queue → IsOldestFirst (retired_at (slice_set P p s)) (queue ++ p ∷ [])
    order_more was newest order = oldest_push (retired_at (slice_set P p s)) queue p (order_same was order)
        (λ i within. omega (arith, ap retired_number (there (slice_index queue i) (not_queued was i within)), newest (slice_index queue i), ap retired_number here))

    pub order_less : 0 < length queue → p ≡ slice_index queue 0 → is_retired (place_of P p) ≡ true → IsOldestFirst (retired_at P) queue → IsOldestFirst (retired_at (slice_set P p s)) (drop 1 queue)
    order_less some top was order = oldest_frame (retired_at P) (retired_at (slice_set P p s)) (drop 1 queue) (λ i within. ap retired_number (there (slice_index (drop 1 queue) i) (gone i within))) (oldest_drop (retired_at P) queue order)
      where
        gone : (i : ℕ) → i < length (drop 1 queue) → slice_index (drop 1 queue) i ≡ p → ⊥
        gone i within e = absurd (omega (arith, at_most_once (drop 1 queue) i within, ap (λ (r : ℕ). times r (drop 1 queue)) e, first_out some top p, same_page p, retires p, ap one_if was))

  -- the invariant of a loop over the waiting pages
  pub done_to : (after : Place → Place) (start : List Place) (flags new : List ℕ) → ((q : ℕ) → has_page flags q ≡ false → place_of P q ≡ after (place_of start q)) → ((q : ℕ) → has_page new q ≡ (if q == p then false else has_page flags q))
      → s ≡ after (place_of start p) → (q : ℕ) → has_page new q ≡ false → place_of (slice_set P p s) q ≡ after (place_of start q)
  done_to after start flags new done to is q not = elim (cases_eq q p) [
    | inl e ↦ subst (λ r. place_of (slice_set P p s) r ≡ after (place_of start r)) (sym e) (here ∙ is)
    | inr ne ↦ there q ne ∙ done q (sym (to q ∙ ap (λ (c : Bool). if c then false else has_page flags q) (other_test q p ne)) ∙ not)
  ]

  pub waiting_to : (start : List Place) (flags new : List ℕ) → ((q : ℕ) → has_page flags q ≡ true → place_of P q ≡ place_of start q) → ((q : ℕ) → has_page new q ≡ (if q == p then false else has_page flags q))
      → (q : ℕ) → has_page new q ≡ true → place_of (slice_set P p s) q ≡ place_of start q
  waiting_to start flags new waiting to q is = elim (cases_eq q p) [
    | inl e ↦ absurd (false≢true (sym (to p ∙ ap (λ (c : Bool). if c then false else has_page flags p) (same_test p)) ∙ ap (has_page new) (sym e) ∙ is))
    | inr ne ↦ there q ne ∙ waiting q (sym (to q ∙ ap (λ (c : Bool). if c then false else has_page flags q) (other_test q p ne)) ∙ is)
  ]

  pub newest_set : (ending : Ending) → IsNewest ending (retired_at P) → s ≡ place_after ending (place_of P p) → IsNewest ending (retired_at (slice_set P p s))
  newest_set (Published n) new is = λ q. elim (cases_eq q p) [
    | inl e ↦ omega (arith, number_after n (place_of P p) (new p), ap retired_number (here ∙ is), ap (retired_at (slice_set P p s)) e)
    | inr ne ↦ omega (arith, new q, ap retired_number (there q ne))
  ]
  newest_set Kept new is = tt
  newest_set Undone new is = tt

  pub swept_set : (least : ℕ) (start : List Place) → ((q : ℕ) → swept_place least (place_of P q) ≡ swept_place least (place_of start q)) → swept_place least (place_of P p) ≡ swept_place least s
      → (q : ℕ) → swept_place least (place_of (slice_set P p s) q) ≡ swept_place least (place_of start q)
  swept_set least start swept same q = elim (cases_eq q p) [
    | inl e ↦ subst (λ r. swept_place least (place_of (slice_set P p s) r) ≡ swept_place least (place_of start r)) (sym e) (ap (swept_place least) here ∙ sym same ∙ swept p)
    | inr ne ↦ ap (swept_place least) (there q ne) ∙ swept q
  ]

-- if the oldest page has to wait, every page has to wait
pub none_expired : (P : List Place) (queue : List ℕ) → ((q : ℕ) → times q queue ≡ one_if (is_retired (place_of P q))) → (least : ℕ) → IsOldestFirst (retired_at P) queue → (0 < length queue → least ≤ retired_at P (slice_index queue 0)) → (q : ℕ) → swept_place least (place_of P q) ≡ place_of P q
none_expired P queue retires least order waits q = swept_stays least (place_of P q) (λ is.
    let at : (i : ℕ) × (i < length queue) × (slice_index queue i ≡ q) = find_place queue q (omega (arith, retires q, ap one_if is)) in
    omega (arith, waits (omega (arith, at.1)), order 0 at.0 (omega arith) at.1, ap (retired_at P) at.2))

-- a place that is neither free nor retired passes neither test
pub other_place : (s : Place) → (s ≡ Free → ⊥) → ((n : ℕ) → s ≡ Retired n → ⊥) → (is_free s ≡ false) × (is_retired s ≡ false)
other_place Free free retired = absurd (free refl)
other_place Reserved free retired = (refl, refl)
other_place Filled free retired = (refl, refl)
other_place Current free retired = (refl, refl)
other_place GivenUp free retired = (refl, refl)
other_place (Retired n) free retired = absurd (retired n refl)

-- a page that has been settled no longer waits
pub done_less : (after : Place → Place) (P start : List Place) (p : ℕ) (flags new : List ℕ) → ((q : ℕ) → has_page flags q ≡ false → place_of P q ≡ after (place_of start q)) → ((q : ℕ) → has_page new q ≡ (if q == p then false else has_page flags q))
    → place_of P p ≡ after (place_of start p) → (q : ℕ) → has_page new q ≡ false → place_of P q ≡ after (place_of start q)
done_less after P start p flags new done to is q not = elim (cases_eq q p) [
  | inl e ↦ subst (λ r. place_of P r ≡ after (place_of start r)) (sym e) is
  | inr ne ↦ done q (sym (to q ∙ ap (λ (c : Bool). if c then false else has_page flags q) (other_test q p ne)) ∙ not)
]

pub waiting_less : (P start : List Place) (p : ℕ) (flags new : List ℕ) → ((q : ℕ) → has_page flags q ≡ true → place_of P q ≡ place_of start q) → ((q : ℕ) → has_page new q ≡ (if q == p then false else has_page flags q))
    → (q : ℕ) → has_page new q ≡ true → place_of P q ≡ place_of start q
waiting_less P start p flags new waiting to q is = elim (cases_eq q p) [
  | inl e ↦ absurd (false≢true (sym (to p ∙ ap (λ (c : Bool). if c then false else has_page flags p) (same_test p)) ∙ ap (has_page new) (sym e) ∙ is))
  | inr ne ↦ waiting q (sym (to q ∙ ap (λ (c : Bool). if c then false else has_page flags q) (other_test q p ne)) ∙ is)
]

pub touches_less : (P : List Place) (p : ℕ) (flags new : List ℕ) → ((q : ℕ) → is_idle (place_of P q) ≡ false → has_page flags q ≡ true) → ((q : ℕ) → has_page new q ≡ (if q == p then false else has_page flags q)) → is_idle (place_of P p) ≡ true
    → (q : ℕ) → is_idle (place_of P q) ≡ false → has_page new q ≡ true
touches_less P p flags new touches to is q un = elim (cases_eq q p) [
  | inl e ↦ absurd (false≢true (sym un ∙ ap (λ r. is_idle (place_of P r)) e ∙ is))
  | inr ne ↦ to q ∙ ap (λ (c : Bool). if c then false else has_page flags q) (other_test q p ne) ∙ touches q un
]
