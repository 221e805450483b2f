-- The states of the pages in a writer state.
use Rattle.std.proofs.Common.{◌≡◌, ◌≢◌, ℕ, zero, suc, [], ◌∷◌, Ok, Err, ◌+◌, ◌<◌, ◌≤◌, List, length, map, Bool, true, false, nat_lt, if◌then◌else◌, refl, sym, ap, ◌∙◌, inl, inr, arith}
use Rattle.std.specs.Prelude.{Result, IfErr, OnErr, IsTrue, slice_index_or}
use Rattle.std.proofs.lemmas.Bool.{cases_lt}
use Rattle.std.proofs.lemmas.List.{get_or_default, get_or_past}
use borrow.Author.Tests.{lt-ltb, le-ltb}
use mathlib.Core.Bool.{false≢true}
use Rattle.be_core.specs.Machine.{World, Sound, bit, set_count}
use Rattle.be_pages.specs.declared.room.PageState.TheVariants.{Free as Nowhere, Taken, Filled as Full}
use Rattle.be_pages.specs.declared.page_pool.Place.{Place}
use Rattle.be_pages.specs.declared.page_pool.Place.TheVariants.{Free, Reserved, Filled, Current, GivenUp, Retired}
use Rattle.be_pages.specs.Pages.{is_readable, is_taken}
use Rattle.be_pages.specs.Place.{is_in_hand, place_of, swept_place, undone_place}
use Rattle.be_pages.specs.Refusal.{IsFullOf}
use Rattle.be_table.specs.WriterState.{ShowsPlaces, shows_free, shows_taken, is_current, retired_with}
use Rattle.be_table.specs.Place.{Work}
use Rattle.be_table.specs.Reading.{page_state_at, page_state_among, page_state_in_work}
use Rattle.be_table.specs.Versions.{at_start}
use Rattle.be_table.specs.Works.{FindsNone}
use Rattle.be_value.specs.declared.refusals.Refusal.{Refusal}
use Rattle.be_table.proofs.WriterStates.{place-map}
use Rattle.be_table.specs.Rule.{largest_pool}

-- the sets of a page with this place
one_place : (x : Place) (r : Bool) → bit (shows_free x) + bit (shows_taken x) + bit (Rattle.std.specs.Prelude.is_some (retired_with x)) + bit r ≡ 1 → r ≡ is_current x
one_place Free true e = absurd (omega (arith, e))
one_place Free false e = refl
one_place Reserved true e = absurd (omega (arith, e))
one_place Reserved false e = refl
one_place Filled true e = absurd (omega (arith, e))
one_place Filled false e = refl
one_place Current true e = refl
one_place Current false e = absurd (omega (arith, e))
one_place GivenUp true e = refl
one_place GivenUp false e = absurd (omega (arith, e))
one_place (Retired n) true e = absurd (omega (arith, e))
one_place (Retired n) false e = refl

no_place : (f t o r : Bool) → bit f + bit t + bit o + bit r ≡ 0 → r ≡ false
no_place f t o false e = refl
no_place f t o true e = absurd (omega (arith, e))

module _ (xs : List Place) (w : World) (s : Sound w) (shown : ShowsPlaces xs w) (count : length xs ≡ w.pages) where
  -- the current version has the pages that the writer state says it has
  pub reach_shown : (q : ℕ) → q < length xs → w.reach w.current q ≡ is_current (place_of xs q)
  reach_shown q lt =
      let p : set_count w q ≡ bit (nat_lt q w.pages) = s.partition q in
      let in_range : nat_lt q w.pages ≡ true = lt-ltb q w.pages (omega arith) in
      one_place (place_of xs q) (w.reach w.current q) (rw (← shown.free q, ← shown.taken q, ← shown.retired q) (p ∙ ap bit in_range))

  pub reach_past : (q : ℕ) → length xs ≤ q → w.reach w.current q ≡ false
  reach_past q le =
      let p : set_count w q ≡ bit (nat_lt q w.pages) = s.partition q in
      let past : nat_lt q w.pages ≡ false = le-ltb q w.pages (omega arith) in
      no_place (w.free q) (w.taken q) (Rattle.std.specs.Prelude.is_some (w.retired q)) (w.reach w.current q) (p ∙ ap bit past)

  -- while no pass writes
  pub begun : length xs ≤ largest_pool → map undone_place xs ≡ xs → (q : ℕ) → page_state_among xs q ≡ at_start (w.reach w.current q)
  begun few idle q = elim (cases_lt q (length xs)) [
    | inl lt ↦
        let in_range : nat_lt q largest_pool ≡ true = lt-ltb q largest_pool (omega (arith, lt, few)) in
        let place : slice_index_or xs q Free ≡ place_of xs q = get_or_default xs q Free Current lt in
        let same : place_of xs q ≡ undone_place (place_of xs q) = ap (λ l. place_of l q) (sym idle) ∙ place-map undone_place refl xs q in
        rw (in_range, place, reach_shown q lt) (by_place (place_of xs q) same)
    | inr le ↦ rw (get_or_past xs q Free le, reach_past q le) (nowhere (nat_lt q largest_pool))
  ]
    where
      by_place : (x : Place) → x ≡ undone_place x → page_state_at x ≡ at_start (is_current x)
      by_place Free e = refl
      by_place Reserved e = absurd (cc)
      by_place Filled e = absurd (cc)
      by_place Current e = refl
      by_place GivenUp e = absurd (cc)
      by_place (Retired r) e = refl

      nowhere : (b : Bool) → (if b then Nowhere else Nowhere) ≡ Nowhere
      nowhere true = refl
      nowhere false = refl

-- a page whose state is filled is a page of the table
pub filled_place : (xs : List Place) (q : ℕ) → page_state_among xs q ≡ Full → (q < length xs) × (place_of xs q ≡ Filled)
filled_place xs q is = elim (cases_lt q (length xs)) [
  | inl lt ↦ (lt, by_place (place_of xs q) (nat_lt q largest_pool) (ap (λ x. if nat_lt q largest_pool then page_state_at x else Nowhere) (sym (get_or_default xs q Free Current lt)) ∙ is))
  | inr le ↦ absurd (none (nat_lt q largest_pool) (ap (λ x. if nat_lt q largest_pool then page_state_at x else Nowhere) (sym (get_or_past xs q Free le)) ∙ is))
]
  where
    none : (b : Bool) → (if b then Nowhere else Nowhere) ≡ Full → ⊥
    none true e = cc
    none false e = cc

    by_place : (x : Place) (b : Bool) → (if b then page_state_at x else Nowhere) ≡ Full → x ≡ Filled
    by_place Filled b e = refl
    by_place Free true e = absurd (cc)
    by_place Reserved true e = absurd (cc)
    by_place Current true e = absurd (cc)
    by_place GivenUp true e = absurd (cc)
    by_place (Retired r) true e = absurd (cc)
    by_place Free false e = absurd (cc)
    by_place Reserved false e = absurd (cc)
    by_place Current false e = absurd (cc)
    by_place GivenUp false e = absurd (cc)
    by_place (Retired r) false e = absurd (cc)

-- if no page of the table is free, no page is
pub none_past : (xs : List Place) → ((p : ℕ) → p < length xs → place_of xs p ≢ Free) → (p : ℕ) → place_of xs p ≢ Free
none_past xs none p is = elim (cases_lt p (length xs)) [
  | inl lt ↦ none p lt is
  | inr le ↦ absurd (let past : place_of xs p ≡ Current = get_or_past xs p Current le in let e : Current ≡ Free = sym past ∙ is in cc)
]

-- if no page's state is taken, none is reserved
pub unreserved : (xs : List Place) (q : ℕ) → page_state_among xs q ≢ Taken → length xs ≤ largest_pool → place_of xs q ≢ Reserved
unreserved xs q none few is = elim (cases_lt q (length xs)) [
  | inl lt ↦
      let in_range : nat_lt q largest_pool ≡ true = lt-ltb q largest_pool (omega (arith, lt, few)) in
      let place : slice_index_or xs q Free ≡ place_of xs q = get_or_default xs q Free Current lt in
      none (rw (in_range, place, is) refl)
  | inr le ↦ absurd (let past : place_of xs q ≡ Current = get_or_past xs q Current le in let e : Current ≡ Reserved = sym past ∙ is in cc)
]

-- a scan doesn't change the states of the pages that it frees
swept_page_state : (l : ℕ) (x : Place) → page_state_at (swept_place l x) ≡ page_state_at x
swept_page_state l Free = refl
swept_page_state l Reserved = refl
swept_page_state l Filled = refl
swept_page_state l Current = refl
swept_page_state l GivenUp = refl
swept_page_state l (Retired r) = by (nat_lt r l)
  where
    by : (b : Bool) → page_state_at (if b then Free else Retired r) ≡ page_state_at (Retired r)
    by true = refl
    by false = refl

pub swept_in : (l : ℕ) (xs : List Place) (q : ℕ) → page_state_among (map (swept_place l) xs) q ≡ page_state_among xs q
swept_in l xs q = ap (λ s. if nat_lt q largest_pool then s else Nowhere) (by xs q)
  where
    by : (xs : List Place) (k : ℕ) → page_state_at (slice_index_or (map (swept_place l) xs) k Free) ≡ page_state_at (slice_index_or xs k Free)
    by [] k = refl
    by (x ∷ xs) zero = swept_page_state l x
    by (x ∷ xs) (suc k) = by xs k

-- if no page was found, the states are unchanged
pub full_stays : {X : Type 0} (r : Result X Refusal) (old new : Work) → IfErr r (IsFullOf (FindsNone old new)) → OnErr r (page_state_in_work new ≡ page_state_in_work old)
full_stays (Ok x) old new h = tt
full_stays (Err e) old new h =
    let lies : (q : ℕ) → page_state_in_work new q ≡ page_state_in_work old q = λ q. ap (λ ps. page_state_among ps q) h.2.scan.places ∙ swept_in h.0 old.knows.places q in λ k q. lies q k

-- a readable page is a page of the table, and its place says whether the write has taken it
pub readable_inside : (xs : List Place) (q : ℕ) → IsTrue (is_readable (page_state_among xs q)) → q < length xs
readable_inside xs q read = elim (cases_lt q (length xs)) [
  | inl lt ↦ lt
  | inr le ↦ absurd (none (nat_lt q largest_pool) (ap (λ x. is_readable (if nat_lt q largest_pool then page_state_at x else Nowhere)) (sym (get_or_past xs q Free le)) ∙ read))
]
  where
    none : (b : Bool) → is_readable (if b then Nowhere else Nowhere) ≡ true → ⊥
    none true e = cc
    none false e = cc

pub taken_among : (xs : List Place) (q : ℕ) → IsTrue (is_readable (page_state_among xs q)) → is_in_hand (place_of xs q) ≡ is_taken (page_state_among xs q)
taken_among xs q read = in_range (nat_lt q largest_pool) (place_of xs q) (slice_index_or xs q Free) (get_or_default xs q Free Current (readable_inside xs q read)) read
  where
    by : (x : Place) → is_in_hand x ≡ is_taken (page_state_at x)
    by Free = refl
    by Reserved = refl
    by Filled = refl
    by Current = refl
    by GivenUp = refl
    by (Retired n) = refl

    in_range : (b : Bool) (x y : Place) → y ≡ x → IsTrue (is_readable (if b then page_state_at y else Nowhere)) → is_in_hand x ≡ is_taken (if b then page_state_at y else Nowhere)
    in_range true x y e read = by x ∙ sym (ap (λ z. is_taken (page_state_at z)) e)
    in_range false x y e read = absurd (false≢true read)

-- what a call of `is_taken` uses
pub ruleset taken = (readable_inside, taken_among)
