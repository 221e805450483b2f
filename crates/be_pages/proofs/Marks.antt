-- A pool's places as its mark shows them.
use Rattle.std.proofs.Common.{◌≡◌, ℕ, zero, suc, ◌+◌, ◌<◌, ◌≤◌, List, [], ◌∷◌, length, drop, cond, Bool, true, false, if◌then◌else◌, ap, sym, subst, ◌∙◌, refl, inl, inr, arith, slice_set, count_by, map, Option, Some, None, IfSome, IfNone}
use Rattle.std.specs.Prelude.{IsTrue, slice_index, nat_lt}
use Rattle.std.proofs.lemmas.Bool.{cases_lt, le-ltb, lt-ltb, ltb-true, ltb-false}
use Rattle.std.proofs.lemmas.List.{get_or_past, get_or-drop, length-drop, length-map, map-set}
use Rattle.std.proofs.lemmas.List.Sums.{sum_by-cons, get_or-le-sum_by}
use Rattle.std.proofs.Math.ListN.{get_or-map}
use mathlib.Core.Bool.{false≢true}
use Rattle.be_pages.specs.declared.page_pool.Place.{Place}
use Rattle.be_pages.specs.declared.page_pool.Place.TheVariants.{Free, Reserved, Filled, Current, GivenUp, Retired}
use Rattle.be_pages.specs.declared.page_pool.Ending.{Ending}
use Rattle.be_pages.specs.declared.page_pool.Ending.TheVariants.{Published, Kept, Undone}
use Rattle.be_pages.specs.Pages.{times}
use Rattle.be_pages.specs.PageSet.{one_if}
use Rattle.be_pages.specs.Place.{given_place, is_expired, is_free, is_held_page, is_in_hand, is_retired, retired_number, retired_at, place_of, place_after, swept_place, IsOldestFirst}
use Rattle.be_pages.proofs.Pools.{at_most_once, count_none, find_place, here, passes_less, passes_same, places_map, retires_less, there, retired_inside}

-- the place of one page
pub seen : (m : ℕ) (P : List Place) (q : ℕ) → place_of (map (swept_place m) P) q ≡ swept_place m (place_of P q)
seen m P q = get_or-map (swept_place m) P q Current

pub seen_set : (m : ℕ) (P : List Place) (p : ℕ) (s : Place) → map (swept_place m) (slice_set P p s) ≡ slice_set (map (swept_place m) P) p (swept_place m s)
seen_set m P p s = map-set (swept_place m) P p s

-- what the mark changes for no test
in_hand_by : (b : Bool) (n : ℕ) → is_in_hand (if b then Free else Retired n) ≡ false
in_hand_by true n = refl
in_hand_by false n = refl

pub in_hand_seen : (m : ℕ) (x : Place) → is_in_hand (swept_place m x) ≡ is_in_hand x
in_hand_seen m Free = refl
in_hand_seen m Reserved = refl
in_hand_seen m Filled = refl
in_hand_seen m Current = refl
in_hand_seen m GivenUp = refl
in_hand_seen m (Retired n) = in_hand_by (nat_lt n m) n

held_by : (b : Bool) (n : ℕ) → is_held_page (if b then Free else Retired n) ≡ false
held_by true n = refl
held_by false n = refl

pub held_seen : (m : ℕ) (x : Place) → is_held_page (swept_place m x) ≡ is_held_page x
held_seen m Free = refl
held_seen m Reserved = refl
held_seen m Filled = refl
held_seen m Current = refl
held_seen m GivenUp = refl
held_seen m (Retired n) = held_by (nat_lt n m) n

given_by : (b : Bool) (n : ℕ) → (if b then Free else Retired n) ≡ given_place (if b then Free else Retired n)
given_by true n = refl
given_by false n = refl

pub given_seen : (m : ℕ) (x : Place) → swept_place m (given_place x) ≡ given_place (swept_place m x)
given_seen m Free = refl
given_seen m Reserved = refl
given_seen m Filled = refl
given_seen m Current = refl
given_seen m GivenUp = refl
given_seen m (Retired n) = given_by (nat_lt n m) n

pub given_expired : (m : ℕ) (x : Place) → is_expired m x ≡ is_expired m (given_place x)
given_expired m Free = refl
given_expired m Reserved = refl
given_expired m Filled = refl
given_expired m Current = refl
given_expired m GivenUp = refl
given_expired m (Retired n) = refl

pub in_hand_unexpired : (m : ℕ) (x : Place) → IsTrue (is_in_hand x) → is_expired m x ≡ false
in_hand_unexpired m Free h = refl
in_hand_unexpired m Reserved h = refl
in_hand_unexpired m Filled h = refl
in_hand_unexpired m Current h = refl
in_hand_unexpired m GivenUp h = refl
in_hand_unexpired m (Retired n) h = absurd (false≢true h)

-- the end of a write
abbrev pub Suits : ℕ → Ending → Type 0
Suits m (Published n) = m ≤ n
Suits m Kept = Unit {0}
Suits m Undone = Unit {0}

after_by : (ending : Ending) (b : Bool) (n : ℕ) → (if b then Free else Retired n) ≡ place_after ending (if b then Free else Retired n)
after_by (Published r) true n = refl
after_by (Published r) false n = refl
after_by Kept true n = refl
after_by Kept false n = refl
after_by Undone true n = refl
after_by Undone false n = refl

after_seen_one : (m : ℕ) (ending : Ending) → Suits m ending → (x : Place) → swept_place m (place_after ending x) ≡ place_after ending (swept_place m x)
after_seen_one m (Published r) suits Free = refl
after_seen_one m (Published r) suits Reserved = refl
after_seen_one m (Published r) suits Filled = refl
after_seen_one m (Published r) suits Current = refl
after_seen_one m (Published r) suits GivenUp = ap (λ (b : Bool). if b then Free else Retired r) (le-ltb r m suits)
after_seen_one m (Published r) suits (Retired n) = after_by (Published r) (nat_lt n m) n
after_seen_one m Kept suits Free = refl
after_seen_one m Kept suits Reserved = refl
after_seen_one m Kept suits Filled = refl
after_seen_one m Kept suits Current = refl
after_seen_one m Kept suits GivenUp = refl
after_seen_one m Kept suits (Retired n) = after_by Kept (nat_lt n m) n
after_seen_one m Undone suits Free = refl
after_seen_one m Undone suits Reserved = refl
after_seen_one m Undone suits Filled = refl
after_seen_one m Undone suits Current = refl
after_seen_one m Undone suits GivenUp = refl
after_seen_one m Undone suits (Retired n) = after_by Undone (nat_lt n m) n

after_expired : (m : ℕ) (ending : Ending) → Suits m ending → (x : Place) → is_expired m (place_after ending x) ≡ is_expired m x
after_expired m (Published r) suits Free = refl
after_expired m (Published r) suits Reserved = refl
after_expired m (Published r) suits Filled = refl
after_expired m (Published r) suits Current = refl
after_expired m (Published r) suits GivenUp = le-ltb r m suits
after_expired m (Published r) suits (Retired n) = refl
after_expired m Kept suits Free = refl
after_expired m Kept suits Reserved = refl
after_expired m Kept suits Filled = refl
after_expired m Kept suits Current = refl
after_expired m Kept suits GivenUp = refl
after_expired m Kept suits (Retired n) = refl
after_expired m Undone suits Free = refl
after_expired m Undone suits Reserved = refl
after_expired m Undone suits Filled = refl
after_expired m Undone suits Current = refl
after_expired m Undone suits GivenUp = refl
after_expired m Undone suits (Retired n) = refl

map_twice : (f g h k : Place → Place) → ((x : Place) → f (g x) ≡ h (k x)) → (P : List Place) → map f (map g P) ≡ map h (map k P)
map_twice f g h k same [] = refl
map_twice f g h k same (x ∷ xs) = ap (λ (y : Place). y ∷ map f (map g xs)) (same x) ∙ ap (λ (ys : List Place). h (k x) ∷ ys) (map_twice f g h k same xs)

map_once : (f g h : Place → Place) → ((x : Place) → f (g x) ≡ h x) → (P : List Place) → map f (map g P) ≡ map h P
map_once f g h same [] = refl
map_once f g h same (x ∷ xs) = ap (λ (y : Place). y ∷ map f (map g xs)) (same x) ∙ ap (λ (ys : List Place). h x ∷ ys) (map_once f g h same xs)

count_map : (f h : Place → Bool) (g : Place → Place) → ((x : Place) → f (g x) ≡ h x) → (P : List Place) → count_by f (map g P) ≡ count_by h P
count_map f h g same [] = refl
count_map f h g same (x ∷ xs) =
    omega (
      arith,
      sum_by-cons (λ (y : Place). cond {A = ℕ} (f y) 1 0) (g x) (map g xs),
      sum_by-cons (λ (y : Place). cond {A = ℕ} (h y) 1 0) x xs,
      ap (λ (b : Bool). cond {A = ℕ} b 1 0) (same x),
      count_map f h g same xs,
    )

pub after_seen : (m : ℕ) (ending : Ending) → Suits m ending → (P : List Place) → map (swept_place m) (map (place_after ending) P) ≡ map (place_after ending) (map (swept_place m) P)
after_seen m ending suits P = map_twice (swept_place m) (place_after ending) (place_after ending) (swept_place m) (after_seen_one m ending suits) P

pub after_counted : (m : ℕ) (ending : Ending) → Suits m ending → (P : List Place) → count_by (is_expired m) (map (place_after ending) P) ≡ count_by (is_expired m) P
after_counted m ending suits P = count_map (is_expired m) (is_expired m) (place_after ending) (after_expired m ending suits) P

-- no page that the lists have as retired has a number above that of the write
newest_by : (m number n : ℕ) → m ≤ number → (b : Bool) → nat_lt n m ≡ b → retired_number (if b then Free else Retired n) ≤ number → n ≤ number
newest_by m number n le true e most = omega (arith, le, ltb-true n m e)
newest_by m number n le false e most = most

newest_one : (m number : ℕ) → m ≤ number → (x : Place) → retired_number (swept_place m x) ≤ number → retired_number x ≤ number
newest_one m number le Free most = most
newest_one m number le Reserved most = most
newest_one m number le Filled most = most
newest_one m number le Current most = most
newest_one m number le GivenUp most = most
newest_one m number le (Retired n) most = newest_by m number n le (nat_lt n m) refl most

pub newest_unseen : (m number : ℕ) (P : List Place) → m ≤ number → ((q : ℕ) → retired_at (map (swept_place m) P) q ≤ number) → (q : ℕ) → retired_at P q ≤ number
newest_unseen m number P le most q = newest_one m number le (place_of P q) (subst (λ x. retired_number x ≤ number) (seen m P q) (most q))

-- another mark
below_by : (k m n : ℕ) → k ≤ m → (b : Bool) → nat_lt n m ≡ b → swept_place k (if b then Free else Retired n) ≡ (if b then Free else Retired n)
below_by k m n le true e = refl
below_by k m n le false e = ap (λ (c : Bool). if c then Free else Retired n) (le-ltb n k (omega (arith, le, ltb-false n m e)))

below_one : (k m : ℕ) → k ≤ m → (x : Place) → swept_place k (swept_place m x) ≡ swept_place m x
below_one k m le Free = refl
below_one k m le Reserved = refl
below_one k m le Filled = refl
below_one k m le Current = refl
below_one k m le GivenUp = refl
below_one k m le (Retired n) = below_by k m n le (nat_lt n m) refl

pub seen_below : (k m : ℕ) → k ≤ m → (P : List Place) → map (swept_place k) (map (swept_place m) P) ≡ map (swept_place m) P
seen_below k m le P = map_once (swept_place k) (swept_place m) (swept_place m) (below_one k m le) P

above_by : (k m n : ℕ) → m ≤ k → (b : Bool) → nat_lt n m ≡ b → swept_place k (if b then Free else Retired n) ≡ swept_place k (Retired n)
above_by k m n le true e = sym (ap (λ (c : Bool). if c then Free else Retired n) (lt-ltb n k (omega (arith, le, ltb-true n m e))))
above_by k m n le false e = refl

above_one : (k m : ℕ) → m ≤ k → (x : Place) → swept_place k (swept_place m x) ≡ swept_place k x
above_one k m le Free = refl
above_one k m le Reserved = refl
above_one k m le Filled = refl
above_one k m le Current = refl
above_one k m le GivenUp = refl
above_one k m le (Retired n) = above_by k m n le (nat_lt n m) refl

pub seen_above : (k m : ℕ) → m ≤ k → (P : List Place) → map (swept_place k) (map (swept_place m) P) ≡ map (swept_place k) P
seen_above k m le P = map_once (swept_place k) (swept_place m) (swept_place k) (above_one k m le) P

-- counts
free_by : (b : Bool) (n : ℕ) → cond {A = ℕ} (is_free (if b then Free else Retired n)) 1 0 ≡ 0 + cond {A = ℕ} b 1 0
free_by true n = refl
free_by false n = refl

free_one : (m : ℕ) (x : Place) → cond {A = ℕ} (is_free (swept_place m x)) 1 0 ≡ cond {A = ℕ} (is_free x) 1 0 + cond {A = ℕ} (is_expired m x) 1 0
free_one m Free = refl
free_one m Reserved = refl
free_one m Filled = refl
free_one m Current = refl
free_one m GivenUp = refl
free_one m (Retired n) = free_by (nat_lt n m) n

pub free_seen : (m : ℕ) (P : List Place) → count_by is_free (map (swept_place m) P) ≡ count_by is_free P + count_by (is_expired m) P
free_seen m [] = refl
free_seen m (x ∷ xs) =
    omega (
      arith,
      sum_by-cons (λ (y : Place). cond {A = ℕ} (is_free y) 1 0) (swept_place m x) (map (swept_place m) xs),
      sum_by-cons (λ (y : Place). cond {A = ℕ} (is_free y) 1 0) x xs,
      sum_by-cons (λ (y : Place). cond {A = ℕ} (is_expired m y) 1 0) x xs,
      free_one m x,
      free_seen m xs,
    )

retired_by : (b : Bool) (n : ℕ) → cond {A = ℕ} (is_retired (if b then Free else Retired n)) 1 0 + cond {A = ℕ} b 1 0 ≡ 1
retired_by true n = refl
retired_by false n = refl

retired_one : (m : ℕ) (x : Place) → cond {A = ℕ} (is_retired (swept_place m x)) 1 0 + cond {A = ℕ} (is_expired m x) 1 0 ≡ cond {A = ℕ} (is_retired x) 1 0
retired_one m Free = refl
retired_one m Reserved = refl
retired_one m Filled = refl
retired_one m Current = refl
retired_one m GivenUp = refl
retired_one m (Retired n) = retired_by (nat_lt n m) n

pub retired_seen : (m : ℕ) (P : List Place) → count_by is_retired (map (swept_place m) P) + count_by (is_expired m) P ≡ count_by is_retired P
retired_seen m [] = refl
retired_seen m (x ∷ xs) =
    omega (
      arith,
      sum_by-cons (λ (y : Place). cond {A = ℕ} (is_retired y) 1 0) (swept_place m x) (map (swept_place m) xs),
      sum_by-cons (λ (y : Place). cond {A = ℕ} (is_retired y) 1 0) x xs,
      sum_by-cons (λ (y : Place). cond {A = ℕ} (is_expired m y) 1 0) x xs,
      retired_one m x,
      retired_seen m xs,
    )

-- if none is counted, no page passes the test
pub none_passes : (f : Place → Bool) (P : List Place) → f Current ≡ false → count_by f P ≡ 0 → (q : ℕ) → f (place_of P q) ≡ false
none_passes f P current none q = elim (cases_lt q (length P)) [
  | inl lt ↦ by_test (f (place_of P q)) (omega (arith, get_or-le-sum_by (λ (x : Place). cond {A = ℕ} (f x) 1 0) P q Current lt, none))
  | inr past ↦ ap f (get_or_past P q Current past) ∙ current
]
  where
    by_test : (b : Bool) → cond {A = ℕ} b 1 0 ≡ 0 → b ≡ false
    by_test true e = absurd (omega (arith, e))
    by_test false e = refl

-- a page that is free as the mark shows it is free in the lists, or has expired
is_it : (m : ℕ) (x : Place) → (x ≡ Free → ⊥) → is_expired m x ≡ false → swept_place m x ≡ Free → ⊥
is_it m Free not waits e = not refl
is_it m Reserved not waits e = absurd (false≢true (ap is_free e))
is_it m Filled not waits e = absurd (false≢true (ap is_free e))
is_it m Current not waits e = absurd (false≢true (ap is_free e))
is_it m GivenUp not waits e = absurd (false≢true (ap is_free e))
is_it m (Retired n) not waits e = absurd (false≢true (ap is_free (sym (ap (λ (b : Bool). if b then Free else Retired n) waits) ∙ e)))

unfree : (x : Place) → (x ≡ Free → ⊥) → is_free x ≡ false
unfree Free not = absurd (not refl)
unfree Reserved not = refl
unfree Filled not = refl
unfree Current not = refl
unfree GivenUp not = refl
unfree (Retired n) not = refl

-- if no page is free in the lists, and then none has expired, none is free as the mark shows it
pub none_free : (m expired : ℕ) (P : List Place) → expired ≡ count_by (is_expired m) P → (count_by is_free P ≡ 0 → expired ≡ 0) → ((q : ℕ) → q < length P → place_of P q ≡ Free → ⊥)
    → (q : ℕ) → q < length (map (swept_place m) P) → place_of (map (swept_place m) P) q ≡ Free → ⊥
none_free m expired P counted left not q lt e =
    let none : count_by is_free P ≡ 0 = count_none is_free P (λ r. elim (cases_lt r (length P)) [
      | inl within ↦ unfree (place_of P r) (not r within)
      | inr past ↦ ap is_free (get_or_past P r Current past)
    ]) in
    is_it m (place_of P q) (not q (omega (arith, lt, length-map P (swept_place m)))) (none_passes (is_expired m) P refl (omega (arith, counted, left none)) q) (sym (seen m P q) ∙ e)

-- if no page has expired, the mark changes nothing
stays_one : (m : ℕ) (x : Place) → is_expired m x ≡ false → swept_place 0 x ≡ swept_place m x
stays_one m Free waits = refl
stays_one m Reserved waits = refl
stays_one m Filled waits = refl
stays_one m Current waits = refl
stays_one m GivenUp waits = refl
stays_one m (Retired n) waits = ap (λ (b : Bool). if b then Free else Retired n) (le-ltb n 0 (omega arith)) ∙ sym (ap (λ (b : Bool). if b then Free else Retired n) waits)

map_same : (f g : Place → Place) (P : List Place) → ((q : ℕ) → f (place_of P q) ≡ g (place_of P q)) → map f P ≡ map g P
map_same f g [] same = refl
map_same f g (x ∷ xs) same = ap (λ (y : Place). y ∷ map f xs) (same 0) ∙ ap (λ (ys : List Place). g x ∷ ys) (map_same f g xs (λ q. same (suc q)))

pub seen_lower : (m : ℕ) (P : List Place) → count_by (is_expired m) P ≡ 0 → map (swept_place 0) P ≡ map (swept_place m) P
seen_lower m P none = map_same (swept_place 0) (swept_place m) P (λ q. stays_one m (place_of P q) (none_passes (is_expired m) P refl none q))

unmarked : (x : Place) → is_expired 0 x ≡ false
unmarked Free = refl
unmarked Reserved = refl
unmarked Filled = refl
unmarked Current = refl
unmarked GivenUp = refl
unmarked (Retired n) = le-ltb n 0 (omega arith)

pub none_below : (P : List Place) → count_by (is_expired 0) P ≡ 0
none_below P = count_none (is_expired 0) P (λ q. unmarked (place_of P q))

-- the pages of the queue
pub queued_retired : (P : List Place) (queue : List ℕ) → ((q : ℕ) → times q queue ≡ one_if (is_retired (place_of P q))) → (i : ℕ) → i < length queue → is_retired (place_of P (slice_index queue i)) ≡ true
queued_retired P queue retires i lt = by_test (is_retired (place_of P (slice_index queue i))) (omega (arith, at_most_once queue i lt, retires (slice_index queue i)))
  where
    by_test : (b : Bool) → 1 ≤ one_if b → b ≡ true
    by_test true e = refl
    by_test false e = absurd (omega (arith, e))

pub expired_if : (m : ℕ) (x : Place) → is_retired x ≡ true → retired_number x < m → is_expired m x ≡ true
expired_if m Free is lt = absurd (false≢true is)
expired_if m Reserved is lt = absurd (false≢true is)
expired_if m Filled is lt = absurd (false≢true is)
expired_if m Current is lt = absurd (false≢true is)
expired_if m GivenUp is lt = absurd (false≢true is)
expired_if m (Retired n) is lt = lt-ltb n m lt

pub unexpired_if : (m : ℕ) (x : Place) → (is_retired x ≡ true → m ≤ retired_number x) → is_expired m x ≡ false
unexpired_if m Free h = refl
unexpired_if m Reserved h = refl
unexpired_if m Filled h = refl
unexpired_if m Current h = refl
unexpired_if m GivenUp h = refl
unexpired_if m (Retired n) h = le-ltb n m (h refl)

swept_by : (b : Bool) (n : ℕ) → (if b then Free else Retired n) ≡ Free → b ≡ true
swept_by true n e = refl
swept_by false n e = absurd (false≢true (ap is_free e))

-- a retired page that a sweep frees has expired
pub swept_expired : (m : ℕ) (x : Place) → is_retired x ≡ true → swept_place m x ≡ Free → is_expired m x ≡ true
swept_expired m Free is e = absurd (false≢true is)
swept_expired m Reserved is e = absurd (false≢true is)
swept_expired m Filled is e = absurd (false≢true is)
swept_expired m Current is e = absurd (false≢true is)
swept_expired m GivenUp is e = absurd (false≢true is)
swept_expired m (Retired n) is e = swept_by (nat_lt n m) n e

kept_by : (b : Bool) (n : ℕ) → (if b then Free else Retired n) ≡ Retired n → b ≡ false
kept_by true n e = absurd (false≢true (ap is_retired e))
kept_by false n e = refl

unswept_expired : (m : ℕ) (x : Place) → swept_place m x ≡ x → is_expired m x ≡ false
unswept_expired m Free e = refl
unswept_expired m Reserved e = refl
unswept_expired m Filled e = refl
unswept_expired m Current e = refl
unswept_expired m GivenUp e = refl
unswept_expired m (Retired n) e = kept_by (nat_lt n m) n e

pub none_left : (m : ℕ) (P : List Place) → ((q : ℕ) → swept_place m (place_of P q) ≡ place_of P q) → count_by (is_expired m) P ≡ 0
none_left m P stay = count_none (is_expired m) P (λ q. unswept_expired m (place_of P q) (stay q))

-- the first k pages of the queue have expired, and the others haven't
pub count_first : (k m : ℕ) (P : List Place) (queue : List ℕ) → ((q : ℕ) → times q queue ≡ one_if (is_retired (place_of P q))) → k ≤ length queue
    → ((i : ℕ) → i < k → retired_at P (slice_index queue i) < m) → ((i : ℕ) → k ≤ i → i < length queue → m ≤ retired_at P (slice_index queue i)) → k ≡ count_by (is_expired m) P
count_first zero m P queue retires within below above = sym (count_none (is_expired m) P (λ q. unexpired_if m (place_of P q) (λ is.
    let at : (i : ℕ) × (i < length queue) × (slice_index queue i ≡ q) = find_place queue q (omega (arith, retires q, ap one_if is)) in
    omega (arith, above at.0 (omega arith) at.1, ap (retired_at P) at.2))))
count_first (suc k) m P queue retires within below above =
    let p : ℕ = slice_index queue 0 in
    let some : 0 < length queue = omega (arith, within) in
    let is : is_retired (place_of P p) ≡ true = queued_retired P queue retires 0 some in
    let lt : p < length P = retired_inside P p is in
    let less : (q : ℕ) → times q (drop 1 queue) ≡ one_if (is_retired (place_of (slice_set P p Free) q)) = retires_less P p Free lt queue retires some refl refl is in
    let other : (i : ℕ) → i < length (drop 1 queue) → retired_at (slice_set P p Free) (slice_index (drop 1 queue) i) ≡ retired_at P (slice_index queue (1 + i)) = λ i more.
    ap retired_number (there P p Free lt (slice_index (drop 1 queue) i) (λ e. absurd (omega (arith, at_most_once (drop 1 queue) i more, ap (λ (r : ℕ). times r (drop 1 queue)) e, less p, ap (λ (x : Place). one_if (is_retired x)) (here P p Free lt)))))
    ∙ ap (retired_at P) (get_or-drop 1 queue i 0) in
    omega (
      arith,
      passes_less P p Free lt (is_expired m) (expired_if m (place_of P p) is (below 0 (omega arith))) refl,
      count_first k m (slice_set P p Free) (drop 1 queue) less (omega (arith, within, length-drop 1 queue))
          (λ i small. omega (arith, other i (omega (arith, small, within, length-drop 1 queue)), below (1 + i) (omega (arith, small))))
          (λ i past more. omega (arith, other i more, above (1 + i) (omega (arith, past)) (omega (arith, more, length-drop 1 queue)))),
    )

-- pages with the same place after a sweep
pub seen_same : (m : ℕ) (new old : List Place) → length new ≡ length old → ((q : ℕ) → swept_place m (place_of new q) ≡ swept_place m (place_of old q)) → map (swept_place m) new ≡ map (swept_place m) old
seen_same m new old len same = places_map (swept_place m) (map (swept_place m) new) old refl (length-map new (swept_place m) ∙ len) (λ q. seen m new q ∙ same q)

-- if fewer pages were moved than had expired, none is left, and otherwise none is left either
pub emptied : (left moved expired counted : ℕ) → left + moved ≡ counted → expired ≡ counted → (moved < expired → left ≡ 0) → left ≡ 0
emptied left moved expired counted sum is all = elim (cases_lt moved expired) [
  | inl lt ↦ all lt
  | inr past ↦ omega (arith, past, sum, is)
]

-- a search of the queue goes on after a page that has expired, and before one that hasn't
pub below_to : (P : List Place) (queue : List ℕ) (least middle : ℕ) → IsOldestFirst (retired_at P) queue → middle < length queue → retired_at P (slice_index queue middle) < least
    → (i : ℕ) → i < middle + 1 → retired_at P (slice_index queue i) < least
below_to P queue least middle order within lt i small = omega (arith, order i middle (omega (arith, small)) within, lt)

pub above_to : (P : List Place) (queue : List ℕ) (least middle : ℕ) → IsOldestFirst (retired_at P) queue → least ≤ retired_at P (slice_index queue middle)
    → (i : ℕ) → middle ≤ i → i < length queue → least ≤ retired_at P (slice_index queue i)
above_to P queue least middle order le i past within = omega (arith, order middle i past within, le)

pub ruleset searching = (queued_retired, below_to, above_to)

pub if_none : {A : Type 0} (r : Option ℕ) → A → IfNone r A
if_none (Some p) a = tt
if_none None a = a

-- taking a page leaves the expired ones
pub taken_counted : (m : ℕ) (P new : List Place) (r : Option ℕ) → IfSome r (λ p. (p < length P) × (place_of P p ≡ Free)) → IfSome r (λ p. new ≡ slice_set P p Reserved) → IfNone r (new ≡ P)
    → count_by (is_expired m) new ≡ count_by (is_expired m) P
taken_counted m P new (Some p) free some same = ap (count_by (is_expired m)) some ∙ passes_same P p Reserved free.0 (is_expired m) (ap (is_expired m) free.1)
taken_counted m P new None free some same = ap (count_by (is_expired m)) same
