-- How the pages of a pool are shared among the versions and an open write.
use Rattle.std.proofs.Common.{◌≡◌, ℕ, zero, suc, ◌+◌, ◌-◌, ◌*◌, ◌<◌, ◌≤◌, ◌==◌, ◌||◌, Bool, true, false, nat_lt, List, [], ◌∷◌, length, ap, sym, subst, ◌∙◌, refl, inl, inr, arith, cond}
use Rattle.std.specs.Prelude.{IsTrue, slice_index_or}
use Rattle.std.proofs.lemmas.Bool.{cases_eq, cases_lt}
use Rattle.std.proofs.lemmas.Bool.Decides.{nat_tests}
use Rattle.std.proofs.lemmas.List.{get_or_default, get_or_past}
use borrow.Author.Tests.{lt-ltb}
use Rattle.be_core.specs.Machine.{bit, has}
use Rattle.be_paged_reading.specs.Page.{reach}
use Rattle.be_pages.specs.Pages.{is_taken, times}
use Rattle.be_pages.specs.Place.{is_in_hand, place_of}
use Rattle.be_pages.specs.declared.page_pool.Place.{Place}
use Rattle.be_pages.specs.declared.page_pool.Place.TheVariants.{Free as Nowhere, Reserved, Filled, Current, GivenUp, Retired}
use Rattle.be_tree.specs.Counting.{in_hand, one_of}
use Rattle.be_table.specs.declared.pass.Commit.{Commit}
use Rattle.be_table.specs.declared.pass.Knowledge.{Knowledge}
use Rattle.be_table.specs.Counts.{count_below, is_reached, reached}
use Rattle.be_table.specs.Reading.{page_state_among, page_state_at}
use Rattle.be_table.specs.Rule.{largest_pool, reach_at}
use Rattle.be_table.specs.Setting.{Setting as Limits}
use Rattle.be_table.specs.Steps.{NoCommitReaches}
use Rattle.be_table.specs.Versions.{EncodesVolume}
use Rattle.be_table.specs.Works.{HoldsStill, IsSpent}
use Rattle.be_volume.specs.Volume.{State}
use Rattle.be_tree_reading.proofs.Frame.{times-cons}

bit_cond : (b : Bool) → bit b ≡ cond {A = ℕ} b 1 0
bit_cond true = refl
bit_cond false = refl

not_here : (p n : ℕ) → (p ≡ n → ⊥) → bit (p == n) ≡ 0
not_here p n ne = bit_cond (p == n) ∙ other p n ne
  where
    other : (p n : ℕ) → (p ≡ n → ⊥) → cond {A = ℕ} (p == n) 1 0 ≡ 0
    other p n ne = grind (arith, nat_tests)

at_most_one : (b : Bool) → bit b ≤ 1
at_most_one true = omega arith
at_most_one false = omega arith

none_past : (n p : ℕ) → n ≤ p → count_below (λ q. p == q) n ≡ 0
none_past zero p le = refl
none_past (suc n) p le = omega (arith, none_past n p (omega (arith, le)), not_here p n (λ e. absurd (omega (arith, e, le))))

one_of_them : (n p : ℕ) → count_below (λ q. p == q) n ≤ 1
one_of_them zero p = omega arith
one_of_them (suc n) p = elim (cases_eq p n) [
  | inl e ↦ omega (arith, none_past n p (omega (arith, e)), at_most_one (p == n))
  | inr ne ↦ omega (arith, one_of_them n p, not_here p n ne)
]

-- the number of pages in a list is at most the list's length
none_of_none : (n : ℕ) → count_below (has []) n ≡ 0
none_of_none zero = refl
none_of_none (suc n) = omega (arith, none_of_none n)

either : (a b : Bool) → bit (a || b) ≤ bit a + bit b
either true b = omega arith
either false b = omega arith

one_more : (n p : ℕ) (ps : List ℕ) → count_below (has (p ∷ ps)) n ≤ count_below (λ q. p == q) n + count_below (has ps) n
one_more zero p ps = omega arith
one_more (suc n) p ps = omega (arith, one_more n p ps, either (p == n) (has ps n))

listed : (ps : List ℕ) (n : ℕ) → count_below (has ps) n ≤ length ps
listed [] n = omega (arith, none_of_none n)
listed (p ∷ ps) n = omega (arith, one_more n p ps, one_of_them n p, listed ps n)

-- each page passes at least one of two tests
all_counted : (f g : ℕ → Bool) (n : ℕ) → ((p : ℕ) → p < n → 1 ≤ bit (f p) + bit (g p)) → n ≤ count_below f n + count_below g n
all_counted f g zero each = omega arith
all_counted f g (suc n) each = omega (arith, each n (omega arith), all_counted f g n (λ p lt. each p (omega (arith, lt))))

left_false : (a b : Bool) → (a || b) ≡ false → a ≡ false
left_false true b e = e
left_false false b e = refl

right_false : (a b : Bool) → (a || b) ≡ false → b ≡ false
right_false true b e = cc
right_false false b e = e

-- a page that isn't reached belongs to none of the versions
unreached : (limits : Limits) (seen : List Commit) (first k j p : ℕ) → is_reached limits seen first k p ≡ false → j < k → has (reach_at limits seen (first + j)) p ≡ false
unreached limits seen first zero j p e lt = absurd (omega (arith, lt))
unreached limits seen first (suc k) j p e lt = elim (cases_eq j k) [
  | inl same ↦ ap (λ i. has (reach_at limits seen (first + i)) p) same ∙ left_false (has (reach_at limits seen (first + k)) p) (is_reached limits seen first k p) e
  | inr ne ↦ unreached limits seen first k j p (right_false (has (reach_at limits seen (first + k)) p) (is_reached limits seen first k p) e) (omega (arith, ne, lt))
]

no_commit : (limits : Limits) (seen : List Commit) (least p : ℕ) → is_reached limits seen least (suc (length seen) - least) p ≡ false → NoCommitReaches limits seen least p
no_commit limits seen least p e = λ n above below.
    let j = n - least in
    let is : least + j ≡ n = omega (arith, above) in
    ap (λ i. has (reach_at limits seen i) p) (sym is) ∙ unreached limits seen least (suc (length seen) - least) j p e (omega (arith, above, below))

module _ (a : Knowledge) (least : ℕ) (spent : IsSpent a least) where
  counted : (p : ℕ) → p < a.limits.pages → 1 ≤ bit (is_reached a.limits a.seen least (suc (length a.seen) - least) p) + bit (has a.held p)
  counted p lt = by (is_reached a.limits a.seen least (suc (length a.seen) - least) p) refl
    where
      by : (b : Bool) → is_reached a.limits a.seen least (suc (length a.seen) - least) p ≡ b → 1 ≤ bit b + bit (has a.held p)
      by true e = omega arith
      by false e = omega (arith, ap bit (spent.1 p lt (no_commit a.limits a.seen least p e)))

  pub shared : a.limits.pages ≤ reached a.limits a.seen least a.limits.pages + count_below (has a.held) a.limits.pages
  shared = all_counted (is_reached a.limits a.seen least (suc (length a.seen) - least)) (has a.held) a.limits.pages counted

-- for the current version only
false_right : (a : Bool) → (a || false) ≡ a
false_right true = refl
false_right false = refl

same_tests : (f g : ℕ → Bool) (n : ℕ) → ((p : ℕ) → f p ≡ g p) → count_below f n ≡ count_below g n
same_tests f g zero same = refl
same_tests f g (suc n) same = omega (arith, ap bit (same n), same_tests f g n same)

pub shared_now : (a : Knowledge) → IsSpent a (length a.seen) → a.limits.pages ≤ count_below (has (reach_at a.limits a.seen (length a.seen))) a.limits.pages + count_below (has a.held) a.limits.pages
shared_now a spent =
    let now = length a.seen in
    let one : suc now - now ≡ 1 = omega arith in
    let same : (p : ℕ) → is_reached a.limits a.seen now (suc now - now) p ≡ has (reach_at a.limits a.seen now) p = λ p.
    ap (λ k. is_reached a.limits a.seen now k p) one ∙ false_right (has (reach_at a.limits a.seen (now + 0)) p) ∙ ap (λ i. has (reach_at a.limits a.seen i) p) (plus_none now) in
    omega (
      arith,
      shared a now spent,
      same_tests (is_reached a.limits a.seen now (suc now - now)) (has (reach_at a.limits a.seen now)) a.limits.pages same,
    )
  where
    plus_none : (n : ℕ) → n + 0 ≡ n
    plus_none n = omega arith

-- pages that the write holds are counted as held
in_hand_taken : (x : Place) → IsTrue (is_in_hand x) → is_taken (page_state_at x) ≡ true
in_hand_taken Nowhere h = h
in_hand_taken Reserved h = refl
in_hand_taken Filled h = refl
in_hand_taken Current h = h
in_hand_taken GivenUp h = h
in_hand_taken (Retired n) h = h

taken_at : (xs : List Place) (p : ℕ) → p < largest_pool → IsTrue (is_in_hand (place_of xs p)) → is_taken (page_state_among xs p) ≡ true
taken_at xs p small h = elim (cases_lt p (length xs)) [
  | inl lt ↦
      let in_range : nat_lt p largest_pool ≡ true = lt-ltb p largest_pool (omega (arith, small)) in
      let place : slice_index_or xs p Nowhere ≡ place_of xs p = get_or_default xs p Nowhere Current lt in
      rw (in_range, place) (in_hand_taken (place_of xs p) h)
  | inr le ↦ absurd (let past : place_of xs p ≡ Current = get_or_past xs p Current le in let e : false ≡ true = sym (ap is_in_hand past) ∙ h in cc)
]

one_of_true : (b t : Bool) → (b ≡ true → t ≡ true) → bit b ≤ one_of t
one_of_true false t h = omega arith
one_of_true true t h = subst (λ (c : Bool). 1 ≤ one_of c) (sym (h refl)) (omega arith)

pub still_counted : (a : Knowledge) (n : ℕ) → HoldsStill a → n ≤ largest_pool → count_below (has a.held) n ≤ in_hand n (page_state_among a.places)
still_counted a zero still small = omega arith
still_counted a (suc n) still small =
    omega (arith, still_counted a n still (omega (arith, small)), one_of_true (has a.held n) (is_taken (page_state_among a.places n)) (λ h. taken_at a.places n (omega (arith, small)) (still n h)))

-- the pages of a version are those that it reaches
absent : (q : ℕ) (ps : List ℕ) → has ps q ≡ false → times q ps ≡ 0
absent q [] h = refl
absent q (p ∷ ps) h =
    let here : cond {A = ℕ} (p == q) 1 0 ≡ 0 = ap (λ (b : Bool). cond {A = ℕ} b 1 0) (left_false (p == q) (has ps q) h) in
    omega (arith, times-cons q p ps, absent q ps (right_false (p == q) (has ps q) h))

present : (pages ps : List ℕ) (q : ℕ) → times q ps ≡ bit (has pages q) → bit (has pages q) ≤ bit (has ps q)
present pages ps q e = by (has ps q) refl
  where
    by : (b : Bool) → has ps q ≡ b → bit (has pages q) ≤ bit b
    by true h = at_most_one (has pages q)
    by false h = omega (arith, absent q ps h)

encoded_few : (pages ps : List ℕ) (n : ℕ) → ((q : ℕ) → times q ps ≡ bit (has pages q)) → count_below (has pages) n ≤ count_below (has ps) n
encoded_few pages ps zero exact = omega arith
encoded_few pages ps (suc n) exact = omega (arith, encoded_few pages ps n exact, present pages ps n (exact n))

pub encoded_counted : (pages : List ℕ) (words : ℕ → ℕ → ℕ) (page n most : ℕ) (volume : State) → EncodesVolume pages words page volume → 5 * length (reach words page) ≤ most → 5 * count_below (has pages) n ≤ most
encoded_counted pages words page n most volume s few =
    omega (arith, encoded_few pages (reach words page) n s.exact, listed (reach words page) n)
