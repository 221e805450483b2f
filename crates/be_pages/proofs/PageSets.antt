-- A set of pages, with the position of each page in a list.
use Rattle.std.proofs.Common.{◌≡◌, ℕ, ◌+◌, ◌-◌, ◌<◌, ◌≤◌, ◌==◌, List, [], ◌∷◌, ◌++◌, length, cond, Bool, true, false, if◌then◌else◌, ap, sym, ◌∙◌, refl, inl, inr, arith, slice_set, count_by}
use Rattle.std.proofs.lemmas.Bool.{cases_eq, cases_lt, lt-ltb, ltb-true, ltb-false}
use Rattle.std.proofs.lemmas.Bool.Decides.{nat_tests}
use Rattle.std.proofs.lemmas.List.{get_or_past, length-set, get_or-set_same, get_or-set_other}
use Rattle.std.proofs.lemmas.List.Sums.{sum_by-append, sum_by-cons, sum_by-set, count_by-le-length}
use Rattle.be_pages.specs.Pages.{times}
use Rattle.be_pages.specs.PageSet.{has_page, is_place, one_if, page_at, place_in, IsListed}

-- a page of the set has a position, and no other page does
pub placed_if : (places : List ℕ) (q : ℕ) → has_page places q ≡ true → 0 < place_in places q
unfolding has_page
placed_if places q is = ltb-true 0 (place_in places q) is

pub unplaced_if : (places : List ℕ) (q : ℕ) → has_page places q ≡ false → place_in places q ≡ 0
unfolding has_page
unplaced_if places q not = omega (arith, ltb-false 0 (place_in places q) not)

pub has_if : (places : List ℕ) (q : ℕ) → 0 < place_in places q → has_page places q ≡ true
unfolding has_page
has_if places q some = lt-ltb 0 (place_in places q) some

pub hasnot_if : (places : List ℕ) (q : ℕ) → place_in places q ≡ 0 → has_page places q ≡ false
unfolding has_page
hasnot_if places q none = ap is_place none

pub flagged_below : (places : List ℕ) (p : ℕ) → has_page places p ≡ true → p < length places
flagged_below places p is = elim (cases_lt p (length places)) [
  | inl lt ↦ lt
  | inr past ↦ absurd (omega (arith, placed_if places p is, get_or_past places p 0 past))
]

-- how many pages are in the set after one gains or loses its position
counted : (places : List ℕ) (p n : ℕ) → p < length places → count_by is_place (slice_set places p n) + one_if (has_page places p) ≡ count_by is_place places + one_if (is_place n)
unfolding has_page
counted places p n lt = omega (arith, is_one (has_page places p), sum_by-set (λ x. cond {A = ℕ} (is_place x) 1 0) places p n 0 lt, is_one (is_place n))
  where
    is_one : (b : Bool) → one_if b ≡ cond {A = ℕ} b 1 0
    is_one true = refl
    is_one false = refl

-- if a page isn't in the set, the set has room
pub room_left : (places : List ℕ) (p : ℕ) → p < length places → has_page places p ≡ false → count_by is_place places < length places
room_left places p lt not = omega (arith, counted places p 1 lt, ap one_if not, count_by-le-length is_place (slice_set places p 1), length-set places p 1)

pub counted_in : (places : List ℕ) (p n : ℕ) → p < length places → has_page places p ≡ false → count_by is_place places + 1 ≡ count_by is_place (slice_set places p (n + 1))
counted_in places p n lt not = omega (arith, counted places p (n + 1) lt, ap one_if not, ap one_if (lt-ltb 0 (n + 1) (omega arith)))

pub counted_out : (places : List ℕ) (p : ℕ) → has_page places p ≡ true → count_by is_place places ≡ count_by is_place (slice_set places p 0) + 1
counted_out places p is = omega (arith, counted places p 0 (flagged_below places p is), ap one_if is)

pub counted_same : (places : List ℕ) (p n : ℕ) → has_page places p ≡ true → 0 < n → count_by is_place (slice_set places p n) ≡ count_by is_place places
counted_same places p n is some = omega (arith, counted places p n (flagged_below places p is), ap one_if is, ap one_if (lt-ltb 0 n some))

pub times_more : (q p : ℕ) (ps : List ℕ) → times q (ps ++ p ∷ []) ≡ times q ps + cond (p == q) 1 0
times_more q p ps = omega (arith, sum_by-append (λ p. cond {A = ℕ} (p == q) 1 0) ps (p ∷ []), sum_by-cons (λ p. cond {A = ℕ} (p == q) 1 0) p [])

pub same_test : (p : ℕ) → (p == p) ≡ true
same_test p = grind (arith, nat_tests)

pub other_test : (q p : ℕ) → (q ≡ p → ⊥) → (q == p) ≡ false
other_test q p ne = grind (arith, nat_tests)

pub same_page : (p : ℕ) → cond {A = ℕ} (p == p) 1 0 ≡ 1
same_page p = grind (arith, nat_tests)

pub other_page : (q p : ℕ) → (q ≡ p → ⊥) → cond {A = ℕ} (p == q) 1 0 ≡ 0
other_page q p ne = grind (arith, nat_tests)

-- which pages are in the set after one gains or loses its position
pub has_set : (places : List ℕ) (p n : ℕ) → p < length places → (q : ℕ) → has_page (slice_set places p n) q ≡ (if q == p then is_place n else has_page places q)
unfolding has_page
has_set places p n lt q = elim (cases_eq q p) [
  | inl e ↦ ap is_place (ap (place_in (slice_set places p n)) e ∙ get_or-set_same places p n 0 lt) ∙ sym (ap (λ (c : Bool). if c then is_place n else has_page places q) (ap (λ r. r == p) e ∙ same_test p))
  | inr ne ↦ ap is_place (get_or-set_other places p q n 0 ne) ∙ sym (ap (λ (c : Bool). if c then is_place n else has_page places q) (other_test q p ne))
]

-- a page is added at the end
module _ (list places : List ℕ) (n p : ℕ) (ln : n < length list) (lp : p < length places) (not : place_in places p ≡ 0) (is : IsListed list places n) where
  there : (q : ℕ) → (q ≡ p → ⊥) → place_in (slice_set places p (n + 1)) q ≡ place_in places q
  there q ne = get_or-set_other places p q (n + 1) 0 ne

  here : place_in (slice_set places p (n + 1)) p ≡ n + 1
  here = get_or-set_same places p (n + 1) 0 lp

  pub listed_in : IsListed (slice_set list n p) (slice_set places p (n + 1)) (n + 1)
  listed_in = record {
    inside = λ q some. elim (cases_eq q p) [
      | inl e ↦ omega (arith, here, ap (place_in (slice_set places p (n + 1))) e)
      | inr ne ↦ omega (arith, there q ne, is.inside q (omega (arith, some, there q ne)))
    ];
    lies = λ q some. elim (cases_eq q p) [
      | inl e ↦ ap (page_at (slice_set list n p)) (omega (arith, here, ap (place_in (slice_set places p (n + 1))) e)) ∙ get_or-set_same list n p 0 ln ∙ sym e
      | inr ne ↦
          let was : 0 < place_in places q = omega (arith, some, there q ne) in
          let within : place_in places q ≤ n = is.inside q was in
          ap (λ m. page_at (slice_set list n p) (m - 1)) (there q ne) ∙ get_or-set_other list n (place_in places q - 1) p 0 (λ h. absurd (omega (arith, h, was, within))) ∙ is.lies q was
    ];
    placed = λ i lt. elim (cases_eq i n) [
      | inl e ↦ ap (place_in (slice_set places p (n + 1))) (ap (page_at (slice_set list n p)) e ∙ get_or-set_same list n p 0 ln) ∙ omega (arith, here, e)
      | inr ne ↦
          let was : place_in places (page_at list i) ≡ i + 1 = is.placed i (omega (arith, lt, ne)) in
          ap (place_in (slice_set places p (n + 1))) (get_or-set_other list n i p 0 ne) ∙ there (page_at list i) (λ h. absurd (omega (arith, was, ap (place_in places) h, not))) ∙ was
    ];
  }

-- the last page is removed
module _ (list places : List ℕ) (n p : ℕ) (some : 0 < n) (top : p ≡ page_at list (n - 1)) (is : IsListed list places n) where
  pub top_place : place_in places p ≡ n
  top_place = ap (place_in places) top ∙ omega (arith, is.placed (n - 1) (omega (arith, some)), some)

  top_below : p < length places
  top_below = flagged_below places p (has_if places p (omega (arith, top_place, some)))

  stays : (q : ℕ) → (q ≡ p → ⊥) → place_in (slice_set places p 0) q ≡ place_in places q
  stays q ne = get_or-set_other places p q 0 0 ne

  gone : (q : ℕ) → 0 < place_in (slice_set places p 0) q → q ≡ p → ⊥
  gone q has e = absurd (omega (arith, has, ap (place_in (slice_set places p 0)) e, get_or-set_same places p 0 0 top_below))

  pub listed_out : IsListed list (slice_set places p 0) (n - 1)
  listed_out = record {
    inside = λ q has.
        let e : place_in (slice_set places p 0) q ≡ place_in places q = stays q (gone q has) in
        let was : 0 < place_in places q = omega (arith, e, has) in
        elim (cases_eq (place_in places q) n) [
          | inl last ↦ absurd (gone q has (sym (is.lies q was) ∙ ap (λ m. page_at list (m - 1)) last ∙ sym top))
          | inr ne ↦ omega (arith, e, ne, is.inside q was)
        ];
    lies = λ q has.
        let e : place_in (slice_set places p 0) q ≡ place_in places q = stays q (gone q has) in
        ap (λ m. page_at list (m - 1)) e ∙ is.lies q (omega (arith, e, has));
    placed = λ i lt.
        let was : place_in places (page_at list i) ≡ i + 1 = is.placed i (omega (arith, lt)) in
        stays (page_at list i) (λ h. absurd (omega (arith, was, ap (place_in places) h, top_place, lt))) ∙ was;
  }

-- a page is removed, and the last one takes its position
module _ (list places : List ℕ) (n p k l : ℕ) (place : k ≡ place_in places p) (has : 0 < k) (last : l ≡ page_at list (n - 1)) (le : n ≤ length list) (is : IsListed list places n) where
  within : k ≤ n
  within = omega (arith, place, is.inside p (omega (arith, place, has)))

  -- the page is at its position, and the last page has the last position
  at : page_at list (k - 1) ≡ p
  at = ap (λ m. page_at list (m - 1)) place ∙ is.lies p (omega (arith, place, has))

  pub last_place : place_in places l ≡ n
  last_place = top_place list places n l (omega (arith, within, has)) last is

  last_below : l < length places
  last_below = flagged_below places l (has_if places l (omega (arith, last_place, within, has)))

  page_below : p < length (slice_set places l k)
  page_below = omega (arith, length-set places l k, flagged_below places p (has_if places p (omega (arith, place, has))))

  out : (q : ℕ) → 0 < place_in (slice_set (slice_set places l k) p 0) q → q ≡ p → ⊥
  out q some e = absurd (omega (arith, some, ap (place_in (slice_set (slice_set places l k) p 0)) e, get_or-set_same (slice_set places l k) p 0 0 page_below))

  rest : (q : ℕ) → (q ≡ p → ⊥) → (q ≡ l → ⊥) → place_in (slice_set (slice_set places l k) p 0) q ≡ place_in places q
  rest q other ne = get_or-set_other (slice_set places l k) p q 0 0 other ∙ get_or-set_other places l q k 0 ne

  moved : (l ≡ p → ⊥) → place_in (slice_set (slice_set places l k) p 0) l ≡ k
  moved ne = get_or-set_other (slice_set places l k) p l 0 0 ne ∙ get_or-set_same places l k 0 last_below

  lower : (q : ℕ) → (q ≡ l → ⊥) → 0 < place_in places q → place_in places q < n
  lower q ne some = elim (cases_eq (place_in places q) n) [
    | inl e ↦ absurd (ne (sym (is.lies q some) ∙ ap (λ m. page_at list (m - 1)) e ∙ sym last))
    | inr other ↦ omega (arith, other, is.inside q some)
  ]

  pub listed_without : IsListed (slice_set list (k - 1) l) (slice_set (slice_set places l k) p 0) (n - 1)
  listed_without = record {
    inside = λ q some. elim (cases_eq q l) [
      | inl e ↦
          let ne : l ≡ p → ⊥ = λ h. out q some (e ∙ h) in
          omega (arith, ap (place_in (slice_set (slice_set places l k) p 0)) e, moved ne, place, lower p (λ h. ne (sym h)) (omega (arith, place, has)))
      | inr ne ↦
          let same : place_in (slice_set (slice_set places l k) p 0) q ≡ place_in places q = rest q (out q some) ne in
          omega (arith, same, lower q ne (omega (arith, same, some)))
    ];
    lies = λ q some. elim (cases_eq q l) [
      | inl e ↦
          let ne : l ≡ p → ⊥ = λ h. out q some (e ∙ h) in
          ap (λ m. page_at (slice_set list (k - 1) l) (m - 1)) (ap (place_in (slice_set (slice_set places l k) p 0)) e ∙ moved ne) ∙ get_or-set_same list (k - 1) l 0 (omega (arith, within, has, le)) ∙ sym e
      | inr ne ↦
          let same : place_in (slice_set (slice_set places l k) p 0) q ≡ place_in places q = rest q (out q some) ne in
          let was : 0 < place_in places q = omega (arith, same, some) in
          let lay : page_at list (place_in places q - 1) ≡ q = is.lies q was in
          ap (λ m. page_at (slice_set list (k - 1) l) (m - 1)) same
          ∙ get_or-set_other list (k - 1) (place_in places q - 1) l 0 (λ h. absurd (out q some (sym lay ∙ ap (page_at list) h ∙ at)))
          ∙ lay
    ];
    placed = λ i lt. elim (cases_eq i (k - 1)) [
      | inl e ↦
          ap (place_in (slice_set (slice_set places l k) p 0)) (ap (page_at (slice_set list (k - 1) l)) e ∙ get_or-set_same list (k - 1) l 0 (omega (arith, within, has, le)))
          ∙ moved (λ h. absurd (omega (arith, ap (place_in places) h, last_place, place, e, lt, has)))
          ∙ omega (arith, e, has)
      | inr ne ↦
          let was : place_in places (page_at list i) ≡ i + 1 = is.placed i (omega (arith, lt)) in
          ap (place_in (slice_set (slice_set places l k) p 0)) (get_or-set_other list (k - 1) i l 0 ne)
          ∙ rest (page_at list i) (λ h. absurd (omega (arith, ap (place_in places) h, was, place, ne, has))) (λ h. absurd (omega (arith, ap (place_in places) h, was, last_place, lt)))
          ∙ was
    ];
  }

  pub has_without : (q : ℕ) → has_page (slice_set (slice_set places l k) p 0) q ≡ (if q == p then false else has_page places q)
  unfolding has_page
  has_without q = elim (cases_eq q p) [
    | inl e ↦ has_set (slice_set places l k) p 0 page_below q ∙ ap (λ (c : Bool). if c then false else has_page (slice_set places l k) q) (ap (λ r. r == p) e ∙ same_test p) ∙ sym (ap (λ (c : Bool). if c then false else has_page places q) (ap (λ r. r == p) e ∙ same_test p))
    | inr ne ↦ elim (cases_eq q l) [
      | inl last ↦
          has_if (slice_set (slice_set places l k) p 0) q (omega (arith, has, ap (place_in (slice_set (slice_set places l k) p 0)) last, moved (λ h. ne (last ∙ h))))
          ∙ sym (ap (λ (c : Bool). if c then false else has_page places q) (other_test q p ne) ∙ has_if places q (omega (arith, ap (place_in places) last, last_place, within, has)))
      | inr other ↦ ap is_place (rest q ne other) ∙ sym (ap (λ (c : Bool). if c then false else has_page places q) (other_test q p ne))
    ]
  ]

  pub counted_without : count_by is_place places ≡ count_by is_place (slice_set (slice_set places l k) p 0) + 1
  counted_without =
      let l_has : has_page places l ≡ true = has_if places l (omega (arith, last_place, within, has)) in
      let p_has : has_page (slice_set places l k) p ≡ true = elim (cases_eq p l) [
        | inl e ↦ has_if (slice_set places l k) p (omega (arith, has, ap (place_in (slice_set places l k)) e, get_or-set_same places l k 0 last_below))
        | inr ne ↦ has_if (slice_set places l k) p (omega (arith, has, place, get_or-set_other places l p k 0 ne))
      ] in
      omega (arith, counted_same places l k l_has has, counted_out (slice_set places l k) p p_has)
