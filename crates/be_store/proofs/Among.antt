-- Whether a number is in a list, and what edits of an ascending list leave in it.
use Rattle.std.proofs.Common.{add-one, ◌≡◌, ◌<◌, ◌≤◌, ◌+◌, ◌-◌, ◌==◌, ◌&&◌, ◌||◌, not, if◌then◌else◌, ℕ, Bool, true, false, List, [], ◌∷◌, ◌++◌, drop, filter, length, refl, sym, ap, subst, take, take-append-drop, ◌∙◌, inl, inr, arith, get_or}
use Rattle.std.proofs.lemmas.Bool.{and_right, cases_eq, cases_lt, eq-eqb, eqb-true, ne_eqb}
use Rattle.std.proofs.lemmas.List.{take_more}
use Rattle.std.proofs.lemmas.List.Sorted.{searched}
use Rattle.std.proofs.lemmas.Result.{MatchResult-at_err, MatchResult-at_ok}
use Rattle.std.proofs.lemmas.List.Elements.{filter-append}
use Rattle.std.proofs.lemmas.List.Edits.{get_or-insert_above, get_or-insert_at, get_or-insert_below, get_or-remove_above, get_or-remove_below, length-insert, length-remove}
use Rattle.std.proofs.lemmas.List.Folds.{Any-from_list_any, list_any-append, list_any_at}
use Rattle.std.proofs.lemmas.List.Kept.{AllPairs-from_increasing}
use Rattle.std.proofs.lemmas.Map.Views.{any-filter_same}
use Rattle.std.specs.List.{Contains, insert, remove}
use Rattle.std.specs.List.Sorted.{IsBinarySearchResult, IsStrictlyIncreasing}
use Rattle.std.specs.Ordering.{nat_cmp}
use Rattle.std.specs.Prelude.{Result, Ok, Err, OnOk, OnErr, is_ok}
use Rattle.be_plan.proofs.Rising.{contains_of_is_in, in_by_place, rises_increasing, same_rising}
use Rattle.be_store.specs.Live.{is_among}
use Rattle.be_store.proofs.Answering.{held_at, lacks}

pub among_contains : (xs : List ℕ) (n : ℕ) → is_among xs n ≡ true → Contains xs n
among_contains xs n h =
    let found = Any-from_list_any (λ m. m == n) xs h in
    let same : found.1 ≡ n = eqb-true found.1 n found.4 in
    (found.0, found.2, subst (λ x. get_or xs found.0 x ≡ x) same found.3)

pub contains_among : (xs : List ℕ) (n : ℕ) → Contains xs n → is_among xs n ≡ true
contains_among xs n h = list_any_at (λ m. m == n) xs h.0 n h.1 (eq-eqb (get_or xs h.0 n) n h.2)

-- Ascending lists with the same members are equal.
pub same_members : (xs ys : List ℕ) → IsStrictlyIncreasing xs → IsStrictlyIncreasing ys → ((n : ℕ) → is_among xs n ≡ is_among ys n) → xs ≡ ys
same_members xs ys up uq same =
    same_rising xs ys (rises_increasing xs up) (rises_increasing ys uq)
    (λ n h. in_by_place ys n (among_contains ys n (sym (same n) ∙ contains_among xs n (contains_of_is_in xs n h))))
    (λ n h. in_by_place xs n (among_contains xs n (same n ∙ contains_among ys n (contains_of_is_in ys n h))))

pub among_append : (xs ys : List ℕ) (n : ℕ) → is_among (xs ++ ys) n ≡ (is_among xs n || is_among ys n)
among_append xs ys n = list_any-append (λ m. m == n) xs ys

pub among_filter : (p : ℕ → Bool) (xs : List ℕ) (n : ℕ) → is_among (filter p xs) n ≡ (p n && is_among xs n)
among_filter p xs n = any-filter_same (λ m. m == n) p (p n) (λ m e. ap p (eqb-true m n e)) xs

or_swap : (a b c : Bool) → (a || (b || c)) ≡ ((a || c) || b)
or_swap true b c = refl
or_swap false true true = refl
or_swap false true false = refl
or_swap false false true = refl
or_swap false false false = refl

pub among_insert : (xs : List ℕ) (i y n : ℕ) → is_among (insert xs i y) n ≡ (is_among xs n || (y == n))
among_insert xs i y n =
    among_append (take i xs) (y ∷ drop i xs) n
    ∙ (or_swap (is_among (take i xs) n) (y == n) (is_among (drop i xs) n)
    ∙ ap (λ b. b || (y == n)) (sym (among_append (take i xs) (drop i xs) n) ∙ ap (λ l. is_among l n) (take-append-drop i xs)))

pub not_falling : (xs : List ℕ) → IsStrictlyIncreasing xs → (i j : ℕ) → i ≤ j → j < length xs → get_or xs i 0 ≤ get_or xs j 0
not_falling xs up i j le lt = elim (cases_lt i j) [
  | inl before ↦ (let l = AllPairs-from_increasing xs up i j 0 before lt in omega (arith, l))
  | inr same ↦ (let e : i ≡ j = omega (arith, le, same) in subst (λ k. get_or xs i 0 ≤ get_or xs k 0) e (omega arith))
]

pub rising_insert : (xs : List ℕ) (i y : ℕ) → IsStrictlyIncreasing xs → i ≤ length xs → ((k : ℕ) → k < i → get_or xs k 0 < y) →
    ((k : ℕ) → i ≤ k → k < length xs → y < get_or xs k 0) → IsStrictlyIncreasing (insert xs i y)
rising_insert xs i y up short below above k lt =
    let long = length-insert xs i y short in
    elim (cases_lt (k + 1) i) [
      | inl early ↦
          (let a = get_or-insert_below xs i y 0 k (omega (arith, early)) short in
          let b = get_or-insert_below xs i y 0 (k + 1) early short in
          let c : get_or xs k 0 < get_or xs (k + 1) 0 = up k (omega (arith, early, short)) in omega (arith, a, b, c))
      | inr late ↦ elim (cases_lt k i) [
        | inl edge ↦
            (let at : k + 1 ≡ i = omega (arith, late, edge) in
            let a = get_or-insert_below xs i y 0 k edge short in
            let b : get_or (insert xs i y) (k + 1) 0 ≡ y = ap (λ j. get_or (insert xs i y) j 0) at ∙ get_or-insert_at xs i y 0 short in
            let c = below k edge in omega (arith, a, b, c))
        | inr past ↦ elim (cases_lt i k) [
          | inl beyond ↦
              (let j : ℕ = k - 1 in
              let e : j + 1 ≡ k = omega (arith, beyond) in
              let a : get_or (insert xs i y) k 0 ≡ get_or xs j 0 = ap (λ m. get_or (insert xs i y) m 0) (sym e) ∙ get_or-insert_above xs i y 0 j (omega (arith, beyond)) short in
              let b = get_or-insert_above xs i y 0 k past short in
              let c : get_or xs j 0 < get_or xs (j + 1) 0 = up j (omega (arith, lt, long, e)) in
              let d : get_or xs (j + 1) 0 ≡ get_or xs k 0 = ap (λ m. get_or xs m 0) e in omega (arith, a, b, c, d))
          | inr here ↦
              (let e : k ≡ i = omega (arith, past, here) in
              let a : get_or (insert xs i y) k 0 ≡ y = ap (λ m. get_or (insert xs i y) m 0) e ∙ get_or-insert_at xs i y 0 short in
              let b = get_or-insert_above xs i y 0 k past short in
              let c = above k past (omega (arith, lt, long)) in omega (arith, a, b, c))
        ]
      ]
    ]

pub rising_remove : (xs : List ℕ) (i : ℕ) → IsStrictlyIncreasing xs → i < length xs → IsStrictlyIncreasing (remove xs i)
rising_remove xs i up inside k lt =
    let long = length-remove xs i inside in
    elim (cases_lt (k + 1) i) [
      | inl early ↦
          (let a = get_or-remove_below xs i 0 k (omega (arith, early)) inside in
          let b = get_or-remove_below xs i 0 (k + 1) early inside in
          let c : get_or xs k 0 < get_or xs (k + 1) 0 = up k (omega (arith, early, inside)) in omega (arith, a, b, c))
      | inr late ↦ elim (cases_lt k i) [
        | inl edge ↦
            (let a = get_or-remove_below xs i 0 k edge inside in
            let b = get_or-remove_above xs i 0 (k + 1) late inside in
            let c = AllPairs-from_increasing xs up k (k + 1 + 1) 0 (omega arith) (omega (arith, lt, long)) in omega (arith, a, b, c))
        | inr past ↦
            (let a = get_or-remove_above xs i 0 k past inside in
            let b = get_or-remove_above xs i 0 (k + 1) (omega (arith, past)) inside in
            let c : get_or xs (k + 1) 0 < get_or xs (k + 1 + 1) 0 = up (k + 1) (omega (arith, lt, long)) in omega (arith, a, b, c))
      ]
    ]

-- A number that was removed is no longer in the list.
removed_lacks : (xs : List ℕ) (i : ℕ) → IsStrictlyIncreasing xs → i < length xs → is_among (remove xs i) (get_or xs i 0) ≡ false
removed_lacks xs i up inside =
    let long = length-remove xs i inside in
    lacks (remove xs i) (get_or xs i 0) i
    (λ k early. let a = get_or-remove_below xs i 0 k early inside in let c = AllPairs-from_increasing xs up k i 0 early inside in omega (arith, a, c))
    (λ k late short. let a = get_or-remove_above xs i 0 k late inside in let c = AllPairs-from_increasing xs up i (k + 1) 0 (omega (arith, late)) (omega (arith, short, long)) in omega (arith, a, c))

without_this : (a d x : Bool) → x ≡ false → (a || d) ≡ (((a || (x || false)) || d) && not x)
without_this true true x e = ap (λ (b : Bool). not b) (sym e)
without_this true false x e = ap (λ (b : Bool). not b) (sym e)
without_this false true x e = by x e
  where
    by : (b : Bool) → b ≡ false → true ≡ (((b || false) || true) && not b)
    by true f = f
    by false f = refl
without_this false false x e = by x e
  where
    by : (b : Bool) → b ≡ false → false ≡ (((b || false) || false) && not b)
    by true f = refl
    by false f = refl

pub among_remove : (xs : List ℕ) (i n : ℕ) → IsStrictlyIncreasing xs → i < length xs → is_among (remove xs i) n ≡ (is_among xs n && not (get_or xs i 0 == n))
among_remove xs i n up inside =
    let x : ℕ = get_or xs i 0 in
    elim (cases_eq x n) [
      | inl same ↦
          ap (is_among (remove xs i)) (sym same) ∙ (removed_lacks xs i up inside
          ∙ sym (and_right (is_among xs n) (not (x == n)) (ap (λ (b : Bool). not b) (eq-eqb x n same))))
      | inr other ↦
          (let parts : is_among xs n ≡ ((is_among (take i xs) n || ((x == n) || false)) || is_among (drop (i + 1) xs) n) =
          ap (λ l. is_among l n) (sym (take-append-drop (i + 1) xs))
          ∙ (among_append (take (i + 1) xs) (drop (i + 1) xs) n
          ∙ ap (λ b. b || is_among (drop (i + 1) xs) n) (ap (λ l. is_among l n) (take_more xs i 0 inside) ∙ among_append (take i xs) (x ∷ []) n)) in
          ap (λ k. is_among (take i xs ++ drop k xs) n) (sym (add-one i))
          ∙ (among_append (take i xs) (drop (i + 1) xs) n
          ∙ (without_this (is_among (take i xs) n) (is_among (drop (i + 1) xs) n) (x == n) (ne_eqb x n other)
          ∙ ap (λ b. b && not (x == n)) (sym parts))))
    ]

-- What a binary search in an ascending list reports.
abbrev pub IsFoundAt : List ℕ → ℕ → ℕ → Type 0
IsFoundAt xs x i = (i < length xs) × (get_or xs i 0 ≡ x)

abbrev pub IsGapAt : List ℕ → ℕ → ℕ → Type 0
IsGapAt xs x i = (i ≤ length xs) × ((k : ℕ) → k < i → get_or xs k 0 < x) × ((k : ℕ) → i ≤ k → k < length xs → x < get_or xs k 0)

pub found_here : (xs : List ℕ) (x i : ℕ) (r : Result ℕ ℕ) → IsBinarySearchResult (λ y. nat_cmp y x) xs r → IsStrictlyIncreasing xs → r ≡ Ok i → IsFoundAt xs x i
found_here xs x i r position up is = MatchResult-at_ok (IsFoundAt xs x) (IsGapAt xs x) i is (searched xs x r position (not_falling xs up))

pub lacking_here : (xs : List ℕ) (x i : ℕ) (r : Result ℕ ℕ) → IsBinarySearchResult (λ y. nat_cmp y x) xs r → IsStrictlyIncreasing xs → r ≡ Err i → IsGapAt xs x i
lacking_here xs x i r position up is = MatchResult-at_err (IsFoundAt xs x) (IsGapAt xs x) i is (searched xs x r position (not_falling xs up))

pub gap_lacks : (xs : List ℕ) (x i : ℕ) → IsGapAt xs x i → is_among xs x ≡ false
gap_lacks xs x i gap = lacks xs x i gap.1 gap.2

pub rising_in_gap : (xs : List ℕ) (x i : ℕ) → IsStrictlyIncreasing xs → IsGapAt xs x i → IsStrictlyIncreasing (insert xs i x)
rising_in_gap xs x i up gap = rising_insert xs i x up gap.0 gap.1 gap.2

pub on_either : {T E : Type 0} (r : Result T E) (A B P : Type 0) → OnOk r A → OnErr r B → (A → P) → (B → P) → P
on_either (Ok x) A B P a b f g = f a
on_either (Err e) A B P a b f g = g b

or_first : (a b : Bool) → a ≡ true → (a || b) ≡ true
or_first true b h = refl
or_first false b h = cc

-- A number that was in the list is still there after an insertion.
pub kept_insert : (xs : List ℕ) (i y n : ℕ) → is_among xs n ≡ true → is_among (insert xs i y) n ≡ true
kept_insert xs i y n h = among_insert xs i y n ∙ or_first (is_among xs n) (y == n) h

-- Whether a search finds the number.
pub search_reports : (xs : List ℕ) (x : ℕ) (r : Result ℕ ℕ) → IsBinarySearchResult (λ y. nat_cmp y x) xs r → IsStrictlyIncreasing xs → is_ok r ≡ is_among xs x
search_reports xs x (Ok i) position up = let at = found_here xs x i (Ok i) position up refl in sym (held_at xs x i at.0 at.1)
search_reports xs x (Err i) position up = sym (gap_lacks xs x i (lacking_here xs x i (Err i) position up refl))

pub both_gone : (a b c : Bool) → ((a && not b) && not c) ≡ (a && not (b || c))
both_gone true true c = refl
both_gone true false c = refl
both_gone false b c = refl

-- Whether a number is among the first k + 1 numbers.
pub among_more : (xs : List ℕ) (k n : ℕ) → k < length xs → is_among (take (k + 1) xs) n ≡ (is_among (take k xs) n || (get_or xs k 0 == n))
among_more xs k n lt = ap (λ l. is_among l n) (take_more xs k 0 lt) ∙ (among_append (take k xs) (get_or xs k 0 ∷ []) n ∙ ap (λ b. is_among (take k xs) n || b) (or_none (get_or xs k 0 == n)))
  where
    or_none : (b : Bool) → (b || false) ≡ b
    or_none true = refl
    or_none false = refl

pub both_there : (a b c : Bool) → ((a || b) || c) ≡ (a || (b || c))
both_there true b c = refl
both_there false b c = refl

-- Filtering the first k + 1 numbers.
pub filter_more : (p : ℕ → Bool) (xs : List ℕ) (k : ℕ) → k < length xs → filter p (take (k + 1) xs) ≡ filter p (take k xs) ++ (if p (get_or xs k 0) then get_or xs k 0 ∷ [] else [])
filter_more p xs k lt = ap (filter p) (take_more xs k 0 lt) ∙ filter-append p (take k xs) (get_or xs k 0 ∷ [])

-- Removing a number that isn't in the list.
pub gone_already : (xs : List ℕ) (x n : ℕ) → is_among xs x ≡ false → is_among xs n ≡ (is_among xs n && not (x == n))
gone_already xs x n none = elim (cases_eq x n) [
  | inl same ↦ (let out : is_among xs n ≡ false = ap (is_among xs) (sym same) ∙ none in out ∙ sym (ap (λ b. b && not (x == n)) out))
  | inr other ↦ sym (ap (λ b. is_among xs n && not b) (ne_eqb x n other) ∙ and_true (is_among xs n))
]
  where
    and_true : (b : Bool) → (b && true) ≡ b
    and_true true = refl
    and_true false = refl

-- Inserting a number that is already in the list.
pub there_already : (xs : List ℕ) (x n : ℕ) → is_among xs x ≡ true → is_among xs n ≡ (is_among xs n || (x == n))
there_already xs x n has = elim (cases_eq x n) [
  | inl same ↦ (let in_it : is_among xs n ≡ true = ap (is_among xs) (sym same) ∙ has in in_it ∙ sym (ap (λ b. b || (x == n)) in_it))
  | inr other ↦ sym (ap (λ b. is_among xs n || b) (ne_eqb x n other) ∙ or_false (is_among xs n))
]
  where
    or_false : (b : Bool) → (b || false) ≡ b
    or_false true = refl
    or_false false = refl

-- Searching a slice of a list.
pub of_slice : (xs ys : List ℕ) (x : ℕ) (r : Result ℕ ℕ) → xs ≡ ys → IsBinarySearchResult (λ y. nat_cmp y x) xs r → IsBinarySearchResult (λ y. nat_cmp y x) ys r
of_slice xs ys x r e h = subst (λ l. IsBinarySearchResult (λ y. nat_cmp y x) l r) e h
