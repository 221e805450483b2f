-- Which of the pairs that it has ahead a walk passes.
use Rattle.std.proofs.Common.{◌≡◌, ℕ, zero, suc, ◌+◌, ◌-◌, ◌<◌, ◌≤◌, ◌⊎◌, List, [], ◌∷◌, ◌++◌, length, get_or, take, drop, reverse, ap, sym, subst, ◌∙◌, refl, inl, inr, arith, Bool, true, false, not, cond, Some, None, append_assoc}
use mathlib.Core.List.{reverse-cons}
use Rattle.std.specs.List.{filter, AllByRecursion}
use Rattle.std.specs.declared.cmp.Ordering.{Ordering}
use Rattle.std.specs.declared.cmp.Ordering.TheVariants.{Less, Equal, Greater}
use Rattle.std.specs.declared.option.Option.{Option}
use Rattle.std.specs.Ordering.{is_gt, is_le}
use Rattle.std.proofs.Math.Seq.{take-append-add}
use Rattle.std.proofs.lemmas.Bool.{cases_lt, false≢true}
use Rattle.std.proofs.lemmas.List.{append-nil, drop-append-le, drop_all, drop_more, get_or-drop, get_or-reverse, get_or-take, get_or_append_left, length-append, length-drop, length-reverse, length-take-le, map-append, nil_from_length, take-append-le, take_all, take_more}
use Rattle.std.proofs.lemmas.List.Elements.{All-filter, All-from_recursion, filter-append, recursion_from_All}
use Rattle.be_pages.specs.declared.room.PageState.{PageState}
use Rattle.be_tree_reading.specs.Pair.{Pair}
use Rattle.be_tree_reading.specs.Key.{AllAbove, IsRising, key_cmp}
use Rattle.be_tree_reading.specs.Page.{IsReadableAt, item_at, item_place, items_of}
use Rattle.be_tree_reading.specs.Range.{AreLong, HasFirst, HasGot, is_from, is_past, number_of, pairs_from}
use Rattle.be_tree_reading.specs.Walk.{IsAhead, IsLeaf, IsWalk, StaysFalse, from_start, is_before_end, items_ahead, number_ahead, number_from, turned}
use Rattle.be_tree_reading.specs.Way.{IsLastOf, is_until, numbers_in, pairs_until, walk}
use Rattle.be_tree_reading.specs.declared.way.Leaf.{Leaf}
use Rattle.be_tree_reading.specs.declared.way.Walk.{Walk}
use Rattle.be_tree_reading.proofs.Frame.{readable_kept}
use Rattle.be_tree_reading.proofs.Items.{item_get, items_count}
use Rattle.be_tree_reading.proofs.Order.{AllAbove_trans, key_cmp_flip, less_to_at_most}
use Rattle.be_tree_reading.proofs.Ranges.{from_greater, from_less}
use Rattle.be_tree_reading.proofs.Reading.Leaves.{leaf_same}
use Rattle.be_tree_reading.proofs.Untils.{until_above}

-- the pairs whose keys pass a test
abbrev kept : (List ℕ → Bool) → List Pair → List Pair
kept test xs = filter (λ x. test x.key) xs

pub reverse_nil : (xs : List Pair) → xs ≡ [] → reverse xs ≡ []
reverse_nil xs e = nil_from_length (reverse xs) (length-reverse xs ∙ ap length e)

-- filtering a reversed list
filter_reverse : (test : List ℕ → Bool) (xs : List Pair) → kept test (reverse xs) ≡ reverse (kept test xs)
filter_reverse test [] = ap (kept test) (reverse_nil [] refl) ∙ sym (reverse_nil [] refl)
filter_reverse test (x ∷ xs) =
    ap (kept test) (reverse-cons x xs)
    ∙ filter-append (λ (y : Pair). test y.key) (reverse xs) (x ∷ [])
    ∙ ap (λ ys. ys ++ kept test (x ∷ [])) (filter_reverse test xs)
    ∙ by (test x.key)
  where
    by : (b : Bool) → reverse (kept test xs) ++ cond b (x ∷ []) [] ≡ reverse (cond b (x ∷ kept test xs) (kept test xs))
    by true = sym (reverse-cons x (kept test xs))
    by false = append-nil (reverse (kept test xs))

-- what holds for each element of a list and for one more element holds for all
all_snoc : (P : Pair → Type 0) (ys : List Pair) (x : Pair) → AllByRecursion P ys → P x → AllByRecursion P (ys ++ x ∷ [])
all_snoc P [] x h p = (p, tt)
all_snoc P (y ∷ ys) x h p = (h.0, all_snoc P ys x h.1 p)

all_reverse : (P : Pair → Type 0) (xs : List Pair) → AllByRecursion P xs → AllByRecursion P (reverse xs)
all_reverse P [] h = subst (AllByRecursion P) (sym (reverse_nil [] refl)) tt
all_reverse P (x ∷ xs) h = subst (AllByRecursion P) (sym (reverse-cons x xs)) (all_snoc P (reverse xs) x (all_reverse P xs h.1) h.0)

-- a filtered list also ascends
above_kept : (k : List ℕ) (p : Pair → Bool) (xs : List Pair) → AllAbove k xs → AllAbove k (filter p xs)
above_kept k p [] h = tt
above_kept k p (x ∷ xs) h = by (p x) (above_kept k p xs h.1)
  where
    by : (b : Bool) → AllAbove k (filter p xs) → AllAbove k (cond b (x ∷ filter p xs) (filter p xs))
    by true rest = (h.0, rest)
    by false rest = rest

rising_kept : (p : Pair → Bool) (xs : List Pair) → IsRising xs → IsRising (filter p xs)
rising_kept p [] h = tt
rising_kept p (x ∷ xs) h = by (p x) (rising_kept p xs h.1)
  where
    by : (b : Bool) → IsRising (filter p xs) → IsRising (cond b (x ∷ filter p xs) (filter p xs))
    by true rest = (above_kept x.key p xs h.0, rest)
    by false rest = rest

-- once a key of an ascending list is above the bound, all later ones are
not_le : (o : Ordering) → is_le o ≡ false → o ≡ Greater
not_le Less e = absurd (false≢true (sym e))
not_le Equal e = absurd (false≢true (sym e))
not_le Greater e = refl

rises_stay : (high : Option (List ℕ)) (xs : List Pair) → IsRising xs → StaysFalse (is_until high false) xs
rises_stay high [] rising = tt
rises_stay None (x ∷ xs) rising = (λ e. absurd (false≢true (sym e)), rises_stay None xs rising.1)
rises_stay (Some k) (x ∷ xs) rising = (λ e. until_above k false xs (AllAbove_trans x.key k xs (not_le (key_cmp x.key k) e) rising.0), rises_stay (Some k) xs rising.1)

-- once a key is below it, all earlier ones are
stays_snoc : (test : List ℕ → Bool) (ys : List Pair) (x : Pair) → StaysFalse test ys → AllByRecursion (λ y. test y.key ≡ false → test x.key ≡ false) ys → StaysFalse test (ys ++ x ∷ [])
stays_snoc test [] x stays later = (λ e. refl, tt)
stays_snoc test (y ∷ ys) x stays later = (
  λ e. filter-append (λ (z : Pair). test z.key) ys (x ∷ []) ∙ ap (λ zs. zs ++ kept test (x ∷ [])) (stays.0 e) ∙ ap (λ b. cond b (x ∷ []) []) (later.0 e),
  stays_snoc test ys x stays.1 later.1,
)

earlier_below : (low : List ℕ) (x : Pair) (ys : List Pair) → AllAbove x.key ys → AllByRecursion (λ y. is_from low false y.key ≡ false → is_from low false x.key ≡ false) ys
earlier_below low x [] above = tt
earlier_below low x (y ∷ ys) above = (
  λ e. from_less low false x.key (less_to_at_most x.key y.key low (key_cmp_flip y.key x.key above.0) (λ gt. false≢true (sym e ∙ from_greater low false y.key gt))),
  earlier_below low x ys above.1,
)

falls_stay : (low : List ℕ) (xs : List Pair) → IsRising xs → StaysFalse (is_from low false) (reverse xs)
falls_stay low [] rising = subst (StaysFalse (is_from low false)) (sym (reverse_nil [] refl)) tt
falls_stay low (x ∷ xs) rising =
    subst (StaysFalse (is_from low false)) (sym (reverse-cons x xs))
    (stays_snoc (is_from low false) (reverse xs) x (falls_stay low xs rising.1) (all_reverse (λ y. is_from low false y.key ≡ false → is_from low false x.key ≡ false) xs (earlier_below low x xs rising.0)))

-- a tree's pairs from where a way begins
pub begun_stays : (back strict : Bool) (low : List ℕ) (high : Option (List ℕ)) (xs : List Pair) → IsRising xs → StaysFalse (is_before_end back low high) (from_start back strict low high xs)
begun_stays false strict low high xs rising = rises_stay high (pairs_from xs low strict) (rising_kept (λ x. is_from low strict x.key) xs rising)
begun_stays true strict low high xs rising = falls_stay low (pairs_until xs high strict) (rising_kept (λ x. is_until high strict x.key) xs rising)

pub begun_on_way : (back strict : Bool) (low : List ℕ) (high : Option (List ℕ)) (xs : List Pair) → kept (is_before_end back low high) (from_start back strict low high xs) ≡ walk back strict low high xs
begun_on_way false strict low high xs = refl
begun_on_way true strict low high xs = filter_reverse (is_from low false) (pairs_until xs high strict)

pub begun_long : (back strict : Bool) (low : List ℕ) (high : Option (List ℕ)) (xs : List Pair) → AreLong xs → AreLong (from_start back strict low high xs)
begun_long false strict low high xs long = All-filter (λ (x : Pair). is_from low strict x.key) (λ (x : Pair). 8 ≤ length x.key) xs long
begun_long true strict low high xs long =
    let ys = pairs_until xs high strict in
    All-from_recursion (λ (x : Pair). 8 ≤ length x.key) (reverse ys)
    (all_reverse (λ x. 8 ≤ length x.key) ys (recursion_from_All (λ (x : Pair). 8 ≤ length x.key) ys (All-filter (λ (x : Pair). is_until high strict x.key) (λ (x : Pair). 8 ≤ length x.key) xs long)))

-- what comparing a key with the end of a way shows
pub not_past : (high : Option (List ℕ)) (key : List ℕ) → not (is_past high key) ≡ is_until high false key
not_past None key = refl
not_past (Some high) key = elim (key_cmp key high) as (λ o. not (is_gt o) ≡ is_le o) [ Less ↦ refl | Equal ↦ refl | Greater ↦ refl ]

-- a part of what is ahead
pub stays_right : (test : List ℕ → Bool) (xs ys : List Pair) → StaysFalse test (xs ++ ys) → StaysFalse test ys
stays_right test [] ys stays = stays
stays_right test (x ∷ xs) ys stays = stays_right test xs ys stays.1

-- from a pair that fails on, none passes
back_fails : (test : List ℕ → Bool) (xs : List Pair) (n : ℕ) (d : Pair) → StaysFalse test xs → n < length xs → test (get_or xs n d).key ≡ false → kept test (drop n xs) ≡ []
back_fails test [] n d stays lt e = absurd (omega (arith, lt))
back_fails test (x ∷ xs) zero d stays lt e = ap (λ b. cond b (x ∷ kept test xs) (kept test xs)) e ∙ stays.0 e
back_fails test (x ∷ xs) (suc n) d stays lt e = back_fails test xs n d stays.1 (omega (arith, lt)) e

-- up to a pair that passes, all pass
front_passes : (test : List ℕ → Bool) (xs : List Pair) (n : ℕ) (d : Pair) → StaysFalse test xs → n < length xs → test (get_or xs n d).key ≡ true → kept test xs ≡ take (suc n) xs ++ kept test (drop (suc n) xs)
front_passes test [] n d stays lt e = absurd (omega (arith, lt))
front_passes test (x ∷ xs) zero d stays lt e = ap (λ b. cond b (x ∷ kept test xs) (kept test xs)) e
front_passes test (x ∷ xs) (suc n) d stays lt e =
    let rest = front_passes test xs n d stays.1 (omega (arith, lt)) e in
    let more = kept test (drop (suc n) xs) in
    elim (test x.key) as (λ b. test x.key ≡ b → cond b (x ∷ kept test xs) (kept test xs) ≡ x ∷ (take (suc n) xs ++ more)) [
      | true ↦ λ is. ap (λ ys. x ∷ ys) rest
      | false ↦ λ is. absurd (omega (arith, ap length (sym (stays.0 is) ∙ rest), length-append (take (suc n) xs) more, length-take-le (suc n) xs (omega (arith, lt))))
    ] refl

-- a leaf's first items, the last of which passes
module _ (test : List ℕ → Bool) (zs rest : List Pair) (want count most : ℕ) (stays : StaysFalse test (zs ++ rest)) (in_leaf : most ≤ length zs) (in_want : most ≤ want) (at_most : count ≤ most)
    (within : (d : Pair) → 0 < count → test (get_or zs (count - 1) d).key ≡ true) where
  front : kept test (zs ++ rest) ≡ take count zs ++ kept test (drop count zs ++ rest)
  front = elim (cases_lt 0 count) [
    | inl lt ↦
        let d : Pair = record { key = []; payload = [] } in
        let e : suc (count - 1) ≡ count = omega (arith, lt) in
        front_passes test (zs ++ rest) (count - 1) d stays (omega (arith, length-append zs rest, lt, at_most, in_leaf))
        (ap (λ (x : Pair). test x.key) (get_or_append_left zs rest d (count - 1) (omega (arith, lt, at_most, in_leaf))) ∙ within d lt)
        ∙ ap (λ n. take n (zs ++ rest) ++ kept test (drop n (zs ++ rest))) e
        ∙ ap (λ xs. xs ++ kept test (drop count (zs ++ rest))) (take-append-le count zs rest (omega (arith, at_most, in_leaf)))
        ∙ ap (λ xs. take count zs ++ kept test xs) (drop-append-le count zs rest (omega (arith, at_most, in_leaf)))
    | inr none ↦
        let e : count ≡ 0 = omega (arith, none) in
        sym (ap (λ n. take n zs ++ kept test (drop n zs ++ rest)) e)
  ]

  taken : length (take count zs) ≡ count
  taken = length-take-le count zs (omega (arith, at_most, in_leaf))

  -- the next one fails, so no later one passes
  pub run_ends : ((d : Pair) → count < most → test (get_or zs count d).key ≡ false) → count < most → take want (kept test (zs ++ rest)) ≡ take count zs ++ take 0 (kept test rest)
  run_ends past less =
      let d : Pair = record { key = []; payload = [] } in
      let none : kept test (drop count zs ++ rest) ≡ [] =
      sym (ap (kept test) (drop-append-le count zs rest (omega (arith, at_most, in_leaf))))
      ∙ back_fails test (zs ++ rest) count d stays (omega (arith, length-append zs rest, less, in_leaf))
      (ap (λ (x : Pair). test x.key) (get_or_append_left zs rest d count (omega (arith, less, in_leaf))) ∙ past d less) in
      ap (take want) (front ∙ ap (λ ys. take count zs ++ ys) none ∙ append-nil (take count zs))
      ∙ take_all want (take count zs) (omega (arith, taken, at_most, in_want))
      ∙ sym (append-nil (take count zs))

  -- all that were tested pass, and they are the whole leaf or the number wanted
  pub run_goes_on : count ≡ most → (most ≡ length zs) ⊎ (most ≡ want) → take want (kept test (zs ++ rest)) ≡ take count zs ++ take (want - count) (kept test rest)
  run_goes_on all whole =
      let more = kept test (drop count zs ++ rest) in
      let e : want ≡ length (take count zs) + (want - count) = omega (arith, taken, at_most, in_want) in
      ap (take want) front
      ∙ ap (λ n. take n (take count zs ++ more)) e
      ∙ take-append-add (take count zs) more (want - count)
      ∙ ap (λ ys. take count zs ++ ys) (tail whole)
    where
      tail : (most ≡ length zs) ⊎ (most ≡ want) → take (want - count) (kept test (drop count zs ++ rest)) ≡ take (want - count) (kept test rest)
      tail (inl leaf) = ap (λ xs. take (want - count) (kept test (xs ++ rest))) (drop_all count zs (omega (arith, all, leaf)))
      tail (inr enough) =
          let none : want - count ≡ 0 = omega (arith, all, enough) in
          ap (λ n. take n (kept test (drop count zs ++ rest))) none ∙ sym (ap (λ n. take n (kept test rest)) none)

-- an item in a leaf that a walk has ahead
pub record IsItemAhead (words : ℕ → ℕ) (back : Bool) (at i : ℕ) : Type 0 where
  pub in_items : number_from back at i < words 1
  pub left : back ≡ true → i < at
  pub same : (d : Pair) → get_or (turned back (drop at (items_of words)) (take at (items_of words))) i d ≡ item_at words (item_place (number_from back at i))

item_ahead : (words : ℕ → ℕ) (back : Bool) (at i : ℕ) → at ≤ words 1 → i < length (turned back (drop at (items_of words)) (take at (items_of words))) → IsItemAhead words back at i
item_ahead words false at i le lt =
    let in_items : at + i < words 1 = omega (arith, lt, length-drop at (items_of words), items_count words) in
    record { in_items = in_items; left = λ e. absurd (false≢true e); same = λ d. get_or-drop at (items_of words) i d ∙ item_get words (at + i) d in_items }
item_ahead words true at i le lt =
    let items = items_of words in
    let short : length (take at items) ≡ at = length-take-le at items (omega (arith, le, items_count words)) in
    let within : i < length (take at items) = omega (arith, lt, length-reverse (take at items)) in
    let in_items : at - 1 - i < words 1 = omega (arith, le, within, short) in
    record {
      in_items = in_items;
      left = λ e. omega (arith, within, short);
      same = λ d. get_or-reverse (take at items) i d within
          ∙ ap (λ n. get_or (take at items) (n - 1 - i) d) short
          ∙ get_or-take at items (at - 1 - i) d (omega (arith, within, short))
          ∙ item_get words (at - 1 - i) d in_items;
    }

pub ahead_is : (page_state : ℕ → PageState) (words : ℕ → ℕ → ℕ) (leaf : Leaf) (i : ℕ) → IsLeaf page_state words leaf → i < length (items_ahead words leaf) → IsAhead leaf i
ahead_is page_state words leaf i is lt =
    let item = item_ahead (words leaf.page) leaf.back leaf.at i is.1 lt in
    record { in_page = omega (arith, item.in_items, is.0.node.is_page.few); left = item.left }

-- the same at its place, after pages were only read
pub record IsPlaceAhead (page_state : ℕ → PageState) (words before : ℕ → ℕ → ℕ) (leaf : Leaf) (i at : ℕ) : Type 0 where
  pub readable : IsReadableAt page_state words leaf.page at
  pub same : (d : Pair) → item_at (words leaf.page) at ≡ get_or (items_ahead before leaf) i d

pub place_ahead : (s t : ℕ → PageState) (v w : ℕ → ℕ → ℕ) (leaf : Leaf) (i at : ℕ) → t ≡ s → w ≡ v → at ≡ item_place (number_ahead leaf i) → IsLeaf s v leaf → i < length (items_ahead v leaf)
    → IsPlaceAhead t w v leaf i at
place_ahead s t v w leaf i at es ew e is lt =
    let item = item_ahead (v leaf.page) leaf.back leaf.at i is.1 lt in
    let here = item_place (number_ahead leaf i) in
    let first : IsPlaceAhead s v v leaf i here = record {
      readable = (readable_kept (s leaf.page) is.0.page_in_use, (omega (arith, item.in_items, is.0.node.is_page.few), is.0.node.is_page.each (number_ahead leaf i) item.in_items));
      same = λ d. sym (item.same d);
    } in
    subst (λ p. IsPlaceAhead t w v leaf i p) (sym e) (subst (λ u. IsPlaceAhead t u v leaf i here) (sym ew) (subst (λ r. IsPlaceAhead r v v leaf i here) (sym es) first))

-- a leaf and a walk after pages were only read
pub leaf_read : (s t : ℕ → PageState) (v w : ℕ → ℕ → ℕ) (leaf : Leaf) → t ≡ s → w ≡ v → IsLeaf s v leaf → IsLeaf t w leaf
leaf_read s t v w leaf es ew is = (leaf_same s t v w leaf.page es ew is.0, subst (λ (u : ℕ → ℕ → ℕ). leaf.at ≤ u leaf.page 1) (sym ew) is.1)

pub walk_read : (s t : ℕ → PageState) (v w : ℕ → ℕ → ℕ) (going : Walk) → t ≡ s → w ≡ v → IsWalk s v going → IsWalk t w going
walk_read s t v w going es ew is =
    subst (λ (u : ℕ → ℕ → ℕ). IsWalk t u going) (sym ew) (subst (λ (r : ℕ → PageState). IsWalk r v going) (sym es) is)

-- a walk's direction
pub turned_up : (back : Bool) (rising falling : List Pair) → back ≡ false → turned back rising falling ≡ rising
turned_up back rising falling e = ap (λ b. turned b rising falling) e

pub turned_down : (back : Bool) (rising falling : List Pair) → back ≡ true → turned back rising falling ≡ reverse falling
turned_down back rising falling e = ap (λ b. turned b rising falling) e

-- how many items these are
pub count_up : (words : ℕ → ℕ) (at : ℕ) → length (drop at (items_of words)) ≡ words 1 - at
count_up words at = length-drop at (items_of words) ∙ ap (λ n. n - at) (items_count words)

pub count_down : (words : ℕ → ℕ) (at : ℕ) → at ≤ words 1 → length (reverse (take at (items_of words))) ≡ at
count_down words at le = length-reverse (take at (items_of words)) ∙ length-take-le at (items_of words) (omega (arith, le, items_count words))

-- one more number
pub got_item : (before numbers mid now : List ℕ) (xs : List Pair) (i n : ℕ) (d : Pair) → HasGot before numbers (numbers_in (drop i xs)) mid → i < length xs → n ≡ number_of (get_or xs i d).key → now ≡ mid ++ n ∷ []
    → HasGot before numbers (numbers_in (drop (i + 1) xs)) now
got_item before numbers mid now xs i n d has lt e push =
    let rest = numbers_in (drop (i + 1) xs) in
    record {
      got = has.got ++ n ∷ [];
      parts = has.parts ∙ ap (λ ns. has.got ++ ns) (ap numbers_in (drop_more xs i d lt) ∙ ap (λ m. m ∷ rest) (sym e)) ∙ sym (append_assoc has.got (n ∷ []) rest);
      is = push ∙ ap (λ ns. ns ++ n ∷ []) has.is ∙ append_assoc before has.got (n ∷ []);
    }

-- the numbers of one more run
pub got_run : (before numbers mid now : List ℕ) (xs run rest : List Pair) → HasGot before numbers (numbers_in xs) mid → xs ≡ run ++ rest → now ≡ mid ++ numbers_in run → HasGot before numbers (numbers_in rest) now
got_run before numbers mid now xs run rest has e push = record {
  got = has.got ++ numbers_in run;
  parts = has.parts ∙ ap (λ ns. has.got ++ ns) (ap numbers_in e ∙ map-append (λ (x : Pair). number_of x.key) run rest) ∙ sym (append_assoc has.got (numbers_in run) (numbers_in rest));
  is = push ∙ ap (λ ns. ns ++ numbers_in run) has.is ∙ append_assoc before has.got (numbers_in run);
}

-- the first numbers of a run are the first of all
pub first_of_run : (before numbers mid now : List ℕ) (xs run rest : List Pair) → HasGot before numbers (numbers_in xs) mid → xs ≡ run ++ rest → HasFirst mid (numbers_in run) now → HasFirst before numbers now
first_of_run before numbers mid now xs run rest has e first =
    let more = numbers_in rest in
    record {
      left = first.left ++ more;
      has = record {
        got = has.got ++ first.has.got;
        parts = has.parts
            ∙ ap (λ ns. has.got ++ ns) (ap numbers_in e ∙ map-append (λ (x : Pair). number_of x.key) run rest ∙ ap (λ ns. ns ++ more) first.has.parts ∙ append_assoc first.has.got first.left more)
            ∙ sym (append_assoc has.got first.has.got (first.left ++ more));
        is = first.has.is ∙ ap (λ ns. ns ++ first.has.got) has.is ∙ append_assoc before has.got first.has.got;
      };
    }

-- the place of a run's last item is that of the last of all items passed
pub last_of_run : (page_state : ℕ → PageState) (words : ℕ → ℕ → ℕ) (page at count : ℕ) (passed zs : List Pair) → IsReadableAt page_state words page at → 0 < count → count ≤ length zs
    → ((d : Pair) → get_or zs (count - 1) d ≡ item_at (words page) at) → IsLastOf page_state words (Some (page, at)) (passed ++ take count zs)
last_of_run page_state words page at count passed zs readable some le is =
    let item = item_at (words page) at in
    let e : count ≡ count - 1 + 1 = omega (arith, some) in (
      readable,
      (
        passed ++ take (count - 1) zs,
        ap (λ n. passed ++ take n zs) e
            ∙ ap (λ xs. passed ++ xs) (take_more zs (count - 1) item (omega (arith, some, le)) ∙ ap (λ (x : Pair). take (count - 1) zs ++ x ∷ []) (is item))
            ∙ sym (append_assoc passed (take (count - 1) zs) (item ∷ [])),
      ),
    )

pub take_nothing : (n : ℕ) → take {A = Pair} n [] ≡ []
take_nothing zero = refl
take_nothing (suc n) = refl
