-- Keys that are listed, sorted and put into a tree.
use Rattle.std.proofs.Common.{◌≡◌, ◌≢◌, ℕ, zero, suc, ◌+◌, ◌<◌, ◌≤◌, ◌^◌, Bool, true, false, List, [], ◌∷◌, ◌++◌, All, Some, None, get_or, length, drop, take, map, ap, sym, subst, ◌∙◌, refl, inl, inr, arith, cond}
use Rattle.std.specs.List.{Contains}
use Rattle.std.specs.List.Sorted.{IsPermutation, IsSortedBy}
use Rattle.std.proofs.Math.Seq.{take-length}
use Rattle.std.proofs.lemmas.List.{get_or_default, length-append, take-append-le}
use Rattle.std.proofs.lemmas.List.Sorted.{Contains-permutation, IsPermutation-sym}
use Rattle.be_paged_building.specs.Keys.{HaveKeys}
use Rattle.be_paged_building.proofs.Counts.{keys_few}
use Rattle.std.specs.Ordering.{is_eq, is_lt}
use Rattle.std.specs.Cmp.{tied_itself}
use Rattle.std.specs.declared.cmp.Ordering.{Ordering}
use Rattle.std.specs.declared.cmp.Ordering.TheVariants.{Less, Equal, Greater}
use Rattle.std.proofs.lemmas.Bool.{cases_lt}
use Rattle.std.proofs.lemmas.List.Elements.{All-append, All-cons, All-nil}
use Rattle.be_paged_building.specs.Place.{IsPlace, key_in}
use Rattle.be_paged_building.specs.declared.keys.Place.{Place}
use Rattle.be_tree.proofs.Builds.Ends.{below_end, rising_end}
use Rattle.be_tree_reading.specs.Key.{key_cmp, payload_at, AllBelow, IsRising}
use Rattle.be_tree_reading.specs.Pair.{Pair}
use Rattle.be_tree_reading.specs.Words.{IsFirst}
use Rattle.be_tree_reading.proofs.Order.{key_cmp_flip, key_exact, key_total, payload_at_right}

-- the pairs have the keys of the first places, and each key above the last of them is above all
pub record HaveFirst (bytes : List ℕ) (places : List Place) (count : ℕ) (pairs : List Pair) : Type 0
  where
    pub each : (j : ℕ) (d : Place) → j < count
        → payload_at pairs (key_in bytes (get_or places j d)) ≡ Some []
    pub only : All (λ pair. Contains (map (key_in bytes) places) pair.key × (pair.payload ≡ []))
        pairs
    pub below : (k : List ℕ) → ((j : ℕ) (d : Place) → suc j ≡ count
        → key_cmp (key_in bytes (get_or places j d)) k ≡ Less) → AllBelow k pairs

-- a pair that is found is found in a longer list
payload_found : (xs ys : List Pair) (k p : List ℕ) → payload_at xs k ≡ Some p → payload_at (xs ++ ys) k ≡ Some p
payload_found [] ys k p e = cc
payload_found (x ∷ xs) ys k p e = by (is_eq (key_cmp x.key k)) e (payload_found xs ys k p)
  where
    by : (b : Bool) → cond b (Some x.payload) (payload_at xs k) ≡ Some p → (payload_at xs k ≡ Some p → payload_at (xs ++ ys) k ≡ Some p) → cond b (Some x.payload) (payload_at (xs ++ ys) k) ≡ Some p
    by true f rest = f
    by false f rest = rest f

only_payload : (k p : List ℕ) → payload_at (record { key = k; payload = p } ∷ []) k ≡ Some p
only_payload k p = ap (λ o. cond (is_eq o) (Some p) None) (tied_itself key_total k)

contains_at : {A B : Type 0} (f : A → B) (xs : List A) (i : ℕ) (d : A) → i < length xs → Contains (map f xs) (f (get_or xs i d))
contains_at f [] i d lt = absurd (omega (arith, lt))
contains_at f (x ∷ xs) zero d lt = (0, omega arith, refl)
contains_at f (x ∷ xs) (suc i) d lt =
    let later : Contains (map f xs) (f (get_or xs i d)) = contains_at f xs i d (omega (arith, lt)) in
    (suc later.0, omega (arith, later.1), later.2)

contains_mapped : {X Y : Type 0} (f : X → Y) (xs : List X) (x : X) → Contains xs x → Contains (map f xs) (f x)
contains_mapped f [] x (k, below, is) = absurd (omega arith)
contains_mapped f (y ∷ xs) x (zero, below, is) = (0, omega arith, ap f is)
contains_mapped f (y ∷ xs) x (suc k, below, is) =
    let later : Contains (map f xs) (f x) = contains_mapped f xs x (k, omega arith, is) in
    (suc later.0, omega (arith, later.1), later.2)

mapped_contains : {X Y : Type 0} (f : X → Y) (xs : List X) (y : Y) → Contains (map f xs) y → (x : X) × Contains xs x × (f x ≡ y)
mapped_contains f [] y (k, below, is) = absurd (omega arith)
mapped_contains f (x ∷ xs) y (zero, below, is) = (x, (0, omega arith, refl), is)
mapped_contains {X} f (x ∷ xs) y (suc k, below, is) =
    let found : (z : X) × Contains xs z × (f z ≡ y) = mapped_contains f xs y (k, omega arith, is) in
    (found.0, (suc found.1.0, omega (arith, found.1.1), found.1.2), found.2)

module _ (bytes : List ℕ) (places : List Place) (i : ℕ) (here : Place) (pairs : List Pair) (lt : i < length places) (is : (d : Place) → get_or places i d ≡ here) (puts : HaveFirst bytes places i pairs) where
  -- the key is the same as the one before
  pub put_again : ((j : ℕ) × ((suc j ≡ i) × ((d : Place) → key_in bytes (get_or places j d) ≡ key_in bytes here))) → HaveFirst bytes places (suc i) pairs
  put_again same = record {
    each = λ j d less. elim (cases_lt j i) [
      | inl before ↦ puts.each j d before
      | inr past ↦
          let e : i ≡ j = omega (arith, past, less) in
          subst (λ n. payload_at pairs (key_in bytes (get_or places n d)) ≡ Some []) e
          (subst (λ k. payload_at pairs k ≡ Some []) (same.1.1 d ∙ ap (key_in bytes) (sym (is d))) (puts.each same.0 d (omega (arith, same.1.0))))
    ];
    only = puts.only;
    below = λ k above. puts.below k (λ j d e.
        let one : j ≡ same.0 = omega (arith, e, same.1.0) in
        ap (λ n. key_cmp (key_in bytes (get_or places n d)) k) one ∙ ap (λ q. key_cmp q k) (same.1.1 d ∙ ap (key_in bytes) (sym (is d))) ∙ above i d refl);
  }

  -- the key is above the one before
  module _ (sorted : IsSortedBy (λ x y. is_lt (key_cmp (key_in bytes x) (key_in bytes y))) places)
      (new : (j : ℕ) (d : Place) → suc j ≡ i → key_in bytes (get_or places j d) ≢ key_in bytes here) where
    above_last : (j : ℕ) (d : Place) → suc j ≡ i → key_cmp (key_in bytes (get_or places j d)) (key_in bytes here) ≡ Less
    above_last j d e = by (key_cmp (key_in bytes (get_or places j d)) (key_in bytes here)) refl
      where
        next : j + 1 ≡ i
        next = omega (arith, e)

        not_less : is_lt (key_cmp (key_in bytes here) (key_in bytes (get_or places j d))) ≡ false
        not_less = ap (λ x. is_lt (key_cmp (key_in bytes x) (key_in bytes (get_or places j d)))) (sym (ap (λ n. get_or places n d) next ∙ is d)) ∙ sorted j d (omega arith) (omega (arith, next, lt))

        by : (o : Ordering) → key_cmp (key_in bytes (get_or places j d)) (key_in bytes here) ≡ o → o ≡ Less
        by Less f = refl
        by Equal f = absurd (new j d e (key_exact (key_in bytes (get_or places j d)) (key_in bytes here) f))
        by Greater f =
            let less : true ≡ false = sym (ap is_lt (key_cmp_flip (key_in bytes (get_or places j d)) (key_in bytes here) f)) ∙ not_less in
            cc

    all_below : AllBelow (key_in bytes here) pairs
    all_below = puts.below (key_in bytes here) above_last

    pub put_rising : IsRising pairs → IsRising (pairs ++ record { key = key_in bytes here; payload = [] } ∷ [])
    put_rising rising = rising_end pairs (record { key = key_in bytes here; payload = [] }) rising all_below

    pub put_more : HaveFirst bytes places (suc i) (pairs ++ record { key = key_in bytes here; payload = [] } ∷ [])
    put_more = record {
      each = λ j d less. elim (cases_lt j i) [
        | inl before ↦ payload_found pairs (record { key = key_in bytes here; payload = [] } ∷ []) (key_in bytes (get_or places j d)) [] (puts.each j d before)
        | inr past ↦
            let e : i ≡ j = omega (arith, past, less) in
            let at : get_or places j d ≡ here = ap (λ n. get_or places n d) (sym e) ∙ is d in
            ap (λ x. payload_at (pairs ++ record { key = key_in bytes here; payload = [] } ∷ []) (key_in bytes x)) at
            ∙ payload_at_right (key_in bytes here) pairs (record { key = key_in bytes here; payload = [] } ∷ []) all_below
            ∙ only_payload (key_in bytes here) []
      ];
      only = All-append (λ pair. Contains (map (key_in bytes) places) pair.key × (pair.payload ≡ [])) pairs (record { key = key_in bytes here; payload = [] } ∷ []) puts.only
          (All-cons (λ pair. Contains (map (key_in bytes) places) pair.key × (pair.payload ≡ [])) (record { key = key_in bytes here; payload = [] }) []
          (subst (λ x. Contains (map (key_in bytes) places) (key_in bytes x)) (is here) (contains_at (key_in bytes) places i here lt), refl)
          (All-nil (λ pair. Contains (map (key_in bytes) places) pair.key × (pair.payload ≡ []))));
      below = λ k above.
          let less : key_cmp (key_in bytes here) k ≡ Less = ap (λ x. key_cmp (key_in bytes x) k) (sym (is here)) ∙ above i here refl in
          below_end k pairs (record { key = key_in bytes here; payload = [] }) (puts.below k (λ j d e. key_total.trans (key_in bytes (get_or places j d)) (key_in bytes here) k (above_last j d e) less)) less;
    }

pub put_none : (bytes : List ℕ) (places : List Place) → HaveFirst bytes places 0 []
put_none bytes places = record {
  each = λ j d lt. absurd (omega (arith, lt));
  only = All-nil (λ pair. Contains (map (key_in bytes) places) pair.key × (pair.payload ≡ []));
  below = λ k above. tt;
}

-- a key is added after the other bytes
part_within : {A : Type 0} (from len : ℕ) (xs ys : List A) → from + len ≤ length xs → take len (drop from (xs ++ ys)) ≡ take len (drop from xs)
part_within zero len xs ys le = take-append-le len xs ys (omega (arith, le))
part_within (suc from) len [] ys le = absurd (omega (arith, le))
part_within (suc from) len (x ∷ xs) ys le = part_within from len xs ys (omega (arith, le))

part_after : {A : Type 0} (xs ys : List A) → take (length ys) (drop (length xs) (xs ++ ys)) ≡ ys
part_after [] ys = take-length ys
part_after (x ∷ xs) ys = part_after xs ys

pub key_within : (bytes more : List ℕ) (place : Place) → IsPlace bytes place → key_in (bytes ++ more) place ≡ key_in bytes place
key_within bytes more place within = part_within place.from place.len bytes more within.within

pub key_after : (bytes more : List ℕ) (first : ℕ) → key_in (bytes ++ more) (record { first = first; from = length bytes; len = length more }) ≡ more
key_after bytes more first = part_after bytes more

pub list_more : (bytes more : List ℕ) (first : ℕ) (places : List Place) → All (IsPlace bytes) places
    → map (key_in (bytes ++ more)) (places ++ record { first = first; from = length bytes; len = length more } ∷ []) ≡ map (key_in bytes) places ++ more ∷ []
list_more bytes more first [] within = ap (λ k. k ∷ []) (key_after bytes more first)
list_more bytes more first (p ∷ ps) within = both (key_within bytes more p (within 0 p (omega arith))) (list_more bytes more first ps (λ i d lt. within (suc i) d (omega (arith, lt))))
  where
    both : {x y : List ℕ} {xs ys : List (List ℕ)} → x ≡ y → xs ≡ ys → x ∷ xs ≡ y ∷ ys
    both p q = cc

-- the places stay after more bytes
pub places_kept : (bytes more : List ℕ) (places : List Place) → All (IsPlace bytes) places → All (IsPlace (bytes ++ more)) places
places_kept bytes more places all = λ i d lt. kept (get_or places i d) (all i d lt)
  where
    kept : (place : Place) → IsPlace bytes place → IsPlace (bytes ++ more) place
    kept place p = record {
      within = omega (arith, p.within, length-append bytes more);
      small = p.small;
      first = subst (λ k. IsFirst k place.first) (sym (key_within bytes more place p)) p.first;
    }

-- and a new one is added
pub places_more : (bytes more : List ℕ) (first : ℕ) (places : List Place) → All (IsPlace bytes) places → first < 2 ^ 64 → IsFirst more first
    → All (IsPlace (bytes ++ more)) (places ++ record { first = first; from = length bytes; len = length more } ∷ [])
places_more bytes more first places all small is =
    let place : Place = record { first = first; from = length bytes; len = length more } in
    All-append (IsPlace (bytes ++ more)) places (place ∷ []) (places_kept bytes more places all)
    (All-cons (IsPlace (bytes ++ more)) place []
    (record { within = omega (arith, length-append bytes more); small = small; first = subst (λ k. IsFirst k first) (sym (key_after bytes more first)) is })
    (All-nil (IsPlace (bytes ++ more))))

-- the first keys are all of them
pub put_all : (bytes : List ℕ) (places old : List Place) (pairs : List Pair) → IsPermutation old places → HaveFirst bytes places (length places) pairs → HaveKeys (map (key_in bytes) old) pairs
put_all bytes places old pairs moved puts = record {
  each = λ k has.
      let found = mapped_contains (key_in bytes) old k has in
      let there : Contains places found.0 = Contains-permutation old places found.0 moved found.1 in
      let key : key_in bytes (get_or places there.0 found.0) ≡ k = ap (key_in bytes) there.2 ∙ found.2 in
      subst (λ q. payload_at pairs q ≡ Some []) key (puts.each there.0 found.0 there.1);
  only = λ i d lt.
      let has = puts.only i d lt in
      let found = mapped_contains (key_in bytes) places (get_or pairs i d).key has.0 in
      let there : Contains old found.0 = Contains-permutation places old found.0 (IsPermutation-sym old places moved) found.1 in
      (subst (Contains (map (key_in bytes) old)) found.2 (contains_mapped (key_in bytes) old found.0 there), has.1);
}

-- what holds of each key holds of those that are sorted
pub fit_sorted : (P : List ℕ → Type 0) (bytes : List ℕ) (places old : List Place) → IsPermutation old places → All P (map (key_in bytes) old) → (i : ℕ) (d : Place) → i < length places → P (key_in bytes (get_or places i d))
fit_sorted P bytes places old moved all i d lt =
    let x = get_or places i d in
    let at : Contains places x = (i, lt, get_or_default places i x d lt) in
    let found : Contains (map (key_in bytes) old) (key_in bytes x) = contains_mapped (key_in bytes) old x (Contains-permutation places old x (IsPermutation-sym old places moved) at) in
    subst P found.2 (all found.0 (key_in bytes x) found.1)

-- a tree of all keys has at least as many pairs as there are first keys
pub first_few : (bytes : List ℕ) (places : List Place) (count : ℕ) (old : List Place) (pairs ys : List Pair) → IsPermutation old places → HaveFirst bytes places count pairs → IsRising pairs → IsRising ys → HaveKeys (map (key_in bytes) old) ys
    → length pairs ≤ length ys
first_few bytes places count old pairs ys moved puts rising other have = keys_few (map (key_in bytes) old) pairs ys (λ i d lt.
    let found = mapped_contains (key_in bytes) places (get_or pairs i d).key (puts.only i d lt).0 in
    let there : Contains old found.0 = Contains-permutation places old found.0 (IsPermutation-sym old places moved) found.1 in
    subst (Contains (map (key_in bytes) old)) found.2 (contains_mapped (key_in bytes) old found.0 there)) have rising other

pub pushed_few : (bytes : List ℕ) (places : List Place) (i : ℕ) (here : Place) (pairs : List Pair) (lt : i < length places) (is : (d : Place) → get_or places i d ≡ here) (puts : HaveFirst bytes places i pairs)
    → IsSortedBy (λ x y. is_lt (key_cmp (key_in bytes x) (key_in bytes y))) places → ((j : ℕ) (d : Place) → suc j ≡ i → key_in bytes (get_or places j d) ≢ key_in bytes here)
    → (old : List Place) (ys : List Pair) → IsPermutation old places → IsRising pairs → IsRising ys → HaveKeys (map (key_in bytes) old) ys → length pairs + 1 ≤ length ys
pushed_few bytes places i here pairs lt is puts sorted new old ys moved rising other have =
    let x : Pair = record { key = key_in bytes here; payload = [] } in
    omega (arith, length-append pairs (x ∷ []), first_few bytes places (suc i) old (pairs ++ x ∷ []) ys moved (put_more bytes places i here pairs lt is puts sorted new) (put_rising bytes places i here pairs lt is puts sorted new rising) other have)
