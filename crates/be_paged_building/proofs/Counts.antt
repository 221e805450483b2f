-- How many pairs lists in ascending order have, and how many pages a write holds.
use Rattle.std.proofs.Common.{◌≡◌, ℕ, zero, suc, ◌+◌, ◌<◌, ◌≤◌, Bool, true, false, List, [], ◌∷◌, ◌++◌, All, Some, IsTrue, is_some, get_or, length, ap, sym, subst, ◌∙◌, refl, arith, cond, append-nil}
use Rattle.std.proofs.lemmas.List.{length-append}
use Rattle.std.specs.List.{Contains}
use mathlib.Core.Bool.{false≢true}
use Rattle.std.specs.Ordering.{is_eq}
use Rattle.std.specs.Cmp.{tied_itself}
use Rattle.std.specs.declared.cmp.Ordering.{Ordering}
use Rattle.std.specs.declared.cmp.Ordering.TheVariants.{Less, Equal, Greater}
use Rattle.std.specs.declared.option.Option.{Option}
use Rattle.be_pages.specs.declared.room.PageState.{PageState}
use Rattle.be_pages.specs.Pages.{PageStep, Swaps, is_taken, times, untouched, unused, fresh, given_old, given_new, stays_old, stays_new}
use Rattle.be_paged_building.specs.Keys.{HaveKeys, IsShortFor}
use Rattle.be_paged_reading.specs.Catalog.{IsCatalog}
use Rattle.be_tree.specs.Building.{IsShort}
use Rattle.be_tree.specs.Counting.{HasInHand}
use Rattle.be_tree.proofs.Sizes.InHand.{hand_size}
use Rattle.be_tree_reading.proofs.Frame.{times_append}
use Rattle.be_tree_reading.proofs.Order.{AllAbove_from, key_cmp_flip, key_exact, key_total, payload_at_above}
use Rattle.be_tree_reading.specs.Key.{AllAbove, IsRising, key_cmp, payload_at}
use Rattle.be_tree_reading.specs.Pair.{Pair}
use Rattle.be_tree_reading.specs.Tree.{pairs}
use Rattle.be_tree_reading.proofs.Trees.{tree_rising}
use Rattle.be_volume.specs.Maps.{Nodes}

above_at : (k : List ℕ) (xs : List Pair) → AllAbove k xs → (i : ℕ) (d : Pair) → i < length xs → key_cmp k (get_or xs i d).key ≡ Less
above_at k [] above i d lt = absurd (omega (arith, lt))
above_at k (x ∷ xs) above zero d lt = key_cmp_flip x.key k above.0
above_at k (x ∷ xs) above (suc i) d lt = above_at k xs above.1 i d (omega (arith, lt))

either_some : (b : Bool) (x : List ℕ) (o : Option (List ℕ)) → is_some o ≡ true → is_some (cond b (Some x) o) ≡ true
either_some true x o e = refl
either_some false x o e = e

-- each pair is found by its key
pub found_itself : (xs : List Pair) (i : ℕ) (d : Pair) → i < length xs → is_some (payload_at xs (get_or xs i d).key) ≡ true
found_itself [] i d lt = absurd (omega (arith, lt))
found_itself (x ∷ xs) zero d lt = ap (λ o. is_some (cond (is_eq o) (Some x.payload) (payload_at xs x.key))) (tied_itself key_total x.key)
found_itself (x ∷ xs) (suc i) d lt = either_some (is_eq (key_cmp x.key (get_or xs i d).key)) x.payload (payload_at xs (get_or xs i d).key) (found_itself xs i d (omega (arith, lt)))

abbrev AreFound : List Pair → List Pair → Type 0
AreFound ys xs = All (λ x. is_some (payload_at ys x.key) ≡ true) xs

passed : (y x : Pair) (ys : List Pair) → key_cmp y.key x.key ≡ Less → is_some (payload_at (y ∷ ys) x.key) ≡ true → is_some (payload_at ys x.key) ≡ true
passed y x ys less found = sym (ap (λ o. is_some (cond (is_eq o) (Some y.payload) (payload_at ys x.key))) less) ∙ found

missing : (x : Pair) (ys : List Pair) → AllAbove x.key ys → is_some (payload_at ys x.key) ≡ true → ⊥
missing x ys above found = never (sym (ap is_some (payload_at_above x.key ys above)) ∙ found)
  where
    never : false ≡ true → ⊥
    never e = cc

-- if a list has each pair of another, it is at least as long
pub few_pairs : (xs ys : List Pair) → IsRising xs → IsRising ys → AreFound ys xs → length xs ≤ length ys
few_pairs [] ys first second found = omega arith
few_pairs (x ∷ xs) [] first second found = absurd (missing x [] tt (found 0 x (omega arith)))
few_pairs (x ∷ xs) (y ∷ ys) first second found =
    by (key_cmp y.key x.key) refl (λ h. few_pairs xs ys first.1 second.1 h) (λ h. few_pairs (x ∷ xs) ys first second.1 h)
  where
    later : (i : ℕ) (d : Pair) → i < length xs → key_cmp x.key (get_or xs i d).key ≡ Less
    later = above_at x.key xs first.0

    by : (o : Ordering) → key_cmp y.key x.key ≡ o → (AreFound ys xs → length xs ≤ length ys) → (AreFound ys (x ∷ xs) → length (x ∷ xs) ≤ length ys) → length (x ∷ xs) ≤ length (y ∷ ys)
    by Less e both next =
        let all : AreFound ys (x ∷ xs) = λ i d lt. passed y (get_or (x ∷ xs) i d) ys (under i d lt) (found i d lt) in
        omega (arith, next all)
      where
        under : (i : ℕ) (d : Pair) → i < length (x ∷ xs) → key_cmp y.key (get_or (x ∷ xs) i d).key ≡ Less
        under zero d lt = e
        under (suc i) d lt = key_total.trans y.key x.key (get_or xs i d).key e (later i d (omega (arith, lt)))
    by Equal e both next =
        let same : y.key ≡ x.key = key_exact y.key x.key e in
        let all : AreFound ys xs = λ i d lt. passed y (get_or xs i d) ys (ap (λ k. key_cmp k (get_or xs i d).key) same ∙ later i d lt) (found (suc i) d (omega (arith, lt))) in
        omega (arith, both all)
    by Greater e both next = absurd (missing x (y ∷ ys) (AllAbove_from x.key y ys second e) (found 0 x (omega arith)))

-- two lists of the same nodes
pub catalog_few : (xs ys : List Pair) (nodes : Nodes) → IsCatalog xs nodes → IsCatalog ys nodes → IsRising xs → IsRising ys → length xs ≤ length ys
catalog_few xs ys nodes a b first second = few_pairs xs ys first second (λ i d lt.
    let x = get_or xs i d in
    let k = a.only i d lt in
    ap (λ q. is_some (payload_at ys q)) k.is ∙ ap is_some (b.each k.node k.name k.fits ∙ sym (a.each k.node k.name k.fits)) ∙ ap (λ q. is_some (payload_at xs q)) (sym k.is) ∙ found_itself xs i d lt)

-- some of these keys, and all of them
pub keys_few : (keys : List (List ℕ)) (xs ys : List Pair) → All (λ x. Contains keys x.key) xs → HaveKeys keys ys → IsRising xs → IsRising ys → length xs ≤ length ys
keys_few keys xs ys some all first second = few_pairs xs ys first second (λ i d lt. ap is_some (all.each (get_or xs i d).key (some i d lt)))

step_more : {P : Type 0} {b a : ℕ} {s t : PageState} (h : ℕ) → (IsTrue (is_taken s) → 0 < h + b) → PageStep P b a s t → IsTrue (is_taken t) → 0 < h + a
step_more h had (untouched p) taken = had taken
step_more h had unused taken = absurd (false≢true taken)
step_more h had (fresh {a}) taken = omega arith
step_more h had (given_old p) taken = absurd (false≢true taken)
step_more h had given_new taken = absurd (false≢true taken)
step_more h had (stays_old p) taken = absurd (false≢true taken)
step_more h had (stays_new {b} {a}) taken = omega arith

-- the pages that a write holds, beside those that change
pub hand_more : {S K : Type 0} (kept_of : S → K) (page_state_of : S → ℕ → PageState) (words_of : S → ℕ → ℕ → ℕ) (held before after : List ℕ) (old new : S) → Swaps kept_of page_state_of words_of before after old new
    → HasInHand (page_state_of old) (held ++ before) → HasInHand (page_state_of new) (held ++ after)
hand_more kept_of page_state_of words_of held before after old new swaps has q taken =
    let more = step_more (times q held) (λ h. omega (arith, has q h, times_append q held before)) (swaps.each q) taken in
    omega (arith, more, times_append q held after)

-- a tree of keys whose pages run out
pub short_for : {S K : Type 0} (kept_of : S → K) (page_state_of : S → ℕ → PageState) (words_of : S → ℕ → ℕ → ℕ) (keys : List (List ℕ)) (taken : List ℕ) (count : ℕ) (start mid new : S) → Swaps kept_of page_state_of words_of [] taken start mid
    → IsShort (length taken) count (page_state_of mid) (page_state_of new) → ((ys : List Pair) → IsRising ys → HaveKeys keys ys → count ≤ length ys) → IsShortFor keys (page_state_of start) (page_state_of new)
short_for kept_of page_state_of words_of keys taken count start mid new swaps short few held has page_state words root tree have n =
    let now : HasInHand (page_state_of mid) (held ++ taken) = hand_more kept_of page_state_of words_of held [] taken start mid swaps (subst (HasInHand (page_state_of start)) (sym (append-nil held)) has) in
    omega (arith, hand_size (page_state_of mid) (held ++ taken) now n, length-append held taken, short page_state words root tree (few (pairs words root) (tree_rising page_state words root tree) have) n)
