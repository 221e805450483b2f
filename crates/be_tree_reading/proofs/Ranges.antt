-- The pairs of an ascending list from a key on.
use Rattle.std.proofs.Common.{◌≡◌, ℕ, suc, ◌+◌, ◌-◌, ◌<◌, List, [], ◌∷◌, ◌++◌, length, get_or, take, drop, ap, sym, subst, ◌∙◌, refl, arith, Bool, true, false, not, cond, Some, drop-cons}
use Rattle.std.specs.List.{flat_map, slice_get}
use Rattle.std.specs.declared.cmp.Ordering.TheVariants.{Less, Equal, Greater}
use Rattle.std.specs.Ordering.{is_ge, is_gt}
use Rattle.std.proofs.lemmas.List.Elements.{filter-append}
use Rattle.std.proofs.lemmas.Bool.{false≢true}
use Rattle.std.proofs.lemmas.Cmp.{tied_itself}
use Rattle.be_tree_reading.specs.Pair.{Pair}
use Rattle.be_tree_reading.specs.Key.{key_cmp, AllBelow, AllAbove, IsRising, IsRank}
use Rattle.be_tree_reading.specs.Range.{is_from, pairs_from, first_from}
use Rattle.be_tree_reading.proofs.Order.{key_total, key_exact, key_cmp_flip, AllAbove_trans}
use Rattle.be_tree_reading.proofs.TreeFacts.{IsSplit, flat_map_in_three, leaf_split, as_branches}

pub from_greater : (k : List ℕ) (after : Bool) (key : List ℕ) → key_cmp key k ≡ Greater → is_from k after key ≡ true
from_greater k false key gt = ap is_ge gt
from_greater k true key gt = ap is_gt gt

pub from_less : (k : List ℕ) (after : Bool) (key : List ℕ) → key_cmp key k ≡ Less → is_from k after key ≡ false
from_less k false key lt = ap is_ge lt
from_less k true key lt = ap is_gt lt

pub from_equal : (k : List ℕ) (after : Bool) (key : List ℕ) → key_cmp key k ≡ Equal → is_from k after key ≡ not after
from_equal k false key e = ap is_ge e
from_equal k true key e = ap is_gt e

-- what is above k is from k on, and what is below k isn't
pub from_above : (k : List ℕ) (after : Bool) (xs : List Pair) → AllAbove k xs → pairs_from xs k after ≡ xs
from_above k after [] h = refl
from_above k after (x ∷ xs) h =
    ap (λ b. cond b (x ∷ pairs_from xs k after) (pairs_from xs k after)) (from_greater k after x.key h.0) ∙ ap (λ ys. x ∷ ys) (from_above k after xs h.1)

pub from_below : (k : List ℕ) (after : Bool) (xs : List Pair) → AllBelow k xs → pairs_from xs k after ≡ []
from_below k after [] h = refl
from_below k after (x ∷ xs) h =
    ap (λ b. cond b (x ∷ pairs_from xs k after) (pairs_from xs k after)) (from_less k after x.key h.0) ∙ from_below k after xs h.1

pub from_append : (k : List ℕ) (after : Bool) (xs ys : List Pair) → pairs_from (xs ++ ys) k after ≡ pairs_from xs k after ++ pairs_from ys k after
from_append k after xs ys = filter-append (λ (x : Pair). is_from k after x.key) xs ys

-- what a node's items contain from a key on: what the branch on the key's way contains of it, and
-- all that later branches contain
pub from_split : (f : Pair → List Pair) (k : List ℕ) (items : List Pair) (at : ℕ) → IsSplit f k items at → (after : Bool) (d : Pair)
    → pairs_from (flat_map f items) k after ≡ pairs_from (f (get_or items at d)) k after ++ flat_map f (drop (suc at) items)
from_split f k items at split after d =
    let here = f (get_or items at d) in
    let rest = flat_map f (drop (suc at) items) in
    ap (λ xs. pairs_from xs k after) (flat_map_in_three f items at d split.in_range)
    ∙ from_append k after (flat_map f (take at items)) (here ++ rest)
    ∙ ap (λ ys. ys ++ pairs_from (here ++ rest) k after) (from_below k after (flat_map f (take at items)) split.below)
    ∙ from_append k after here rest
    ∙ ap (λ ys. pairs_from here k after ++ ys) (from_above k after rest split.above)

-- the same in a leaf
leaf_rest : (items : List Pair) → IsRising items → (k : List ℕ) (r : ℕ) → IsRank k items r → 0 < length items → (after : Bool) (d : Pair)
    → pairs_from items k after ≡ pairs_from (get_or items (r - 1) d ∷ []) k after ++ drop (suc (r - 1)) items
leaf_rest items rising k r rank some after d =
    ap (λ xs. pairs_from xs k after) (sym (as_branches items))
    ∙ from_split (λ x. x ∷ []) k items (r - 1) (leaf_split items rising k r rank some) after d
    ∙ ap (λ ys. pairs_from (get_or items (r - 1) d ∷ []) k after ++ ys) (as_branches (drop (suc (r - 1)) items))

one_taken : (k : List ℕ) (after : Bool) (x : Pair) → is_from k after x.key ≡ true → pairs_from (x ∷ []) k after ≡ x ∷ []
one_taken k after x e = ap (λ b. cond b (x ∷ []) []) e

one_skipped : (k : List ℕ) (after : Bool) (x : Pair) → is_from k after x.key ≡ false → pairs_from (x ∷ []) k after ≡ []
one_skipped k after x e = ap (λ b. cond b (x ∷ []) []) e

-- a leaf's items from a key on, given the place of the last item that isn't above the key
module _ (items : List Pair) (rising : IsRising items) (k : List ℕ) (r at : ℕ) (item : Pair) (rank : IsRank k items r) (some : 0 < length items) (place : at ≡ r - 1) (is : get_or items at item ≡ item)
    (after : Bool) where
  in_items : r - 1 < length items
  in_items = omega (arith, some, rank.in_range)

  item_here : get_or items (r - 1) item ≡ item
  item_here = ap (λ i. get_or items i item) (sym place) ∙ is

  pub leaf_takes : is_from k after item.key ≡ true → drop at items ≡ pairs_from items k after
  leaf_takes e =
      ap (λ i. drop i items) place
      ∙ drop-cons items (r - 1) item in_items
      ∙ sym (leaf_rest items rising k r rank some after item
      ∙ ap (λ (x : Pair). pairs_from (x ∷ []) k after ++ drop (suc (r - 1)) items) item_here
      ∙ ap (λ ys. ys ++ drop (suc (r - 1)) items) (one_taken k after item e)
      ∙ ap (λ (x : Pair). x ∷ drop (suc (r - 1)) items) (sym item_here))

  pub leaf_skips : is_from k after item.key ≡ false → drop (at + 1) items ≡ pairs_from items k after
  leaf_skips e =
      let past : at + 1 ≡ suc (r - 1) = omega (arith, place) in
      ap (λ i. drop i items) past
      ∙ sym (leaf_rest items rising k r rank some after item
      ∙ ap (λ (x : Pair). pairs_from (x ∷ []) k after ++ drop (suc (r - 1)) items) item_here
      ∙ ap (λ ys. ys ++ drop (suc (r - 1)) items) (one_skipped k after item e))

-- the first of the pairs from a key on
pub first_pair : (k : List ℕ) (after : Bool) (xs : List Pair) → slice_get (pairs_from xs k after) 0 ≡ first_from xs k after
first_pair k after [] = refl
first_pair k after (x ∷ xs) = by (is_from k after x.key) (first_pair k after xs)
  where
    by : (b : Bool) → slice_get (pairs_from xs k after) 0 ≡ first_from xs k after → slice_get (cond b (x ∷ pairs_from xs k after) (pairs_from xs k after)) 0 ≡ cond b (Some x) (first_from xs k after)
    by true rest = refl
    by false rest = rest

-- what is above a pair from k on is above k
above_k : (k : List ℕ) (after : Bool) (y : Pair) (ys : List Pair) → is_from k after y.key ≡ true → AllAbove y.key ys → AllAbove k ys
above_k k after y ys from above =
    elim (key_cmp y.key k) as (λ r. key_cmp y.key k ≡ r → AllAbove k ys) [
      | Less ↦ λ e. absurd (false≢true (sym (from_less k after y.key e) ∙ from))
      | Equal ↦ λ e. subst (λ q. AllAbove q ys) (key_exact y.key k e) above
      | Greater ↦ λ e. AllAbove_trans y.key k ys e above
    ] refl

above_filter : (q k : List ℕ) (after : Bool) (xs : List Pair) → AllAbove q xs → AllAbove q (pairs_from xs k after)
above_filter q k after [] h = tt
above_filter q k after (x ∷ xs) h = by (is_from k after x.key) (above_filter q k after xs h.1)
  where
    by : (b : Bool) → AllAbove q (pairs_from xs k after) → AllAbove q (cond b (x ∷ pairs_from xs k after) (pairs_from xs k after))
    by true rest = (h.0, rest)
    by false rest = rest

-- the first pair from a key on is followed by those strictly after it
pub next_from : (all : List Pair) (k : List ℕ) (after : Bool) (x : Pair) (xs : List Pair) → IsRising all → pairs_from all k after ≡ x ∷ xs → pairs_from all x.key true ≡ xs
next_from [] k after x xs rising e = absurd (omega (arith, ap length e))
next_from (y ∷ ys) k after x xs rising e =
    elim (is_from k after y.key) as (λ b. is_from k after y.key ≡ b → cond b (y ∷ pairs_from ys k after) (pairs_from ys k after) ≡ x ∷ xs → pairs_from (y ∷ ys) x.key true ≡ xs) [
      | true ↦ taken y ys k after x xs rising
      | false ↦ skipped y ys k after x xs rising (next_from ys k after x xs rising.1)
    ] refl e
  where
    taken : (y : Pair) (ys : List Pair) (k : List ℕ) (after : Bool) (x : Pair) (xs : List Pair) → IsRising (y ∷ ys) → is_from k after y.key ≡ true → y ∷ pairs_from ys k after ≡ x ∷ xs → pairs_from (y ∷ ys) x.key true ≡ xs
    taken y ys k after x xs rising from e =
        let same : y ≡ x = ap (λ l. get_or l 0 y) e in
        ap (λ (z : Pair). pairs_from (y ∷ ys) z.key true) (sym same)
        ∙ ap (λ b. cond b (y ∷ pairs_from ys y.key true) (pairs_from ys y.key true)) (from_equal y.key true y.key (tied_itself key_total y.key))
        ∙ from_above y.key true ys rising.0
        ∙ sym (from_above k after ys (above_k k after y ys from rising.0))
        ∙ ap (λ l. drop 1 l) e

    skipped : (y : Pair) (ys : List Pair) (k : List ℕ) (after : Bool) (x : Pair) (xs : List Pair) → IsRising (y ∷ ys) → (pairs_from ys k after ≡ x ∷ xs → pairs_from ys x.key true ≡ xs)
        → is_from k after y.key ≡ false → pairs_from ys k after ≡ x ∷ xs → pairs_from (y ∷ ys) x.key true ≡ xs
    skipped y ys k after x xs rising rest not_from e =
        let gt = (subst (AllAbove y.key) e (above_filter y.key k after ys rising.0)).0 in
        ap (λ b. cond b (y ∷ pairs_from ys x.key true) (pairs_from ys x.key true)) (from_less x.key true y.key (key_cmp_flip x.key y.key gt)) ∙ rest e
