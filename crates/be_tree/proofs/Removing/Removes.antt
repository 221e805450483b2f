-- A key removed below a page: facts that a removal needs.
use Rattle.std.proofs.Common.{◌≡◌, ℕ, zero, suc, ◌≤◌, List, [], ◌∷◌, ◌++◌, length, get_or, take, drop, All, if◌then◌else◌, ap, ◌∙◌, refl, arith}
use Rattle.std.specs.List.{flat_map}
use Rattle.std.specs.Ordering.{is_eq}
use Rattle.std.specs.declared.cmp.Ordering.TheVariants.{Less, Equal, Greater}
use Rattle.std.proofs.lemmas.List.Elements.{All-cons}
use Rattle.be_pages.specs.declared.room.PageState.{PageState}
use Rattle.be_tree_reading.specs.Pair.{Pair}
use Rattle.be_tree_reading.specs.Key.{key_cmp, AllAbove, AllBelow, IsRising, without}
use Rattle.be_tree_reading.specs.Tree.{minimum_of_root, IsTreeAt}
use Rattle.be_tree_reading.proofs.Order.{AllAbove_left, AllAbove_right}
use Rattle.be_tree_reading.proofs.TreeFacts.{flat_map_in_three, IsSplit}

-- removing a key from a list in three parts
without_above : (k : List ℕ) (xs : List Pair) → AllAbove k xs → without k xs ≡ xs
without_above k [] h = refl
without_above k (x ∷ xs) h = rw h.0 (ap (λ ys. x ∷ ys) (without_above k xs h.1))

without_left : (k : List ℕ) (xs ys : List Pair) → AllAbove k ys → without k (xs ++ ys) ≡ without k xs ++ ys
without_left k [] ys h = without_above k ys h
without_left k (x ∷ xs) ys h =
    elim (key_cmp x.key k) as (λ r. (if is_eq r then without k (xs ++ ys) else x ∷ without k (xs ++ ys)) ≡ (if is_eq r then without k xs else x ∷ without k xs) ++ ys) [
      | Less ↦ ap (λ zs. x ∷ zs) (without_left k xs ys h)
      | Equal ↦ without_left k xs ys h
      | Greater ↦ ap (λ zs. x ∷ zs) (without_left k xs ys h)
    ]

without_right : (k : List ℕ) (xs ys : List Pair) → AllBelow k xs → without k (xs ++ ys) ≡ xs ++ without k ys
without_right k [] ys h = refl
without_right k (x ∷ xs) ys h = rw h.0 (ap (λ zs. x ∷ zs) (without_right k xs ys h.1))

above_without : (m k : List ℕ) (xs : List Pair) → AllAbove m xs → AllAbove m (without k xs)
above_without m k [] h = tt
above_without m k (x ∷ xs) h =
    elim (key_cmp x.key k) as (λ r. AllAbove m (if is_eq r then without k xs else x ∷ without k xs)) [
      | Less ↦ (h.0, above_without m k xs h.1)
      | Equal ↦ above_without m k xs h.1
      | Greater ↦ (h.0, above_without m k xs h.1)
    ]

-- a removal preserves the order
pub rising_without : (k : List ℕ) (xs : List Pair) → IsRising xs → IsRising (without k xs)
rising_without k [] rising = tt
rising_without k (x ∷ xs) rising =
    elim (key_cmp x.key k) as (λ r. IsRising (if is_eq r then without k xs else x ∷ without k xs)) [
      | Less ↦ (above_without x.key k xs rising.0, rising_without k xs rising.1)
      | Equal ↦ rising_without k xs rising.1
      | Greater ↦ (above_without x.key k xs rising.0, rising_without k xs rising.1)
    ]

-- a removal from the pairs below items goes to one item
pub without_split : (f : Pair → List Pair) (k : List ℕ) (items : List Pair) (at : ℕ) → IsSplit f k items at → (d : Pair)
    → without k (flat_map f items) ≡ flat_map f (take at items) ++ (without k (f (get_or items at d)) ++ flat_map f (drop (suc at) items))
without_split f k items at split d =
    ap (without k) (flat_map_in_three f items at d split.in_range)
    ∙ without_right k (flat_map f (take at items)) (f (get_or items at d) ++ flat_map f (drop (suc at) items)) split.below
    ∙ ap (λ ys. flat_map f (take at items) ++ ys) (without_left k (f (get_or items at d)) (flat_map f (drop (suc at) items)) split.above)

above_append : (m : List ℕ) (xs ys : List Pair) → AllAbove m xs → AllAbove m ys → AllAbove m (xs ++ ys)
above_append m [] ys h g = g
above_append m (x ∷ xs) ys h g = (h.0, above_append m xs ys h.1 g)

-- a removal from one of two lists preserves the order of both
pub rising_without_left : (k : List ℕ) (xs ys : List Pair) → IsRising (xs ++ ys) → IsRising (without k xs ++ ys)
rising_without_left k [] ys rising = rising
rising_without_left k (x ∷ xs) ys rising =
    elim (key_cmp x.key k) as (λ r. IsRising ((if is_eq r then without k xs else x ∷ without k xs) ++ ys)) [
      | Less ↦ (kept, rising_without_left k xs ys rising.1)
      | Equal ↦ rising_without_left k xs ys rising.1
      | Greater ↦ (kept, rising_without_left k xs ys rising.1)
    ]
  where
    kept : AllAbove x.key (without k xs ++ ys)
    kept = above_append x.key (without k xs) ys (above_without x.key k xs (AllAbove_left x.key xs ys rising.0)) (AllAbove_right x.key xs ys rising.0)

pub rising_without_right : (k : List ℕ) (xs ys : List Pair) → IsRising (xs ++ ys) → IsRising (xs ++ without k ys)
rising_without_right k [] ys rising = rising_without k ys rising
rising_without_right k (x ∷ xs) ys rising =
    (above_append x.key xs (without k ys) (AllAbove_left x.key xs ys rising.0) (above_without x.key k ys (AllAbove_right x.key xs ys rising.0)), rising_without_right k xs ys rising.1)

keys_without : (k : List ℕ) (xs : List Pair) → All (λ x. length x.key ≤ 264) xs → All (λ x. length x.key ≤ 264) (without k xs)
keys_without k [] h = h
keys_without k (x ∷ xs) h =
    elim (key_cmp x.key k) as (λ r. All (λ x. length x.key ≤ 264) (if is_eq r then without k xs else x ∷ without k xs)) [
      | Less ↦ All-cons (λ x. length x.key ≤ 264) x (without k xs) (h 0 x (omega arith)) (keys_without k xs rest)
      | Equal ↦ keys_without k xs rest
      | Greater ↦ All-cons (λ x. length x.key ≤ 264) x (without k xs) (h 0 x (omega arith)) (keys_without k xs rest)
    ]
  where
    rest : All (λ x. length x.key ≤ 264) xs
    rest = λ i d lt. h (suc i) d (omega (arith, lt))

pub minimum_small : (level : ℕ) → minimum_of_root level ≤ 6
minimum_small zero = omega arith
minimum_small (suc level) = omega arith

pub tree_minimum : (level : ℕ) (page_state : ℕ → PageState) (words : ℕ → ℕ → ℕ) (page : ℕ) → IsTreeAt level 6 page_state words page → IsTreeAt level (minimum_of_root level) page_state words page
tree_minimum level page_state words page tree = record {
  node = record { is_page = tree.node.is_page; at_level = tree.node.at_level; enough = omega (arith, tree.node.enough, minimum_small level) };
  below = tree.below;
  page_once = tree.page_once;
  page_in_use = tree.page_in_use;
}
