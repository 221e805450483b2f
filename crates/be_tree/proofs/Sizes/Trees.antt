-- Below a node there are five pairs for each page, and one for each item.
use Rattle.std.proofs.Common.{◌≡◌, ℕ, zero, suc, ◌+◌, ◌*◌, ◌^◌, ◌≤◌, List, [], ◌∷◌, length, All, inl, inr, refl, arith}
use Rattle.std.proofs.lemmas.List.{length-append}
use Rattle.be_pages.specs.declared.room.PageState.{PageState}
use Rattle.be_tree_reading.specs.Pair.{Pair}
use Rattle.be_tree_reading.specs.Page.{items_of, level_of}
use Rattle.be_tree_reading.specs.Forest.{pages_of}
use Rattle.be_tree.specs.Counting.{pairs_of_all, CanBeHigh}
use Rattle.be_tree_reading.specs.Tree.{child, level_of_root, minimum_of_root, pages, pages_at, pages_below, pairs, pairs_at, pairs_below, AreShaped, IsTree}

branches : (level : ℕ) (words : ℕ → ℕ → ℕ)
    → ((items : List Pair) → AreShaped level words items → 5 * length (pages_below level words items) + length items ≤ length (pairs_below level words items))
    → (items : List Pair) → AreShaped (suc level) words items → 5 * length (pages_below (suc level) words items) + length items ≤ length (pairs_below (suc level) words items)
branches level words deep [] shaped = omega arith
branches level words deep (x ∷ xs) shaped =
    let here = shaped 0 x (omega arith) in
    let below = deep (items_of (words (child x))) here.2 in
    let rest = branches level words deep xs (λ i d lt. shaped (suc i) d (omega (arith, lt))) in
    omega (
      arith,
      below,
      rest,
      here.0.enough,
      length-append (pages_at level words (child x)) (pages_below (suc level) words xs),
      length-append (pairs_at level words (child x)) (pairs_below (suc level) words xs),
    )

pub below_sizes : (level : ℕ) (words : ℕ → ℕ → ℕ) (items : List Pair) → AreShaped level words items
    → 5 * length (pages_below level words items) + length items ≤ length (pairs_below level words items)
below_sizes zero words items shaped = omega arith
below_sizes (suc level) words items shaped = branches level words (below_sizes level words) items shaped

root_some : (level : ℕ) → 1 ≤ minimum_of_root level
root_some zero = omega arith
root_some (suc level) = omega arith

-- a tree has at most one page per five of its pairs, and one for the remainder
pub tree_size : (page_state : ℕ → PageState) (words : ℕ → ℕ → ℕ) (root : ℕ) → IsTree page_state words root → 5 * length (pages words root) ≤ length (pairs words root) + 4
tree_size page_state words zero tree = omega arith
tree_size page_state words (suc page) tree =
    let level = level_of (words page) in
    omega (arith, below_sizes level words (items_of (words page)) tree.below.shaped, tree.node.enough, root_some level)

-- several trees, each with a remainder
pub forest_size : (page_state : ℕ → PageState) (words : ℕ → ℕ → ℕ) (roots : List ℕ) → All (IsTree page_state words) roots
    → 5 * length (pages_of words roots) ≤ length (pairs_of_all words roots) + 4 * length roots
forest_size page_state words [] trees = omega arith
forest_size page_state words (r ∷ rs) trees =
    let here = tree_size page_state words r (trees 0 r (omega arith)) in
    let rest = forest_size page_state words rs (λ i d lt. trees (suc i) d (omega (arith, lt))) in
    omega (arith, here, rest, length-append (pages words r) (pages_of words rs), length-append (pairs words r) (pairs_of_all words rs))

-- below each item of a node on a level there are at least 6 ^ level pairs
many : (level : ℕ) (words : ℕ → ℕ → ℕ)
    → ((items : List Pair) → AreShaped level words items → (n : ℕ) → n ≤ length items → n * 6 ^ level ≤ length (pairs_below level words items))
    → (items : List Pair) → AreShaped (suc level) words items → (n : ℕ) → n ≤ length items → n * 6 ^ suc level ≤ length (pairs_below (suc level) words items)
many level words deep items shaped zero le = omega arith
many level words deep [] shaped (suc n) le = absurd (omega (arith, le))
many level words deep (x ∷ xs) shaped (suc n) le =
    let here = shaped 0 x (omega arith) in
    let six = deep (items_of (words (child x))) here.2 6 here.0.enough in
    let rest = many level words deep xs (λ i d lt. shaped (suc i) d (omega (arith, lt))) n (omega (arith, le)) in
    let whole : suc n * 6 ^ suc level ≡ 6 * 6 ^ level + n * 6 ^ suc level = omega arith in
    omega (arith, six, rest, whole, length-append (pairs_at level words (child x)) (pairs_below (suc level) words xs))

pub below_many : (level : ℕ) (words : ℕ → ℕ → ℕ) (items : List Pair) → AreShaped level words items → (n : ℕ) → n ≤ length items
    → n * 6 ^ level ≤ length (pairs_below level words items)
below_many zero words items shaped n le = omega (arith, le)
below_many (suc level) words items shaped n le = many level words (below_many level words) items shaped n le

pub tree_high : (page_state : ℕ → PageState) (words : ℕ → ℕ → ℕ) (root : ℕ) → IsTree page_state words root → CanBeHigh (level_of_root words root) (length (pairs words root))
tree_high page_state words zero tree = inl refl
tree_high page_state words (suc page) tree = high (level_of (words page)) refl
  where
    high : (level : ℕ) → level_of (words page) ≡ level → CanBeHigh (level_of (words page)) (length (pairs words (suc page)))
    high zero e = inl e
    high (suc level) e =
        let at = level_of (words page) in
        inr (below_many at words (items_of (words page)) tree.below.shaped 2 (two at e tree.node.enough))
      where
        two : (at : ℕ) → at ≡ suc level → minimum_of_root at ≤ length (items_of (words page)) → 2 ≤ length (items_of (words page))
        two zero f enough = absurd (omega (arith, f))
        two (suc at) f enough = enough
