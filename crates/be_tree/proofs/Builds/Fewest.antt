-- A tree with full pages has the fewest pages.
use Rattle.std.proofs.Common.{◌≡◌, ℕ, zero, suc, ◌+◌, ◌-◌, ◌*◌, ◌<◌, ◌≤◌, List, [], ◌∷◌, ◌++◌, length, ap, sym, ◌∙◌, refl, inl, inr, arith}
use Rattle.std.specs.List.{flat_map}
use Rattle.std.proofs.lemmas.Bool.{cases_lt}
use Rattle.std.proofs.lemmas.List.{length-append}
use Rattle.std.proofs.lemmas.List.Elements.{All-append, All-nil}
use Rattle.be_pages.specs.declared.room.PageState.{PageState}
use Rattle.be_tree_reading.specs.Pair.{Pair}
use Rattle.be_tree_reading.specs.Page.{items_of, level_of}
use Rattle.be_tree_reading.specs.Tree.{child, pairs, pairs_at, pairs_below, pages, pages_at, pages_below, AreShaped, IsBranch, IsNode, IsTree}
use Rattle.be_tree_reading.proofs.Items.{items_count}
use Rattle.be_tree_reading.proofs.Shape.Below.{pages_append, pairs_append}
use Rattle.be_tree.specs.Building.{items_on, pages_under}

-- the items of the pages to which branches lead
abbrev pub next_items : (words : ℕ → ℕ → ℕ) → List Pair → List Pair
next_items words items = flat_map (λ b. items_of (words (child b))) items

pub no_pairs : (level : ℕ) (words : ℕ → ℕ → ℕ) → pairs_below level words [] ≡ []
no_pairs zero words = refl
no_pairs (suc level) words = refl

pub no_pages : (level : ℕ) (words : ℕ → ℕ → ℕ) → pages_below level words [] ≡ []
no_pages zero words = refl
no_pages (suc level) words = refl

pairs_next : (level : ℕ) (words : ℕ → ℕ → ℕ) (items : List Pair) → pairs_below (suc level) words items ≡ pairs_below level words (next_items words items)
pairs_next level words [] = sym (no_pairs level words)
pairs_next level words (x ∷ xs) =
    ap (λ ys. pairs_at level words (child x) ++ ys) (pairs_next level words xs)
    ∙ sym (pairs_append level words (items_of (words (child x))) (next_items words xs))

pub pages_next : (level : ℕ) (words : ℕ → ℕ → ℕ) (items : List Pair) → length (pages_below (suc level) words items) ≡ length items + length (pages_below level words (next_items words items))
pages_next level words [] = omega (arith, ap length (no_pages level words))
pages_next level words (x ∷ xs) =
    let here = items_of (words (child x)) in
    omega (
      arith,
      pages_next level words xs,
      length-append (pages_at level words (child x)) (pages_below (suc level) words xs),
      ap length (pages_append level words here (next_items words xs)),
      length-append (pages_below level words here) (pages_below level words (next_items words xs)),
    )

-- a page has up to twelve items
few_next : (level : ℕ) (words : ℕ → ℕ → ℕ) (items : List Pair) → AreShaped (suc level) words items → length (next_items words items) ≤ 12 * length items
few_next level words [] shaped = omega arith
few_next level words (x ∷ xs) shaped =
    let here = shaped 0 x (omega arith) in
    omega (
      arith,
      few_next level words xs (λ i d lt. shaped (suc i) d (omega (arith, lt))),
      length-append (items_of (words (child x))) (next_items words xs),
      items_count (words (child x)),
      here.0.is_page.few,
    )

shaped_append : (level : ℕ) (words : ℕ → ℕ → ℕ) (xs ys : List Pair) → AreShaped level words xs → AreShaped level words ys → AreShaped level words (xs ++ ys)
shaped_append zero words xs ys g h = tt
shaped_append (suc level) words xs ys g h = All-append (λ b. IsNode level 6 (words (child b)) × IsBranch b (pairs_at level words (child b)) × AreShaped level words (items_of (words (child b)))) xs ys g h

none_shaped : (level : ℕ) (words : ℕ → ℕ → ℕ) → AreShaped level words []
none_shaped zero words = tt
none_shaped (suc level) words = All-nil (λ b. IsNode level 6 (words (child b)) × IsBranch b (pairs_at level words (child b)) × AreShaped level words (items_of (words (child b))))

shaped_next : (level : ℕ) (words : ℕ → ℕ → ℕ) (items : List Pair) → AreShaped (suc level) words items → AreShaped level words (next_items words items)
shaped_next level words [] shaped = none_shaped level words
shaped_next level words (x ∷ xs) shaped =
    shaped_append level words (items_of (words (child x))) (next_items words xs) (shaped 0 x (omega arith)).2 (shaped_next level words xs (λ i d lt. shaped (suc i) d (omega (arith, lt))))

-- a level that has at least n pairs below it has at least as many items as one of full pages, and at least as many pages below it
holds : (level : ℕ) (words : ℕ → ℕ → ℕ) (items : List Pair) → AreShaped level words items → (n : ℕ) → n ≤ length (pairs_below level words items)
    → (items_on level n ≤ length items) × (pages_under level n ≤ length (pages_below level words items))
holds zero words items shaped n le = (le, omega arith)
holds (suc level) words items shaped n le =
    let rest = holds level words (next_items words items) (shaped_next level words items shaped) n (omega (arith, le, ap length (pairs_next level words items))) in
    let few = few_next level words items shaped in
    let fits : items_on (suc level) n ≤ length items = omega (arith, rest.0, few) in
    (fits, omega (arith, fits, rest.1, pages_next level words items))

-- with n pairs, each level below this one has too many items for a root
abbrev pub IsLow : (level n : ℕ) → Type 0
IsLow level n = (l : ℕ) → l < level → 12 < items_on l n

more_under : (k level n : ℕ) → pages_under level n ≤ pages_under (k + level) n
more_under zero level n = let e : 0 + level ≡ level = omega arith in omega (arith, ap (λ l. pages_under l n) e)
more_under (suc k) level n =
    let e : suc k + level ≡ suc (k + level) = omega arith in
    omega (arith, more_under k level n, ap (λ l. pages_under l n) e)

-- so a tree has more pages than are below this level
pub needs : (level n : ℕ) → 0 < n → IsLow level n → (page_state : ℕ → PageState) (words : ℕ → ℕ → ℕ) (root : ℕ) → IsTree page_state words root → n ≤ length (pairs words root)
    → pages_under level n < length (pages words root)
needs level n some low page_state words zero tree le = absurd (omega (arith, some, le))
needs level n some low page_state words (suc page) tree le =
    let top = level_of (words page) in
    let items = items_of (words page) in
    let least = holds top words items tree.below.shaped n le in
    let few : length items ≤ 12 = omega (arith, items_count (words page), tree.node.is_page.few) in
    elim (cases_lt top level) [
      | inl lt ↦ absurd (omega (arith, low top lt, least.0, few))
      | inr past ↦
          let e : (top - level) + level ≡ top = omega (arith, past) in
          omega (arith, more_under (top - level) level n, ap (λ l. pages_under l n) e, least.1)
    ]

-- the leaves of a builder are its pages
pub leaf_pages : (words : ℕ → ℕ → ℕ) (items : List Pair) → length (pages_below 1 words items) ≡ length items
leaf_pages words items = omega (arith, pages_next 0 words items)
