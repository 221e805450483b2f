-- How high a tree can be: below a node with at least six items, each level has at least six times as many pages.
use Rattle.std.proofs.Common.{◌≡◌, ℕ, zero, suc, ◌+◌, ◌*◌, ◌^◌, ◌<◌, ◌≤◌, List, [], ◌∷◌, length, sym, subst, inl, inr, arith}
use Rattle.std.proofs.lemmas.Bool.{cases_lt, cases_eq}
use Rattle.std.proofs.lemmas.List.{length-append}
use Rattle.be_pages.specs.declared.room.PageState.{PageState}
use Rattle.be_pages.specs.declared.room.PageState.TheVariants.{Free}
use Rattle.be_pages.specs.Pages.{times}
use Rattle.be_tree_reading.specs.Pair.{Pair}
use Rattle.be_tree_reading.specs.Page.{items_of}
use Rattle.be_tree_reading.specs.Tree.{child, pages_at, pages_below, AreShaped, IsTreeAt}
use Rattle.be_tree_reading.proofs.Frame.{times-cons, times_other, same_page}
use Rattle.be_tree_reading.proofs.Shape.Levels.{pigeonhole, tree_in_use, kept_not_free}

-- the minimum number of pages at and below a node with six items
abbrev minimum_pages : ℕ → ℕ
minimum_pages zero = 1
minimum_pages (suc level) = 6 * minimum_pages level

abbrev many : ℕ → ℕ → ℕ
many zero k = 0
many (suc n) k = k + many n k

broad : (level : ℕ) (words : ℕ → ℕ → ℕ) → ((items : List Pair) → AreShaped level words items → 6 ≤ length items → minimum_pages level ≤ suc (length (pages_below level words items)))
    → (n : ℕ) (items : List Pair) → AreShaped (suc level) words items → n ≤ length items → many n (minimum_pages level) ≤ length (pages_below (suc level) words items)
broad level words deep zero items shaped le = omega arith
broad level words deep (suc n) [] shaped le = absurd (omega (arith, le))
broad level words deep (suc n) (x ∷ xs) shaped le =
    let here = shaped 0 x (omega arith) in
    let deeper = deep (items_of (words (child x))) here.2 here.0.enough in
    let rest = broad level words deep n xs (λ i d lt. shaped (suc i) d (omega (arith, lt))) (omega (arith, le)) in
    omega (arith, deeper, rest, length-append (pages_at level words (child x)) (pages_below (suc level) words xs))

deep : (level : ℕ) (words : ℕ → ℕ → ℕ) (items : List Pair) → AreShaped level words items → 6 ≤ length items → minimum_pages level ≤ suc (length (pages_below level words items))
deep zero words items shaped six = omega arith
deep (suc level) words items shaped six =
    let all : many 6 (minimum_pages level) ≤ length (pages_below (suc level) words items) = broad level words (deep level words) 6 items shaped six in
    omega (arith, all)

tall : (level : ℕ) → 13 ≤ level → 13060694016 ≤ minimum_pages level
tall zero le = absurd (omega (arith, le))
tall (suc level) le = elim (cases_lt level 13) [
  | inl lt ↦
      let e : 12 ≡ level = omega (arith, le, lt) in
      let here : 13060694016 ≤ minimum_pages (suc 12) = omega arith in
      subst (λ l. 13060694016 ≤ minimum_pages (suc l)) e here
  | inr ge ↦ let below = tall level ge in omega (arith, below)
]

-- each page of a tree occurs in it only once
pub once_at : (level least : ℕ) (page_state : ℕ → PageState) (words : ℕ → ℕ → ℕ) (page : ℕ) → IsTreeAt level least page_state words page → (q : ℕ) → times q (pages_at level words page) ≤ 1
once_at level least page_state words page tree q = elim (cases_eq q page) [
  | inl e ↦ subst (λ p. times p (pages_at level words page) ≤ 1) (sym e) (omega (arith, times-cons page page (pages_below level words (items_of (words page))), same_page page, tree.page_once))
  | inr ne ↦ omega (arith, times-cons q page (pages_below level words (items_of (words page))), times-cons q page [], times_other q page ne, tree.below.once q)
]

high : (level : ℕ) (words : ℕ → ℕ → ℕ) (items : List Pair) → AreShaped level words items → 0 < length items → length (pages_below level words items) < 2 ^ 32 → level ≤ 13
high zero words items shaped some few = omega arith
high (suc level) words [] shaped some few = absurd (omega (arith, some))
high (suc level) words (x ∷ xs) shaped some few = elim (cases_lt level 13) [
  | inl lt ↦ omega (arith, lt)
  | inr ge ↦
      let here = shaped 0 x (omega arith) in
      absurd (omega (arith, few, tall level ge, deep level words (items_of (words (child x))) here.2 here.0.enough, length-append (pages_at level words (child x)) (pages_below (suc level) words xs)))
]

-- a tree with fewer than 2^32 pages has a level of at most 13
pub height : (level least : ℕ) (page_state : ℕ → PageState) (words : ℕ → ℕ → ℕ) (page : ℕ) → 1 ≤ least → IsTreeAt level least page_state words page
    → ((q : ℕ) → (page_state q ≡ Free → ⊥) → q < 2 ^ 32) → level ≤ 13
height level least page_state words page some tree small =
    let all = pigeonhole (2 ^ 32) (pages_at level words page) (once_at level least page_state words page tree)
    (λ q is. small q (kept_not_free (page_state q) (tree_in_use level least page_state words page tree q is))) in
    high level words (items_of (words page)) tree.below.shaped (omega (arith, tree.node.enough, some)) (omega (arith, all))
