-- A tree has no more levels than it has pages, and no more pages than there are.
use Rattle.std.proofs.Common.{◌≡◌, ℕ, zero, suc, ◌+◌, ◌<◌, ◌≤◌, ◌==◌, List, [], ◌∷◌, ◌⊎◌, length, IsTrue, true, false, cond, ap, sym, subst, ◌∙◌, refl, inl, inr, arith}
use Rattle.std.proofs.lemmas.Bool.{cases_eq}
use Rattle.std.proofs.lemmas.Bool.Decides.{nat_tests}
use Rattle.std.proofs.lemmas.List.{length-append}
use Rattle.be_pages.specs.declared.room.PageState.{PageState}
use Rattle.be_pages.specs.Pages.{times, is_kept}
use Rattle.be_pages.specs.declared.room.PageState.TheVariants.{Free}
use mathlib.Core.Bool.{false≢true}
use Rattle.be_tree_reading.specs.Pair.{Pair}
use Rattle.be_tree_reading.specs.Page.{items_of}
use Rattle.be_tree_reading.specs.Tree.{child, pages_at, pages_below, AreShaped, IsTreeAt}
use Rattle.be_tree_reading.proofs.Frame.{times-cons, same_page}

drop_page : ℕ → List ℕ → List ℕ
drop_page n [] = []
drop_page n (p ∷ ps) = cond (p == n) (drop_page n ps) (p ∷ drop_page n ps)

length_dropped : (n : ℕ) (ps : List ℕ) → length ps ≡ length (drop_page n ps) + times n ps
unfolding drop_page
length_dropped n [] = refl
length_dropped n (p ∷ ps) =
    let rest = length_dropped n ps in
    let step = times-cons n p ps in
    elim (p == n) as (λ b. times n (p ∷ ps) ≡ cond {A = ℕ} b 1 0 + times n ps → length (p ∷ ps) ≡ length (cond b (drop_page n ps) (p ∷ drop_page n ps)) + times n (p ∷ ps)) [
      | true ↦ λ e. omega (arith, e, rest)
      | false ↦ λ e. omega (arith, e, rest)
    ] step

times_dropped : (q n : ℕ) (ps : List ℕ) → times q (drop_page n ps) ≤ times q ps
unfolding drop_page
times_dropped q n [] = omega arith
times_dropped q n (p ∷ ps) =
    let rest = times_dropped q n ps in
    elim (p == n) as (λ b. times q (cond b (drop_page n ps) (p ∷ drop_page n ps)) ≤ times q (p ∷ ps)) [
      | true ↦ omega (arith, rest, times-cons q p ps)
      | false ↦ omega (arith, rest, times-cons q p ps, times-cons q p (drop_page n ps))
    ]

none_dropped : (n : ℕ) (ps : List ℕ) → times n (drop_page n ps) ≡ 0
unfolding drop_page
none_dropped n [] = refl
none_dropped n (p ∷ ps) =
    let rest = none_dropped n ps in
    elim (p == n) as (λ b. (p == n) ≡ b → times n (cond b (drop_page n ps) (p ∷ drop_page n ps)) ≡ 0) [
      | true ↦ λ e. rest
      | false ↦ λ e. omega (arith, rest, times-cons n p (drop_page n ps), ap (λ b. cond {A = ℕ} b 1 0) e)
    ] refl

-- there are at most n different numbers below n
pub pigeonhole : (n : ℕ) (ps : List ℕ) → ((q : ℕ) → times q ps ≤ 1) → ((q : ℕ) → 0 < times q ps → q < n) → length ps ≤ n
pigeonhole zero [] once small = omega arith
pigeonhole zero (p ∷ ps) once small = absurd (omega (arith, small p (omega (arith, times-cons p p ps, same_page p))))
pigeonhole (suc n) ps once small =
    let fewer = pigeonhole n (drop_page n ps) (λ q. omega (arith, times_dropped q n ps, once q)) (λ q some. below q some (cases_eq q n)) in
    omega (arith, fewer, length_dropped n ps, once n)
  where
    below : (q : ℕ) → 0 < times q (drop_page n ps) → (q ≡ n) ⊎ (q ≡ n → ⊥) → q < n
    below q some (inl e) = absurd (omega (arith, ap (λ p. times p (drop_page n ps)) e, none_dropped n ps, some))
    below q some (inr ne) = omega (arith, ne, small q (omega (arith, times_dropped q n ps, some)))

-- a node has a page for each level below it
level_below : (level : ℕ) (words : ℕ → ℕ → ℕ) (items : List Pair) → AreShaped level words items → 0 < length items → level ≤ length (pages_below level words items)
level_below zero words items shaped some = omega arith
level_below (suc level) words [] shaped some = absurd (omega (arith, some))
level_below (suc level) words (x ∷ xs) shaped some =
    let here = shaped 0 x (omega arith) in
    let deeper = level_below level words (items_of (words (child x))) here.2 (omega (arith, here.0.enough)) in
    omega (arith, deeper, length-append (pages_at level words (child x)) (pages_below (suc level) words xs))

-- a tree of pages below n has a level below n
pub level_bound : (n level : ℕ) (page_state : ℕ → PageState) (words : ℕ → ℕ → ℕ) (page : ℕ) → IsTreeAt level 1 page_state words page
    → ((q : ℕ) → 0 < times q (pages_at level words page) → q < n) → level < n
level_bound n level page_state words page tree small =
    let all = pigeonhole n (pages_at level words page) once small in
    omega (arith, all, level_below level words (items_of (words page)) tree.below.shaped (omega (arith, tree.node.enough)))
  where
    once : (q : ℕ) → times q (pages_at level words page) ≤ 1
    once q = elim (cases_eq q page) [
      | inl e ↦ omega (arith, times-cons q page (pages_below level words (items_of (words page))), ap (λ p. times p (pages_below level words (items_of (words page)))) e, tree.page_once, one_or_none q page)
      | inr ne ↦ omega (arith, times-cons q page (pages_below level words (items_of (words page))), none_other q page ne, tree.below.once q)
    ]
      where
        one_or_none : (q p : ℕ) → cond {A = ℕ} (p == q) 1 0 ≤ 1
        one_or_none q p = grind (arith, nat_tests)

        none_other : (q p : ℕ) → (q ≡ p → ⊥) → cond {A = ℕ} (p == q) 1 0 ≡ 0
        none_other q p ne = grind (arith, nat_tests)

-- each page of a tree is in use
pub tree_in_use : (level least : ℕ) (page_state : ℕ → PageState) (words : ℕ → ℕ → ℕ) (page : ℕ) → IsTreeAt level least page_state words page → (q : ℕ) → 0 < times q (pages_at level words page) → IsTrue (is_kept (page_state q))
tree_in_use level least page_state words page tree q some = elim (cases_eq q page) [
  | inl e ↦ subst (λ p. IsTrue (is_kept (page_state p))) (sym e) tree.page_in_use
  | inr ne ↦ tree.below.in_use q (omega (arith, some, times-cons q page (pages_below level words (items_of (words page))), none_other q page ne))
]
  where
    none_other : (q p : ℕ) → (q ≡ p → ⊥) → cond {A = ℕ} (p == q) 1 0 ≡ 0
    none_other q p ne = grind (arith, nat_tests)

pub kept_not_free : (s : PageState) → IsTrue (is_kept s) → s ≡ Free → ⊥
kept_not_free s used free = false≢true (ap is_kept (sym free) ∙ used)
