-- The states of pages, some of which are known from a page on.
use Rattle.std.proofs.Common.{◌≡◌, ℕ, ◌+◌, ◌-◌, ◌<◌, ◌≤◌, List, length, drop, take, Option, None, Some, ap, sym, ◌∙◌, inl, inr, arith}
use Rattle.std.proofs.lemmas.Bool.{cases_lt}
use Rattle.std.proofs.lemmas.List.{get_or-drop, get_or_past, length-drop, take_all}
use Rattle.std.specs.List.{AllWithin}
use Rattle.std.specs.Prelude.{IfNone}
use Rattle.be_pages.specs.declared.room.PageState.{PageState}
use Rattle.be_pages.specs.declared.room.PageState.TheVariants.{Free}
use Rattle.be_store_building.specs.FirstPages.{NoneFree, state_in}

-- the part of a slice from `used` on
pub rest_of : (slice items : List PageState) (used : ℕ) → slice ≡ items → take (length slice - used) (drop used slice) ≡ drop used items
rest_of slice items used e = ap (λ (xs : List PageState). take (length xs - used) (drop used xs)) e ∙ take_all (length items - used) (drop used items) (omega (arith, length-drop used items))

-- the state of a page from `used` on
from_page : (states : List PageState) (used q : ℕ) → used ≤ q → state_in (drop used states) (q - used) ≡ state_in states q
from_page states used q past = get_or-drop used states (q - used) Free ∙ ap (state_in states) (omega (arith, past))

module _ (states : List PageState) (used : ℕ) (busy : (q : ℕ) → q < used → state_in states q ≡ Free → ⊥) where
  pub lowest_free : (at : ℕ) → AllWithin (λ s. s ≡ Free → ⊥) (drop used states) 0 at → (q : ℕ) → q < used + at → state_in states q ≡ Free → ⊥
  lowest_free at none q lt free = elim (cases_lt q used) [
    | inl below ↦ busy q below free
    | inr past ↦ none (q - used) Free (omega arith) (omega (arith, lt, past)) (from_page states used q past ∙ free)
  ]

  pub none_free : AllWithin (λ s. s ≡ Free → ⊥) (drop used states) 0 (length (drop used states)) → NoneFree states
  none_free none q lt = lowest_free (length (drop used states)) none q (omega (arith, lt, length-drop used states))

-- the pages from `used` on are free
pub rest_free : (states : List PageState) (used : ℕ) → AllWithin (λ s. s ≡ Free) (drop used states) 0 (length (drop used states)) → (q : ℕ) → used ≤ q → state_in states q ≡ Free
rest_free states used all q past = elim (cases_lt q (length states)) [
  | inl lt ↦ sym (from_page states used q past) ∙ all (q - used) Free (omega arith) (omega (arith, lt, past, length-drop used states))
  | inr beyond ↦ get_or_past states q Free beyond
]

pub if_none : {X : Type 0} {P : Type 0} (r : Option X) → P → IfNone r P
if_none None p = p
if_none (Some x) p = tt
