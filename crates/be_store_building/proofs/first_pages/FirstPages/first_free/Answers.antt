use Rattle.std.proofs.Common.{◌≡◌, ◌+◌, ◌<◌, ℕ, List, Option, None, Some, length, drop, subst, sym, ◌∙◌, rules}
use Rattle.std.proofs.lemmas.Iterator.{IsFirst-from_position, YieldsList-from_slice}
use Rattle.std.specs.List.{AllWithin, HoldsAt}
use Rattle.std.specs.Option.{MatchOption}
use borrow.Author.Tests.{tests}
use Rattle.be_pages.specs.declared.room.PageState.{PageState}
use Rattle.be_pages.specs.declared.room.PageState.TheVariants.{Free}
use Rattle.be_store_building.proofs.States.{if_none, lowest_free, none_free, rest_of}
use Rattle.be_store_building.proofs.first_pages.FirstPages.first_free.Goals as goal

-- what `position` found among the pages from `used` on
abbrev Finds : (rest : List PageState) → Option ℕ → Type 0
Finds rest found = MatchOption found (AllWithin (λ s. s ≡ Free → ⊥) rest 0 (length rest)) (λ i. (i < length rest) × HoldsAt (λ s. s ≡ Free) rest i × AllWithin (λ s. s ≡ Free → ⊥) rest 0 i)

pub returns-in_err-above-clause-none : goal.returns-in_err-above-clause-none
returns-in_err-above-clause-none c =
    let pages = c.args.self.now in
    let rest = drop pages.used pages.states.items in
    let found : Finds rest c.position.result = IsFirst-from_position _ _ c.position.result (λ s. s ≡ Free) (λ s. s ≡ Free → ⊥) c.position.ensures.ran
    (YieldsList-from_slice rest (c.iter.ensures.rest ∙ rest_of c.deref.result.now pages.states.items pages.used c.deref.ensures.value)) (λ x q k. search (rules, tests)) (λ x q k. search (rules, tests)) in
    if_none c.from_residual.result (none_free pages.states.items pages.used pages.busy (subst (Finds rest) c.in_err-above.was found))

pub returns-clause-lowest : goal.returns-clause-lowest
returns-clause-lowest c =
    let pages = c.args.self.now in
    let rest = drop pages.used pages.states.items in
    let found : Finds rest c.position.result = IsFirst-from_position _ _ c.position.result (λ s. s ≡ Free) (λ s. s ≡ Free → ⊥) c.position.ensures.ran
    (YieldsList-from_slice rest (c.iter.ensures.rest ∙ rest_of c.deref.result.now pages.states.items pages.used c.deref.ensures.value)) (λ x q k. search (rules, tests)) (λ x q k. search (rules, tests)) in
    lowest_free pages.states.items pages.used pages.busy c.in_ok-above.above (subst (Finds rest) c.in_ok-above.was found).2
