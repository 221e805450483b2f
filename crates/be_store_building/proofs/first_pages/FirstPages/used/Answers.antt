use Rattle.std.proofs.Common.{◌≡◌, ◌<◌, ℕ, List, Bool, true, length, drop, subst, sym, ◌∙◌, rules}
use Rattle.std.proofs.lemmas.Iterator.{cases_from_all, YieldsList-from_slice}
use Rattle.std.specs.Bool.{MatchBool}
use Rattle.std.specs.List.{AllWithin, HoldsAt}
use borrow.Author.Tests.{tests}
use Rattle.be_pages.specs.declared.room.PageState.{PageState}
use Rattle.be_pages.specs.declared.room.PageState.TheVariants.{Free}
use Rattle.be_store_building.proofs.States.{rest_free, rest_of}
use Rattle.be_store_building.proofs.first_pages.FirstPages.used.Goals as goal

-- what `all` found among the pages from `used` on
abbrev Finds : (rest : List PageState) → Bool → Type 0
Finds rest found = MatchBool found (AllWithin (λ s. s ≡ Free) rest 0 (length rest)) ((k : ℕ) × (k < length rest) × HoldsAt (λ s. s ≡ Free → ⊥) rest k)

pub returns-then-all-clause-free : goal.returns-then-all-clause-free
returns-then-all-clause-free c =
    let pages = c.args.self.now in
    let rest = drop pages.used pages.states.items in
    let found : Finds rest c.all.result = cases_from_all _ _ c.all.result (λ s. s ≡ Free) (λ s. s ≡ Free → ⊥) c.all.ensures.ran
    (YieldsList-from_slice rest (c.iter.ensures.rest ∙ rest_of c.deref.result.now pages.states.items pages.used c.deref.ensures.value)) (λ x q k. search (rules, tests)) (λ x q k. search (rules, tests)) in
    rest_free pages.states.items pages.used (subst (Finds rest) c.if-all.true found)
