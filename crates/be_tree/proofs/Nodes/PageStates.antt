-- One page gets another state, and the others keep theirs.
use Rattle.std.proofs.Common.{◌≡◌, ◌≢◌, ℕ, ◌==◌, if◌then◌else◌, ◌∙◌, arith}
use Rattle.std.proofs.lemmas.Bool.Decides.{nat_tests}
use Rattle.be_pages.specs.declared.room.PageState.{PageState}
use Rattle.be_pages.specs.Pages.{SetsStateAt}

pub changed_state : (s t : ℕ → PageState) (page : ℕ) (u : PageState) → SetsStateAt s t page u → t page ≡ u
changed_state s t page u states = states page ∙ here u (s page)
  where
    here : (t u : PageState) → (if page == page then t else u) ≡ t
    here t u = grind (arith, nat_tests)

pub other_states : (s t : ℕ → PageState) (page : ℕ) (u : PageState) → SetsStateAt s t page u → (q : ℕ) → q ≢ page → t q ≡ s q
other_states s t page u states q ne = states q ∙ other u (s q)
  where
    other : (t u : PageState) → (if q == page then t else u) ≡ u
    other t u = grind (arith, nat_tests)
