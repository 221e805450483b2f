-- How giving up a page changes the pages in use.
use Rattle.std.proofs.Common.{◌≡◌, ℕ, [], ◌∷◌, IsTrue, ap, sym, subst, inl, inr, arith}
use mathlib.Core.Bool.{false≢true}
use Rattle.std.proofs.lemmas.Bool.{cases_eq}
use Rattle.std.proofs.lemmas.Bool.Decides.{nat_tests}
use Rattle.be_pages.specs.declared.room.PageState.{PageState}
use Rattle.be_pages.specs.declared.room.PageState.TheVariants.{Free, Old, GivenUp, Taken, Filled}
use Rattle.be_pages.specs.Pages.{is_kept, after_give_up, times, SetsStateAt, PageStep, untouched, given_old, given_new, Swaps}
use Rattle.be_tree_reading.proofs.Frame.{times_itself, times_other}

give_step : (P : Type 0) (s : PageState) → P → IsTrue (is_kept s) → PageStep P 1 0 s (after_give_up s)
give_step P Free p used = absurd (false≢true used)
give_step P Old p used = given_old p
give_step P GivenUp p used = absurd (false≢true used)
give_step P Taken p used = absurd (false≢true used)
give_step P Filled p used = given_new

module _ {S K : Type 0} (kept_of : S → K) (page_state_of : S → ℕ → PageState) (words_of : S → ℕ → ℕ → ℕ) where
  -- one page fewer is in use
  pub given_swaps : (page : ℕ) (old new : S) → kept_of new ≡ kept_of old → IsTrue (is_kept (page_state_of old page)) → words_of new ≡ words_of old
      → SetsStateAt (page_state_of old) (page_state_of new) page (after_give_up (page_state_of old page)) → Swaps kept_of page_state_of words_of (page ∷ []) [] old new
  given_swaps page old new kept used words lies = record {
    kept = kept;
    each = λ q. elim (cases_eq q page) [
      | inl e ↦ subst (λ p. PageStep (words_of new p ≡ words_of old p) (times p (page ∷ [])) 0 (page_state_of old p) (page_state_of new p)) (sym e)
          (subst (λ n. PageStep (words_of new page ≡ words_of old page) n 0 (page_state_of old page) (page_state_of new page)) (sym (times_itself page))
          (subst (λ t. PageStep (words_of new page ≡ words_of old page) 1 0 (page_state_of old page) t) (sym at_page) (give_step (words_of new page ≡ words_of old page) (page_state_of old page) (ap (λ w. w page) words) used)))
      | inr ne ↦ subst (λ n. PageStep (words_of new q ≡ words_of old q) n 0 (page_state_of old q) (page_state_of new q)) (sym (times_other q page ne))
          (subst (λ t. PageStep (words_of new q ≡ words_of old q) 0 0 (page_state_of old q) t) (sym (off_page q ne)) (untouched (ap (λ w. w q) words)))
    ];
  }
    where
      at_page : page_state_of new page ≡ after_give_up (page_state_of old page)
      at_page = grind (arith, nat_tests, lies page)

      off_page : (q : ℕ) → (q ≡ page → ⊥) → page_state_of new q ≡ page_state_of old q
      off_page q ne = grind (arith, nat_tests, lies q)
