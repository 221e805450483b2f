-- What a call has taken when it returns, and what it leaves if it is refused.
use Rattle.std.proofs.Common.{ℕ, ◌+◌, ◌≤◌, List, [], ◌∷◌, Result, Ok, Err, arith}
use Rattle.be_pages.specs.declared.room.PageState.{PageState}
use Rattle.be_pages.specs.Pages.{IsUnchanged, KeepsStart, Swaps}
use Rattle.be_value.specs.declared.refusals.Refusal.{Refusal}
use Rattle.be_tree.specs.Counting.{Takes, TakesAtMost, TakesFewer}
use Rattle.be_tree.specs.Writing.{Refuses}
use Rattle.be_tree_reading.proofs.Frame.{start_trans, unchanged_start}
use Rattle.be_tree.proofs.Sizes.InHand.{fewer_within, takes_fewer_then, takes_same, takes_swaps, takes_then, takes_within}

-- a call that has taken fewer pages may return either result
pub takes_on : {A : Type 0} (most : ℕ) (r : Result A Refusal) (s t : ℕ → PageState) → TakesFewer most s t → Takes most r s t
takes_on most (Ok x) s t fewer = (λ n. omega (arith, fewer n), tt)
takes_on most (Err e) s t fewer = (tt, fewer)

-- after an earlier change that took some pages
pub takes_since : {A : Type 0} (a b most : ℕ) (r : Result A Refusal) (s t u : ℕ → PageState) → TakesAtMost a s t → a + b ≤ most → Takes b r t u → Takes most r s u
takes_since a b most (Ok x) s t u first le then = (takes_within (a + b) most s u le (takes_then a b s t u first then.0), tt)
takes_since a b most (Err e) s t u first le then = (tt, fewer_within (a + b) most s u le (takes_fewer_then a b s t u first then.1))

module _ {S K A : Type 0} (kept_of : S → K) (page_state_of : S → ℕ → PageState) (words_of : S → ℕ → ℕ → ℕ) (full : S → ℕ → Type 0) where
  -- an error after an earlier change
  pub refuses_since : (a b most : ℕ) (r : Result A Refusal) (old mid new : S) → KeepsStart kept_of page_state_of words_of old mid → TakesAtMost a (page_state_of old) (page_state_of mid) → a + b ≤ most
      → Refuses kept_of page_state_of words_of full b r mid new → Refuses kept_of page_state_of words_of full most r old new
  refuses_since a b most (Ok x) old mid new starts took le h = (tt, tt, takes_since a b most (Ok x) (page_state_of old) (page_state_of mid) (page_state_of new) took le h.2)
  refuses_since a b most (Err e) old mid new starts took le h =
      (start_trans kept_of page_state_of words_of old mid new starts h.0, h.1, takes_since {A = A} a b most (Err e) (page_state_of old) (page_state_of mid) (page_state_of new) took le h.2)

  -- after pages were only read
  pub refuses_read : (b most : ℕ) (r : Result A Refusal) (old mid new : S) → IsUnchanged kept_of page_state_of words_of old mid → b ≤ most
      → Refuses kept_of page_state_of words_of full b r mid new → Refuses kept_of page_state_of words_of full most r old new
  refuses_read b most r old mid new same le h =
      refuses_since 0 b most r old mid new (unchanged_start kept_of page_state_of words_of old mid same) (takes_same (page_state_of old) (page_state_of mid) same.page_state) (omega (arith, le)) h

  -- with a larger limit
  pub refuses_within : (b most : ℕ) (r : Result A Refusal) (old new : S) → b ≤ most → Refuses kept_of page_state_of words_of full b r old new → Refuses kept_of page_state_of words_of full most r old new
  refuses_within b most (Ok x) old new le h = (tt, tt, (takes_within b most (page_state_of old) (page_state_of new) le h.2.0, tt))
  refuses_within b most (Err e) old new le h = (h.0, h.1, (tt, fewer_within b most (page_state_of old) (page_state_of new) le h.2.1))

-- a call that replaces pages by one page
pub takes_page : {S K : Type 0} (kept_of : S → K) (page_state_of : S → ℕ → PageState) (words_of : S → ℕ → ℕ → ℕ) (before : List ℕ) (page : ℕ) (old new : S) → Swaps kept_of page_state_of words_of before (page ∷ []) old new
    → TakesAtMost 1 (page_state_of old) (page_state_of new)
takes_page kept_of page_state_of words_of before page old new swaps n = omega (arith, takes_swaps kept_of page_state_of words_of before (page ∷ []) old new swaps n)

pub takes_more : {A : Type 0} (b most : ℕ) (r : Result A Refusal) (s t : ℕ → PageState) → b ≤ most → Takes b r s t → Takes most r s t
takes_more b most (Ok x) s t le h = (takes_within b most s t le h.0, tt)
takes_more b most (Err e) s t le h = (tt, fewer_within b most s t le h.1)
