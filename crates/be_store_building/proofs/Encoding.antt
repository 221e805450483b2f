-- Pages that a builder has taken, as the pages of a table's first version.
use Rattle.std.proofs.Common.{◌≡◌, ℕ, zero, suc, ◌+◌, ◌<◌, ◌≤◌, List, [], ◌∷◌, length, Bool, true, false, nat_lt, refl, sym, ap, ◌∙◌, subst, inl, inr, arith, IsTrue}
use Rattle.std.proofs.lemmas.Bool.{cases_eq, cases_lt}
use borrow.Author.Tests.{le-ltb, lt-ltb}
use mathlib.Core.Bool.{false≢true}
use Rattle.be_core.specs.Machine.{bit, has}
use Rattle.be_paged.proofs.StayingVersion.{reaches_once, version_kept}
use Rattle.be_paged_building.specs.Building.{IsTooLarge}
use Rattle.be_paged_reading.specs.Page.{contents_of, reach, roots}
use Rattle.be_paged_reading.specs.Version.{IsVersion}
use Rattle.be_pages.specs.Pages.{after_keep, is_from_before, is_kept, is_taken, times}
use Rattle.be_pages.specs.declared.room.PageState.{PageState}
use Rattle.be_pages.specs.declared.room.PageState.TheVariants.{Free, Old, GivenUp, Taken, Filled}
use Rattle.be_store_building.specs.Building.{NeedsMore}
use Rattle.be_store_building.specs.FirstPages.{NoneFree, state_in}
use Rattle.be_table.specs.Setting.{pages_below}
use Rattle.be_table.specs.Versions.{EncodesVolume, at_start}
use Rattle.be_table.proofs.Deals.{has_below}
use Rattle.be_tree.specs.Counting.{HasInHand, in_hand, one_of}
use Rattle.be_tree_reading.proofs.Frame.{times-cons, times_other}
use Rattle.be_tree_reading.proofs.Trees.{trees_in_use}
use Rattle.be_tree_reading.specs.Forest.{pages_of}
use Rattle.be_volume.specs.Volume.{State}

-- a version has only pages that are in use
reaches_kept : (s : ℕ → PageState) (w : ℕ → ℕ → ℕ) (page : ℕ) (volume : State) → IsVersion s w page volume → (q : ℕ) → 0 < times q (reach w page) → IsTrue (is_kept (s q))
reaches_kept s w page volume version q some =
    let ps = pages_of w (roots (contents_of (w page))) in
    elim (cases_eq q page) [
      | inl e ↦ subst (λ p. IsTrue (is_kept (s p))) (sym e) version.in_use
      | inr ne ↦ trees_in_use s w (roots (contents_of (w page))) version.in_hand.trees.each q (omega (arith, some, times-cons q page ps, times-cons q page [], times_other q page ne))
    ]

kept_taken : (s : PageState) → IsTrue (is_taken s) → Old ≡ after_keep s
kept_taken Free h = absurd (false≢true h)
kept_taken Old h = absurd (false≢true h)
kept_taken GivenUp h = absurd (false≢true h)
kept_taken Taken h = refl
kept_taken Filled h = refl

module _ (states : List PageState) (used : ℕ) (taken : (q : ℕ) → q < used → IsTrue (is_taken (state_in states q))) (free : (q : ℕ) → used ≤ q → state_in states q ≡ Free) where
  below : (q : ℕ) → q < used → has (pages_below used) q ≡ true
  below q lt = has_below used q ∙ lt-ltb q used lt

  beyond : (q : ℕ) → used ≤ q → has (pages_below used) q ≡ false
  beyond q past = has_below used q ∙ le-ltb q used past

  kept_at : (q : ℕ) → at_start (has (pages_below used) q) ≡ after_keep (state_in states q)
  kept_at q = elim (cases_lt q used) [
    | inl lt ↦ ap at_start (below q lt) ∙ kept_taken (state_in states q) (taken q lt)
    | inr past ↦ ap at_start (beyond q past) ∙ sym (ap after_keep (free q past))
  ]

  module _ (words : ℕ → ℕ → ℕ) (volume : State) (version : IsVersion (state_in states) words 0 volume) (hand : HasInHand (state_in states) (reach words 0)) where
    none_beyond : (q : ℕ) → used ≤ q → times q (reach words 0) ≡ 0
    none_beyond q past = by (times q (reach words 0)) refl
      where
        by : (n : ℕ) → times q (reach words 0) ≡ n → times q (reach words 0) ≡ 0
        by zero e = e
        by (suc n) e = absurd (false≢true (sym (ap is_kept (free q past)) ∙ reaches_kept (state_in states) words 0 volume version q (omega (arith, e))))

    pub encodes : EncodesVolume (pages_below used) words 0 volume
    encodes = record {
      version = version_kept (state_in states) (λ q. at_start (has (pages_below used) q)) words kept_at 0 volume version;
      exact = λ q. elim (cases_lt q used) [
        | inl lt ↦ omega (arith, hand q (taken q lt), reaches_once (state_in states) words 0 volume version q, ap bit (below q lt))
        | inr past ↦ none_beyond q past ∙ sym (ap bit (beyond q past))
      ];
    }

-- If no page is free, the write holds all of them.
busy_taken : (s : PageState) → (s ≡ Free → ⊥) → is_from_before s ≡ false → one_of (is_taken s) ≡ 1
busy_taken Free busy own = absurd (busy refl)
busy_taken Old busy own = absurd (false≢true (sym own))
busy_taken GivenUp busy own = absurd (false≢true (sym own))
busy_taken Taken busy own = refl
busy_taken Filled busy own = refl

module _ (states : List PageState) (busy : NoneFree states) (own : (q : ℕ) → is_from_before (state_in states q) ≡ false) where
  all_held : (n : ℕ) → n ≤ length states → in_hand n (state_in states) ≡ n
  all_held zero fits = refl
  all_held (suc n) fits = omega (arith, busy_taken (state_in states n) (busy n (omega (arith, fits))) (own n), all_held n (omega (arith, fits)))

  pub needs_more : (pages : ℕ) (volume : State) (held : List ℕ) (old : ℕ → PageState) → length states ≡ pages → HasInHand old held → IsTooLarge volume held old (state_in states) → NeedsMore pages volume
  needs_more pages volume held old len hand large page_state words page version = omega (arith, len, large hand page_state words page version (length states), all_held (length states) (omega arith))
