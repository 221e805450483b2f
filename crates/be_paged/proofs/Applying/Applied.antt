-- The version that a write leaves, made up of the changes to its trees and its new page.
use Rattle.std.proofs.Common.{◌≡◌, ℕ, zero, suc, ◌<◌, ◌≤◌, List, [], ◌∷◌, All, IsTrue, Ok, ap, sym, subst, ◌∙◌, refl, inl, inr, arith}
use mathlib.Core.Bool.{false≢true}
use Rattle.std.proofs.lemmas.Bool.{cases_eq}
use Rattle.be_pages.specs.declared.room.PageState.{PageState}
use Rattle.be_pages.specs.declared.room.PageState.TheVariants.{Free, Filled}
use Rattle.be_pages.specs.Pages.{is_kept, times, Swaps}
use Rattle.be_tree_reading.proofs.Frame.{times-cons, times_itself, times_other, same_page, swaps_trans, swaps_frame, swaps_fresh, swaps_stays, readable_kept}
use Rattle.be_tree_reading.proofs.Trees.{AreBeside, trees_beside, trees_in_use}
use Rattle.be_tree_reading.specs.Forest.{pages_of}
use Rattle.be_volume.specs.Sound.{IsSound}
use Rattle.be_volume.specs.Volume.{State, steps}
use Rattle.be_volume.specs.declared.ops.Done.{Done}
use Rattle.be_volume.specs.declared.ops.Op.{Op}
use Rattle.be_paged_reading.specs.Catalog.{IsCatalog}
use Rattle.be_paged.specs.Changes.{Changes, Applies, SetsSameValue}
use Rattle.be_paged_reading.specs.Page.{Contents, contents_of, IsVersionPage, roots, reach}
use Rattle.be_paged_reading.specs.Version.{IsInHand, IsVersion, Encodes}
use Rattle.be_paged.proofs.Applying.Hand.{entries_same}

free_unused : (s : PageState) → s ≡ Free → IsTrue (is_kept s) → ⊥
free_unused s e h = false≢true (sym (ap is_kept e) ∙ h)

-- contents in hand are preserved while other pages change
in_hand_beside : (s t : ℕ → PageState) (v w : ℕ → ℕ → ℕ) (c : Contents) → IsInHand s v c → AreBeside s t v w (roots c) → IsInHand t w c
in_hand_beside s t v w c h beside = record {
  fits = h.fits;
  few = h.few;
  named = h.named;
  trees = record { each = beside.trees; once = λ q. omega (arith, ap (times q) beside.same_pages, h.trees.once q) };
}

encodes_beside : (s t : ℕ → PageState) (v w : ℕ → ℕ → ℕ) (c : Contents) (volume : State) → Encodes v c volume → AreBeside s t v w (roots c) → Encodes w c volume
encodes_beside s t v w c volume h beside = record {
  next = h.next;
  catalog = subst (λ xs. IsCatalog xs volume.nodes) (sym (beside.same_pairs zero zero (omega arith))) h.catalog;
  indices = entries_same v w c.entries _ h.indices (λ j d lt. beside.same_pairs (suc j) d (omega (arith, lt)));
}

module _ {S K : Type 0} (kept_of : S → K) (page_state_of : S → ℕ → PageState) (words_of : S → ℕ → ℕ → ℕ) where
  -- the version page is replaced, and the trees are unchanged
  module _ (page new_page : ℕ) (c : Contents) (old new : S) (h : IsInHand (page_state_of old) (words_of old) c) (used : IsTrue (is_kept (page_state_of old page)))
      (apart : times page (pages_of (words_of old) (roots c)) ≡ 0) (swaps : Swaps kept_of page_state_of words_of (page ∷ []) (new_page ∷ []) old new)
      (written : contents_of (words_of new new_page) ≡ c) (is_page : IsVersionPage (words_of new new_page)) (filled : page_state_of new new_page ≡ Filled) where
    abbrev ps : List ℕ
    ps = pages_of (words_of old) (roots c)

    used_by : (q : ℕ) → 0 < times q (pages_of (words_of old) (roots c)) → IsTrue (is_kept (page_state_of old q))
    used_by q some = trees_in_use (page_state_of old) (words_of old) (roots c) h.trees.each q some

    other : (q : ℕ) → 0 < times q (pages_of (words_of old) (roots c)) → times q (page ∷ []) ≡ 0
    other q some = times_other q page (λ e. omega (arith, some, apart, ap (λ p. times p (pages_of (words_of old) (roots c))) e))

    once : (q : ℕ) → times q (page ∷ pages_of (words_of old) (roots c)) ≤ 1
    once q = elim (cases_eq q page) [
      | inl e ↦ subst (λ p. times p (page ∷ pages_of (words_of old) (roots c)) ≤ 1) (sym e) (omega (arith, times-cons page page (pages_of (words_of old) (roots c)), same_page page, apart))
      | inr ne ↦ omega (arith, times-cons q page (pages_of (words_of old) (roots c)), times-cons q page [], times_other q page ne, h.trees.once q)
    ]

    beside : AreBeside (page_state_of old) (page_state_of new) (words_of old) (words_of new) (roots c)
    beside = trees_beside kept_of page_state_of words_of old new (page ∷ []) (new_page ∷ []) swaps (roots c) h.trees.each other

    new_apart : times new_page (pages_of (words_of old) (roots c)) ≡ 0
    new_apart = by (times new_page (pages_of (words_of old) (roots c))) refl
      where
        by : (n : ℕ) → times new_page (pages_of (words_of old) (roots c)) ≡ n → times new_page (pages_of (words_of old) (roots c)) ≡ 0
        by zero e = e
        by (suc n) e = absurd (free_unused (page_state_of old new_page)
            (swaps_fresh kept_of page_state_of words_of (page ∷ []) (new_page ∷ []) old new swaps new_page (other new_page (omega (arith, e))) (omega (arith, times_itself new_page)))
            (used_by new_page (omega (arith, e))))

    pub new_version : (volume : State) → Encodes (words_of old) c volume → IsSound volume → IsVersion (page_state_of new) (words_of new) new_page volume
    new_version volume encodes sound = record {
      in_use = ap is_kept filled;
      is_page = is_page;
      apart = ap (λ (d : Contents). times new_page (pages_of (words_of new) (roots d))) written ∙ ap (times new_page) beside.same_pages ∙ new_apart;
      in_hand = subst (IsInHand (page_state_of new) (words_of new)) (sym written) (in_hand_beside (page_state_of old) (page_state_of new) (words_of old) (words_of new) c h beside);
      encodes = subst (λ d. Encodes (words_of new) d volume) (sym written) (encodes_beside (page_state_of old) (page_state_of new) (words_of old) (words_of new) c volume encodes beside);
      sound = sound;
    }

    pub new_reach : Swaps kept_of page_state_of words_of (page ∷ pages_of (words_of old) (roots c)) (reach (words_of new) new_page) old new
    new_reach = subst (λ qs. Swaps kept_of page_state_of words_of (page ∷ pages_of (words_of old) (roots c)) (new_page ∷ qs) old new)
        (sym (ap (λ (d : Contents). pages_of (words_of new) (roots d)) written ∙ beside.same_pages))
        (swaps_frame kept_of page_state_of words_of (page ∷ []) (new_page ∷ []) (page ∷ ps) (new_page ∷ ps) (λ q. times q ps) old new swaps
        (λ q. omega (arith, times-cons q page ps, times-cons q page [])) (λ q. omega (arith, times-cons q new_page ps, times-cons q new_page [])) once (λ q some. used_by q some))

  -- a list of operations on a version
  module _ (old mid : S) (page : ℕ) (after : Contents) (volume : State) (version : IsVersion (page_state_of old) (words_of old) page volume)
      (change : Changes kept_of page_state_of words_of (contents_of (words_of old page)) after old mid) where
    abbrev before : List ℕ
    before = pages_of (words_of old) (roots (contents_of (words_of old page)))

    pub page_stays : IsTrue (is_kept (page_state_of mid page))
    page_stays = subst (λ s. IsTrue (is_kept s)) (sym (swaps_stays kept_of page_state_of words_of _ _ old mid change.swaps page version.apart (readable_kept (page_state_of old page) version.in_use))) version.in_use

    page_apart : times page (pages_of (words_of mid) (roots after)) ≡ 0
    page_apart = by (times page (pages_of (words_of mid) (roots after))) refl
      where
        by : (n : ℕ) → times page (pages_of (words_of mid) (roots after)) ≡ n → times page (pages_of (words_of mid) (roots after)) ≡ 0
        by zero e = e
        by (suc n) e = absurd (free_unused (page_state_of old page) (swaps_fresh kept_of page_state_of words_of _ _ old mid change.swaps page version.apart (omega (arith, e))) version.in_use)

    once_before : (q : ℕ) → times q (page ∷ pages_of (words_of old) (roots (contents_of (words_of old page)))) ≤ 1
    once_before q = elim (cases_eq q page) [
      | inl e ↦ subst (λ p. times p (page ∷ pages_of (words_of old) (roots (contents_of (words_of old page)))) ≤ 1) (sym e)
          (omega (arith, times-cons page page (pages_of (words_of old) (roots (contents_of (words_of old page)))), same_page page, version.apart))
      | inr ne ↦ omega (arith, times-cons q page (pages_of (words_of old) (roots (contents_of (words_of old page)))), times-cons q page [], times_other q page ne, version.in_hand.trees.once q)
    ]

    used_page : (q : ℕ) → 0 < times q (page ∷ []) → IsTrue (is_kept (page_state_of old q))
    used_page q some = elim (cases_eq q page) [
      | inl e ↦ subst (λ p. IsTrue (is_kept (page_state_of old p))) (sym e) version.in_use
      | inr ne ↦ absurd (omega (arith, some, times_other q page ne))
    ]

    pub applied : (new_page : ℕ) (new : S) (made : State) (ops : List Op) (dones : List Done) → steps volume ops ≡ Ok (made, dones) → Encodes (words_of mid) after made → IsSound made
        → Swaps kept_of page_state_of words_of (page ∷ []) (new_page ∷ []) mid new → contents_of (words_of new new_page) ≡ after → IsVersionPage (words_of new new_page) → page_state_of new new_page ≡ Filled
        → (All (SetsSameValue volume) ops → after.entries ≡ (contents_of (words_of old page)).entries)
        → Applies kept_of page_state_of words_of page new_page volume ops dones old new
    applied new_page new made ops dones stepped encodes sound swaps written is_page filled stays = record {
      made = made;
      stepped = stepped;
      version = new_version page new_page after mid new change.in_hand page_stays page_apart swaps written is_page filled made encodes sound;
      swaps = swaps_trans kept_of page_state_of words_of (reach (words_of old) page) (page ∷ pages_of (words_of mid) (roots after)) (reach (words_of new) new_page) old mid new
          (swaps_frame kept_of page_state_of words_of before (pages_of (words_of mid) (roots after)) (page ∷ before) (page ∷ pages_of (words_of mid) (roots after)) (λ q. times q (page ∷ [])) old mid change.swaps
          (λ q. omega (arith, times-cons q page before, times-cons q page [])) (λ q. omega (arith, times-cons q page (pages_of (words_of mid) (roots after)), times-cons q page [])) once_before used_page)
          (new_reach page new_page after mid new change.in_hand page_stays page_apart swaps written is_page filled);
      taken = filled;
      stays = λ lies. ap (λ (d : Contents). d.entries) written ∙ stays lies;
    }
