-- The pages of an open write, as pages of the version that it creates.
use Rattle.std.proofs.Common.{◌≡◌, ◌≢◌, ℕ, ◌≤◌, List, length, Bool, true, false, nat_lt, if◌then◌else◌, refl, sym, ap, ◌∙◌, subst, inl, inr, arith}
use Rattle.std.specs.Prelude.{slice_index_or}
use Rattle.std.proofs.lemmas.Bool.{cases_lt}
use Rattle.std.proofs.lemmas.List.{get_or_default, get_or_past}
use borrow.Author.Tests.{lt-ltb}
use Rattle.be_core.specs.Machine.{has, bit}
use Rattle.be_pages.specs.declared.room.PageState.TheVariants.{Free as Nowhere, Taken}
use Rattle.be_pages.specs.declared.page_pool.Place.{Place}
use Rattle.be_pages.specs.declared.page_pool.Place.TheVariants.{Free, Reserved, Filled, Current, GivenUp, Retired}
use Rattle.be_pages.specs.declared.room.PageState.{PageState}
use Rattle.be_pages.specs.Pages.{after_keep, times, is_kept as state_is_kept, PageStep, untouched, unused, fresh, given_old, given_new, stays_old, stays_new, Swaps}
use Rattle.be_pages.specs.Place.{place_of}
use Rattle.be_paged_reading.specs.Page.{reach}
use Rattle.be_paged_reading.specs.Version.{IsVersion}
use Rattle.be_paged.proofs.StayingVersion.{version_kept, reaches_once}
use Rattle.be_volume.specs.Volume.{State}
use Rattle.be_table.specs.WriterState.{is_of_next}
use Rattle.be_table.specs.declared.pass.Knowledge.{Knowledge}
use Rattle.be_table.specs.Place.{Work}
use Rattle.be_table.specs.Reading.{open_of, page_state_at, page_state_among, page_state_in_work, word_of_page, words_of}
use Rattle.be_table.specs.Rule.{largest_pool, reach_at}
use Rattle.be_table.specs.Steps.{pages_from}
use Rattle.be_table.specs.Versions.{at_start, EncodesVolume}
use Rattle.be_table.proofs.Listed.{listed, tested, untested}

by_place : (x : Place) → page_state_at x ≢ Taken → (at_start (is_of_next x) ≡ after_keep (page_state_at x)) × (is_of_next x ≡ state_is_kept (page_state_at x))
by_place Free h = (refl, refl)
by_place Reserved h = absurd (h refl)
by_place Filled h = (refl, refl)
by_place Current h = (refl, refl)
by_place GivenUp h = (refl, refl)
by_place (Retired r) h = (refl, refl)

nowhere : (b : Bool) → (at_start false ≡ after_keep (if b then Nowhere else Nowhere)) × (false ≡ state_is_kept (if b then Nowhere else Nowhere))
nowhere true = (refl, refl)
nowhere false = (refl, refl)

module _ (xs : List Place) (few : length xs ≤ largest_pool) (none : (q : ℕ) → page_state_among xs q ≢ Taken) where
  -- a page of the new version is one that the write keeps
  kept_at : (q : ℕ) → (at_start (has (pages_from is_of_next 0 xs) q) ≡ after_keep (page_state_among xs q)) × (has (pages_from is_of_next 0 xs) q ≡ state_is_kept (page_state_among xs q))
  kept_at q = elim (cases_lt q (length xs)) [
    | inl lt ↦
        let in_range : nat_lt q largest_pool ≡ true = lt-ltb q largest_pool (omega (arith, lt, few)) in
        let place : slice_index_or xs q Free ≡ place_of xs q = get_or_default xs q Free Current lt in
        let lies : page_state_among xs q ≡ page_state_at (place_of xs q) = rw (in_range, place) refl in
        rw (listed is_of_next xs q, tested is_of_next xs q lt, lies) (by_place (place_of xs q) (λ e. none q (lies ∙ e)))
    | inr le ↦ rw (listed is_of_next xs q, untested is_of_next xs q le, get_or_past xs q Free le) (nowhere (nat_lt q largest_pool))
  ]

  pub encodes_kept : (words : ℕ → ℕ → ℕ) (page : ℕ) (volume : State) → IsVersion (page_state_among xs) words page volume → ((q : ℕ) → times q (reach words page) ≡ bit (state_is_kept (page_state_among xs q))) → EncodesVolume (pages_from is_of_next 0 xs) words page volume
  encodes_kept words page volume h exact = record {
    version = version_kept (page_state_among xs) (λ q. at_start (has (pages_from is_of_next 0 xs) q)) words (λ q. (kept_at q).0) page volume h;
    exact = λ q. exact q ∙ ap bit (sym (kept_at q).1);
  }

-- when a write begins, it has the pages of the current version
pub begun_version : (c : Knowledge) → ((q : ℕ) → page_state_among c.places q ≡ at_start (has (reach_at c.limits c.seen (length c.seen)) q)) → (page : ℕ) (volume : State)
    → EncodesVolume (reach_at c.limits c.seen (length c.seen)) (word_of_page c.words) page volume → IsVersion (page_state_among c.places) (word_of_page c.words) page volume
begun_version c begun page volume h = subst (λ (s : ℕ → PageState). IsVersion s (word_of_page c.words) page volume) (λ k q. sym (begun q) k) h.version

-- what may happen to a page, of the version or not, while the version is replaced
kept_once : {Same : Type 0} {b a : ℕ} {s t : PageState} (r : Bool) → b ≡ bit r → s ≡ at_start r → a ≤ 1 → PageStep Same b a s t → (a ≡ bit (state_is_kept t)) × (t ≢ Taken)
kept_once true e is once (untouched same) = absurd (omega (arith, e))
kept_once false e is once (untouched {s} same) = (sym (ap (λ x. bit (state_is_kept x)) is), λ z. let y : Nowhere ≡ Taken = sym is ∙ z in cc)
kept_once r e is once unused = (refl, λ z. cc)
kept_once r e is once (fresh {a}) = (omega (arith, once), λ z. cc)
kept_once r e is once (given_old same) = (refl, λ z. cc)
kept_once r e is once given_new = (refl, λ z. cc)
kept_once r e is once (stays_old {b} {a} same) = (omega (arith, once), λ z. cc)
kept_once r e is once (stays_new {b} {a}) = (omega (arith, once), λ z. cc)

-- If the pages of the current version have become those of another version, the write keeps exactly
-- the latter. Each page that it has taken is filled.
pub kept_exactly : {S K : Type 0} (kept_of : S → K) (page_state_of : S → ℕ → PageState) (words_of : S → ℕ → ℕ → ℕ) (pages before now : List ℕ) (old new : S)
    → Swaps kept_of page_state_of words_of before now old new → ((q : ℕ) → page_state_of old q ≡ at_start (has pages q)) → ((q : ℕ) → times q before ≡ bit (has pages q)) → ((q : ℕ) → times q now ≤ 1)
    → (q : ℕ) → (times q now ≡ bit (state_is_kept (page_state_of new q))) × (page_state_of new q ≢ Taken)
kept_exactly kept_of page_state_of words_of pages before now old new swaps begun exact once q = kept_once (has pages q) (exact q) (begun q) (once q) (swaps.each q)

-- the same for an open write that began with a version and has created another
module _ (old new : Work) (from page : ℕ) (volume made : State) (begun : (q : ℕ) → page_state_among old.knows.places q ≡ at_start (has (reach_at old.knows.limits old.knows.seen (length old.knows.seen)) q))
    (encoded : EncodesVolume (reach_at old.knows.limits old.knows.seen (length old.knows.seen)) (word_of_page old.knows.words) from volume)
    (version : IsVersion (page_state_among new.knows.places) (word_of_page new.knows.words) page made)
    (swaps : Swaps open_of page_state_in_work words_of (reach (word_of_page old.knows.words) from) (reach (word_of_page new.knows.words) page) old new) where
  pub keeps_exactly : (q : ℕ) → (times q (reach (word_of_page new.knows.words) page) ≡ bit (state_is_kept (page_state_among new.knows.places q))) × (page_state_among new.knows.places q ≢ Taken)
  keeps_exactly q = kept_exactly open_of page_state_in_work words_of (reach_at old.knows.limits old.knows.seen (length old.knows.seen))
      (reach (word_of_page old.knows.words) from) (reach (word_of_page new.knows.words) page) old new swaps begun encoded.exact (reaches_once (page_state_among new.knows.places) (word_of_page new.knows.words) page made version) q
