-- Calls that are refused because no page is left, and the version page meanwhile.
use Rattle.std.proofs.Common.{◌≡◌, ◌⊎◌, ℕ, suc, ◌+◌, ◌≤◌, List, ◌∷◌, length, map, Result, Ok, Err, subst, sym, arith, inl, inr}
use Rattle.std.specs.Prelude.{IfErr}
use Rattle.std.proofs.lemmas.List.{length-append}
use Rattle.be_pages.specs.declared.room.PageState.{PageState}
use Rattle.be_pages.specs.declared.room.PageState.TheVariants.{Taken}
use Rattle.be_pages.specs.Pages.{PageStep, Swaps, untouched, unused, fresh, given_old, given_new, stays_old, stays_new}
use Rattle.be_pages.specs.Refusal.{IsFullOf}
use Rattle.be_paged_building.specs.Building.{Builds, IsNoRoom, IsTooLarge, Refuses}
use Rattle.be_paged_building.specs.declared.building.VolumeBuilder.{VolumeBuilder}
use Rattle.be_paged_reading.specs.Catalog.{IsCatalog}
use Rattle.be_paged_reading.specs.Page.{contents_of, reach}
use Rattle.be_paged_reading.specs.Version.{IsVersion}
use Rattle.be_tree.specs.Building.{IsShort}
use Rattle.be_tree.proofs.Sizes.InHand.{hand_size}
use Rattle.be_tree_reading.proofs.Trees.{tree_rising}
use Rattle.be_tree_reading.specs.Forest.{pages_of}
use Rattle.be_tree_reading.specs.Key.{IsRising}
use Rattle.be_tree_reading.specs.Pair.{Pair}
use Rattle.be_tree_reading.specs.Tree.{IsTree, pages, pairs}
use Rattle.be_value.specs.declared.refusals.Refusal.{Refusal}
use Rattle.be_value.specs.declared.refusals.Refusal.TheVariants.{OutOfMemory}
use Rattle.be_volume.specs.Volume.{State}

-- a page that is taken, and not filled yet, stays so while others change
taken_step : {P : Type 0} {b a : ℕ} {s t : PageState} → PageStep P b a s t → s ≡ Taken → t ≡ Taken
taken_step (untouched p) e = e
taken_step unused e = cc
taken_step (fresh {a}) e = cc
taken_step (given_old p) e = cc
taken_step given_new e = cc
taken_step (stays_old p) e = cc
taken_step stays_new e = cc

pub taken_stays : {S K : Type 0} (kept_of : S → K) (page_state_of : S → ℕ → PageState) (words_of : S → ℕ → ℕ → ℕ) (before after : List ℕ) (old new : S) (page : ℕ) → Swaps kept_of page_state_of words_of before after old new
    → page_state_of old page ≡ Taken → page_state_of new page ≡ Taken
taken_stays kept_of page_state_of words_of before after old new page swaps taken = taken_step (swaps.each page) taken

-- an error that is passed on
pub no_room : {S A : Type 0} (before after : VolumeBuilder) (why : Refusal → Type 0) (r : Result A Refusal) (full : ℕ → Type 0) (few large : Type 0) (old new : S) → (few → large) → IfErr r (λ e. (e ≡ OutOfMemory) ⊎ (IsFullOf full e × few))
    → Refuses before after why (IsNoRoom full large) r old new
no_room before after why (Ok x) full few large old new f h = tt
no_room before after why (Err e) full few large old new f h = elim h [ inl memory ↦ inr (inl memory) | inr found ↦ inr (inr (found.0, f found.1)) ]

pub no_memory : {S A : Type 0} (before after : VolumeBuilder) (why : Refusal → Type 0) (r : Result A Refusal) (full : ℕ → Type 0) (large : Type 0) (old new : S) → IfErr r (λ e. e ≡ OutOfMemory)
    → Refuses before after why (IsNoRoom full large) r old new
no_memory before after why (Ok x) full large old new h = tt
no_memory before after why (Err e) full large old new h = inr (inl h)

-- a version has its own page, and those of its catalog
pub catalog_tree : (page_state : ℕ → PageState) (words : ℕ → ℕ → ℕ) (page : ℕ) (volume : State) → IsVersion page_state words page volume → IsTree page_state words (contents_of (words page)).catalog
catalog_tree page_state words page volume version = version.in_hand.trees.each 0 0 (omega arith)

pub reach_size : (words : ℕ → ℕ → ℕ) (page : ℕ) → length (reach words page)
    ≡ suc (length (pages words (contents_of (words page)).catalog) + length (pages_of words (map (λ e. e.root) (contents_of (words page)).entries)))
reach_size words page =
    let c = contents_of (words page) in
    omega (arith, length-append (pages words c.catalog) (pages_of words (map (λ e. e.root) c.entries)))

-- the catalog of each version has more pages than are left
pub version_large : (page : ℕ) (taken : List ℕ) (count : ℕ) (old new : ℕ → PageState) (volume : State) → IsShort (length taken) count old new → ((ys : List Pair) → IsRising ys → IsCatalog ys volume.nodes → count ≤ length ys)
    → IsTooLarge volume (page ∷ taken) old new
version_large page taken count old new volume short few has page_state words at version n =
    let c = contents_of (words at) in
    let tree = catalog_tree page_state words at volume version in
    let enough : count ≤ length (pairs words c.catalog) = few (pairs words c.catalog) (tree_rising page_state words c.catalog tree) version.encodes.catalog in
    omega (arith, hand_size old (page ∷ taken) has n, short page_state words c.catalog tree enough n, reach_size words at)

-- what the builder was given is what its snapshot shows
pub as_given : (page_state : ℕ → PageState) (words : ℕ → ℕ → ℕ) (b : VolumeBuilder) (volume : State) → b.volume.value ≡ volume → Builds page_state words b volume → Builds page_state words b b.volume.value
as_given page_state words b volume e h = subst (Builds page_state words b) (sym e) h
