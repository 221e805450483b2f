-- A version is preserved while its pages and their words are.
use Rattle.std.proofs.Common.{◌≡◌, ℕ, zero, suc, ◌≤◌, List, [], ◌∷◌, ◌++◌, map, refl, sym, ap, ◌∙◌, subst, inl, inr, arith, IsTrue}
use Rattle.std.proofs.lemmas.Bool.{cases_eq}
use Rattle.std.specs.Prelude.{All, slice_index_or}
use Rattle.be_pages.specs.declared.room.PageState.{PageState}
use Rattle.be_pages.specs.declared.room.PageState.TheVariants.{Free, Old, GivenUp, Taken, Filled}
use Rattle.be_pages.specs.Pages.{is_kept, is_from_before, after_keep, after_undo, times}
use Rattle.be_tree_reading.specs.Tree.{IsTree}
use Rattle.be_tree_reading.specs.Forest.{pages_of, AreTrees, IsWriteStart, IsUndone}
use Rattle.be_tree_reading.proofs.Frame.{times-cons, times_itself, times_other}
use Rattle.be_tree_reading.proofs.Trees.{tree_kept, tree_undone, trees_in_use}
use Rattle.be_volume.specs.Volume.{State}
use Rattle.be_volume.specs.declared.maps.Index.{Index}
use Rattle.be_paged_reading.specs.Entry.{Entry}
use Rattle.be_paged_reading.specs.Page.{contents_of, IsVersionPage, roots, reach}
use Rattle.be_paged_reading.specs.Catalog.{IsCatalog, IsIndexOf}
use Rattle.be_paged_reading.specs.Version.{AreEntriesOf, Encodes, IsInHand, IsVersion}

both : {a b c d : List ℕ} → a ≡ b → c ≡ d → a ++ c ≡ b ++ d
both p q = cc

module _ (start undone : ℕ → PageState) (v w : ℕ → ℕ → ℕ) (clean : IsWriteStart start) (was : IsUndone start undone v w) where
  pages_stay : (rs : List ℕ) → All (IsTree start v) rs → pages_of w rs ≡ pages_of v rs
  pages_stay [] each = refl
  pages_stay (r ∷ rs) each = both (tree_undone start undone v w r clean was (each 0 0 (omega arith))).same_pages (pages_stay rs (λ i d lt. each (suc i) d (omega (arith, lt))))

  trees_stay : (rs : List ℕ) → AreTrees start v rs → AreTrees undone w rs
  trees_stay rs t = record {
    each = λ i d lt. (tree_undone start undone v w (slice_index_or rs i d) clean was (t.each i d lt)).tree;
    once = λ q. subst (λ ps. times q ps ≤ 1) (sym (pages_stay rs t.each)) (t.once q);
  }

  entries_stay : (es : List Entry) (is : List (List ℕ × Index)) → All (IsTree start v) (map (λ (e : Entry). e.root) es) → AreEntriesOf v es is → AreEntriesOf w es is
  entries_stay [] [] each h = tt
  entries_stay [] (i ∷ is) each h = h
  entries_stay (e ∷ es) [] each h = h
  entries_stay (e ∷ es) (i ∷ is) each h = (
    record { name_is = h.0.name_is; kind_is = h.0.kind_is; keys = subst (λ ps. IsIndexOf ps i.1) (sym (tree_undone start undone v w e.root clean was (each 0 0 (omega arith))).same_pairs) h.0.keys },
    entries_stay es is (λ i d lt. each (suc i) d (omega (arith, lt))) h.1,
  )

  module _ (page : ℕ) (volume : State) (h : IsVersion start v page volume) where
    old : start page ≡ Old
    old = clean page h.in_use

    same_page : w page ≡ v page
    same_page = was.same_words page (ap is_from_before old)

    abbrev Stores : (ℕ → ℕ) → Type 0
    Stores f = IsVersionPage f × (times page (pages_of w (roots (contents_of f))) ≡ 0) × IsInHand undone w (contents_of f) × Encodes w (contents_of f) volume

    stores : Stores (v page)
    stores =
        let c = contents_of (v page) in
        let trees = h.in_hand.trees in (
          h.is_page,
          ap (times page) (pages_stay (roots c) trees.each) ∙ h.apart,
          record { fits = h.in_hand.fits; few = h.in_hand.few; named = h.in_hand.named; trees = trees_stay (roots c) trees },
          record {
            next = h.encodes.next;
            catalog = subst (λ ps. IsCatalog ps volume.nodes) (sym (tree_undone start undone v w c.catalog clean was (trees.each 0 0 (omega arith))).same_pairs) h.encodes.catalog;
            indices = entries_stay c.entries _ (λ i d lt. trees.each (suc i) d (omega (arith, lt))) h.encodes.indices;
          },
        )

    pub version_stays : IsVersion undone w page volume
    version_stays =
        let t = subst Stores (sym same_page) stores in
        record { in_use = subst (λ (s : PageState). IsTrue (is_kept s)) (sym (was.page_state page ∙ ap after_undo old)) refl; is_page = t.0; apart = t.1; in_hand = t.2; encodes = t.3; sound = h.sound }

    -- its pages are the same
    pub reach_stays : pages_of w (roots (contents_of (w page))) ≡ pages_of v (roots (contents_of (v page)))
    reach_stays = ap (λ f. pages_of w (roots (contents_of f))) same_page ∙ pages_stay (roots (contents_of (v page))) h.in_hand.trees.each

stays_kept : (s : PageState) → IsTrue (is_kept s) → IsTrue (is_kept (after_keep s))
stays_kept Free used = used
stays_kept Old used = refl
stays_kept GivenUp used = used
stays_kept Taken used = refl
stays_kept Filled used = refl

-- a version is preserved when its write is kept
pub version_kept : (s t : ℕ → PageState) (words : ℕ → ℕ → ℕ) → ((q : ℕ) → t q ≡ after_keep (s q)) → (page : ℕ) (volume : State) → IsVersion s words page volume → IsVersion t words page volume
version_kept s t words kept page volume h = record {
  in_use = subst (λ (x : PageState). IsTrue (is_kept x)) (sym (kept page)) (stays_kept (s page) h.in_use);
  is_page = h.is_page;
  apart = h.apart;
  in_hand = record {
    fits = h.in_hand.fits;
    few = h.in_hand.few;
    named = h.in_hand.named;
    trees = record { each = λ i d lt. tree_kept s t words words kept refl (slice_index_or (roots (contents_of (words page))) i d) (h.in_hand.trees.each i d lt); once = h.in_hand.trees.once };
  };
  encodes = h.encodes;
  sound = h.sound;
}

-- a version reaches each page at most once
pub reaches_once : (s : ℕ → PageState) (w : ℕ → ℕ → ℕ) (page : ℕ) (volume : State) → IsVersion s w page volume → (q : ℕ) → times q (reach w page) ≤ 1
reaches_once s w page volume h q =
    let ps = pages_of w (roots (contents_of (w page))) in
    elim (cases_eq q page) [
      | inl e ↦ subst (λ p. times p (reach w page) ≤ 1) (sym e) (omega (arith, times-cons page page ps, times-cons page page [], times_itself page, h.apart))
      | inr ne ↦ omega (arith, times-cons q page ps, times-cons q page [], times_other q page ne, h.in_hand.trees.once q)
    ]

-- if no other page is in use, a version reaches only its own page
pub reaches_alone : (s : ℕ → PageState) (w : ℕ → ℕ → ℕ) (page : ℕ) (volume : State) → IsVersion s w page volume → ((q : ℕ) → IsTrue (is_kept (s q)) → q ≡ page) → (q : ℕ) → times q (reach w page) ≡ times q (page ∷ [])
reaches_alone s w page volume h alone q = none (times q ps) refl
  where
    ps : List ℕ
    ps = pages_of w (roots (contents_of (w page)))

    none : (n : ℕ) → times q ps ≡ n → times q (page ∷ ps) ≡ times q (page ∷ [])
    none zero e = omega (arith, e, times-cons q page ps, times-cons q page [])
    none (suc n) e = absurd (let is = alone q (trees_in_use s w (roots (contents_of (w page))) h.in_hand.trees.each q (omega (arith, e))) in
        let gone : times q ps ≡ 0 = ap (λ p. times p ps) is ∙ h.apart in omega (arith, e, gone))
