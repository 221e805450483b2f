-- The version page, which is written last.
use Rattle.std.proofs.Common.{◌≡◌, ◌≢◌, ℕ, zero, suc, ◌<◌, ◌≤◌, ◌^◌, List, [], ◌∷◌, ◌++◌, All, IsTrue, cond, ◌==◌, get_or, length, ap, sym, subst, ◌∙◌, refl, arith, inl, inr, append-nil}
use Rattle.std.proofs.lemmas.Bool.{cases_eq}
use mathlib.Core.Bool.{false≢true}
use Rattle.std.specs.FinMap as fin
use Rattle.be_pages.specs.declared.room.PageState.{PageState}
use Rattle.be_pages.specs.declared.room.PageState.TheVariants.{Filled, Taken}
use Rattle.be_pages.specs.Pages.{SetsStateAt, is_kept, is_taken, times}
use Rattle.be_paged_building.specs.Building.{pages_held}
use Rattle.be_paged_building.specs.Given.{with_next}
use Rattle.be_paged_building.specs.declared.building.VolumeBuilder.{VolumeBuilder}
use Rattle.be_paged_building.proofs.Collected.{entries_same, none_left}
use Rattle.be_paged_building.proofs.Finishing.{IsFinishing, roots_of}
use Rattle.be_paged_building.proofs.Volumes.{next_sound}
use Rattle.be_paged_reading.specs.Catalog.{IsCatalog}
use Rattle.be_paged_reading.specs.Entry.{Entry}
use Rattle.be_paged_reading.specs.Page.{Contents, IsVersionPage, contents_of, reach, roots}
use Rattle.be_paged_reading.specs.Version.{AreEntriesOf, Encodes, IsInHand, IsVersion}
use Rattle.be_paged_reading.proofs.IndexEntries.Indexing.{entries_len}
use Rattle.be_tree.specs.Counting.{HasInHand}
use Rattle.be_tree.proofs.Nodes.PageStates.{changed_state, other_states}
use Rattle.be_tree_reading.specs.Forest.{AreTrees, KeepsTree, pages_of}
use Rattle.be_tree_reading.specs.Tree.{IsTree, pages}
use Rattle.be_tree_reading.proofs.Frame.{same_page, times-cons}
use Rattle.be_tree_reading.proofs.Trees.{root_in_use, root_pages_same, root_pairs_same, tree_same, trees_in_use}
use Rattle.be_volume.specs.Sound.{IsName, IsSound}
use Rattle.be_volume.specs.Volume.{State}

not_kept : (s : PageState) → s ≡ Taken → IsTrue (is_kept s) → ⊥
not_kept s e kept = false≢true (sym (ap is_kept e) ∙ kept)

both : {a b c d : List ℕ} → a ≡ b → c ≡ d → a ++ c ≡ b ++ d
both p q = cc

-- the trees stay while the version page is written
module _ (s t : ℕ → PageState) (v w : ℕ → ℕ → ℕ) (page : ℕ) (taken : s page ≡ Taken) (states : SetsStateAt s t page Filled) (others : (q : ℕ) → q ≢ page → w q ≡ v q) where
  elsewhere : (root : ℕ) → IsTree s v root → (q : ℕ) → 0 < times q (pages v root) → q ≢ page
  elsewhere root tree q lt e = not_kept (s page) taken (subst (λ p. IsTrue (is_kept (s p))) e (root_in_use s v root tree q lt))

  keeps : (root : ℕ) → IsTree s v root → KeepsTree t v w root
  keeps root tree = record {
    tree = tree_same s t v w root tree (λ q lt. others q (elsewhere root tree q lt)) (λ q lt. other_states s t page Filled states q (elsewhere root tree q lt));
    same_pairs = root_pairs_same s t v w root (λ q lt. others q (elsewhere root tree q lt));
    same_pages = root_pages_same s t v w root (λ q lt. others q (elsewhere root tree q lt));
  }

  keeps_pages : (rs : List ℕ) → All (IsTree s v) rs → pages_of w rs ≡ pages_of v rs
  keeps_pages [] each = refl
  keeps_pages (r ∷ rs) each = both (keeps r (each zero r (omega arith))).same_pages (keeps_pages rs (λ i d lt. each (suc i) d (omega (arith, lt))))

  keeps_trees : (rs : List ℕ) → AreTrees s v rs → AreTrees t w rs
  keeps_trees rs trees = record {
    each = λ i d lt. (keeps (get_or rs i d) (trees.each i d lt)).tree;
    once = λ q. subst (λ ps. times q ps ≤ 1) (sym (keeps_pages rs trees.each)) (trees.once q);
  }

  absent : (rs : List ℕ) → AreTrees s v rs → times page (pages_of w rs) ≡ 0
  absent rs trees = ap (times page) (keeps_pages rs trees.each) ∙ by (times page (pages_of v rs)) refl
    where
      by : (n : ℕ) → times page (pages_of v rs) ≡ n → times page (pages_of v rs) ≡ 0
      by zero e = e
      by (suc n) e = absurd (not_kept (s page) taken (trees_in_use s v rs trees.each page (omega (arith, e))))

  still_held : (ps : List ℕ) → HasInHand s (page ∷ ps) → HasInHand t (page ∷ ps)
  still_held ps has q now = elim (cases_eq q page) [
    | inl e ↦ omega (arith, times-cons q page ps, ap (λ n. cond {A = ℕ} (page == n) 1 0) e, same_page page)
    | inr ne ↦ has q (subst (λ x. IsTrue (is_taken x)) (other_states s t page Filled states q ne) now)
  ]

module _ {S K : Type 0} (kept_of : S → K) (page_state_of : S → ℕ → PageState) (words_of : S → ℕ → ℕ → ℕ) (builder : VolumeBuilder) (volume : State) (root : ℕ) (entries : List Entry) (at : ℕ) (start mid new : S)
    (f : IsFinishing kept_of page_state_of words_of builder volume root entries at [] start mid) (next : ℕ) (sound : IsSound volume)
    (contents : contents_of (words_of new builder.page) ≡ record { next = next; catalog = root; entries = entries })
    (states : SetsStateAt (page_state_of mid) (page_state_of new) builder.page Filled) (others : (q : ℕ) → q ≢ builder.page → words_of new q ≡ words_of mid q) where
  abbrev s : ℕ → PageState
  s = page_state_of mid

  abbrev t : ℕ → PageState
  t = page_state_of new

  abbrev v : ℕ → ℕ → ℕ
  v = words_of mid

  abbrev w : ℕ → ℕ → ℕ
  w = words_of new

  abbrev rs : List ℕ
  rs = root ∷ roots_of f.done

  all_done : entries ≡ f.done
  all_done = f.entries_are ∙ ap (λ xs. f.done ++ xs) (none_left f.rest f.back f.collected).0 ∙ append-nil f.done

  all_indices : fin.entries volume.indices ≡ f.front
  all_indices = f.indices_are ∙ ap (λ xs. f.front ++ xs) (none_left f.rest f.back f.collected).1 ∙ append-nil f.front

  abbrev given : List Entry → Contents
  given es = record { next = next; catalog = root; entries = es }

  abbrev c : Contents
  c = record { next = next; catalog = root; entries = f.done }

  is_c : c ≡ contents_of (words_of new builder.page)
  is_c = sym (contents ∙ ap given all_done)

  count : length f.done ≤ 32
  count = omega (arith, entries_len v f.done f.front f.encoded, ap length all_indices, fin.len-entries volume.indices, sound.few_indices)

  pub stored : volume.next ≤ next → next < 2 ^ 64 → IsVersionPage (words_of new builder.page) → IsVersion (page_state_of new) (words_of new) builder.page (with_next volume next)
  stored le fits is_page = record {
    in_use = subst (λ x. IsTrue (is_kept x)) (sym (changed_state s t builder.page Filled states)) refl;
    is_page = is_page;
    apart = subst (λ x. times builder.page (pages_of w (roots x)) ≡ 0) is_c (absent s t v w builder.page f.page states others rs f.trees);
    in_hand = subst (IsInHand t w) is_c (record { fits = fits; few = count; named = subst (All (λ e. IsName e.name)) all_done f.named; trees = keeps_trees s t v w builder.page f.page states others rs f.trees });
    encodes = subst (λ x. Encodes w x (with_next volume next)) is_c (record {
      next = refl;
      catalog = subst (λ xs. IsCatalog xs volume.nodes) (sym (keeps s t v w builder.page f.page states others root (f.trees.each zero root (omega arith))).same_pairs) f.catalog;
      indices = subst (AreEntriesOf w f.done) (sym all_indices) (entries_same v w f.done f.front f.encoded
          (λ i d lt. (keeps s t v w builder.page f.page states others (get_or (roots_of f.done) i d) (f.trees.each (suc i) d (omega (arith, lt)))).same_pairs));
    });
    sound = next_sound volume next sound le;
  }

  pub stored_hand : HasInHand (page_state_of start) (pages_held (words_of start) builder) → HasInHand (page_state_of new) (reach (words_of new) builder.page)
  stored_hand has = subst (λ x. HasInHand t (builder.page ∷ pages_of w (roots x))) is_c
      (subst (λ ps. HasInHand t (builder.page ∷ ps)) (sym (keeps_pages s t v w builder.page f.page states others rs f.trees.each))
      (still_held s t v w builder.page f.page states others (pages_of v rs) (f.hand has)))
