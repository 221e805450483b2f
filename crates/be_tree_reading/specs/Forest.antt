-- Several trees in the same pages.
use Rattle.std.specs.Prelude.{◌≡◌, ℕ, ◌≤◌, List, ◌∷◌, ◌++◌, All, IsTrue}
use Rattle.std.specs.List.{flat_map}
use Rattle.be_pages.specs.declared.room.PageState.{PageState}
use Rattle.be_pages.specs.declared.room.PageState.TheVariants.{Old}
use Rattle.be_pages.specs.Pages.{is_kept, is_from_before, after_undo, times, Swaps}
use Rattle.be_tree_reading.specs.Tree.{pairs, pages, IsTree}

-- the pages of several trees
abbrev pub pages_of : (words : ℕ → ℕ → ℕ) (roots : List ℕ) → List ℕ
pages_of words roots = flat_map (λ root. pages words root) roots

-- well-formed trees; no page occurs in two of them, or twice in one
pub record AreTrees (page_state : ℕ → PageState) (words : ℕ → ℕ → ℕ) (roots : List ℕ) : Type 0 where
  pub each : All (IsTree page_state words) roots
  pub once : (q : ℕ) → times q (pages_of words roots) ≤ 1

-- the tree is well formed, and has the same pairs and pages as before
pub record KeepsTree (page_state : ℕ → PageState) (before words : ℕ → ℕ → ℕ) (root : ℕ) : Type 0
  where
    pub tree : IsTree page_state words root
    pub same_pairs : pairs words root ≡ pairs before root
    pub same_pages : pages words root ≡ pages before root

-- One of several trees was replaced. The new trees are well formed, the others keep their pairs,
-- and the pages of all the old trees have become those of all the new ones.
pub record Replaces {S K : Type 0} (kept_of : S → K) (page_state_of : S → ℕ → PageState)
    (words_of : S → ℕ → ℕ → ℕ)
    (front back : List ℕ) (root new_root : ℕ) (old new : S) : Type 0 where
  pub trees : AreTrees (page_state_of new) (words_of new) (front ++ new_root ∷ back)
  pub front_pairs : All (λ r. pairs (words_of new) r ≡ pairs (words_of old) r) front
  pub back_pairs : All (λ r. pairs (words_of new) r ≡ pairs (words_of old) r) back
  pub swaps : Swaps kept_of page_state_of words_of (pages_of (words_of old) (front ++ root ∷ back))
      (pages_of (words_of new) (front ++ new_root ∷ back)) old new

-- every page in use was there before the write, as at the beginning of a write
abbrev pub IsWriteStart : (page_state : ℕ → PageState) → Type 0
IsWriteStart page_state = (q : ℕ) → IsTrue (is_kept (page_state q)) → page_state q ≡ Old

-- After the write is undone, each page has the state that it had when the write began. The pages
-- from before the write keep their words.
pub record IsUndone (start undone : ℕ → PageState) (before words : ℕ → ℕ → ℕ) : Type 0 where
  pub page_state : (q : ℕ) → undone q ≡ after_undo (start q)
  pub same_words : (q : ℕ) → IsTrue (is_from_before (start q)) → words q ≡ before q
