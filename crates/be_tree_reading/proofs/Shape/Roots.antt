-- A node written as a tree's root.
use Rattle.std.proofs.Common.{◌≡◌, ℕ, zero, suc, ◌+◌, ◌≤◌, List, [], ◌∷◌, ◌++◌, length, IsTrue, ap, sym, subst, ◌∙◌, inl, inr, arith, cond, ◌==◌, if◌then◌else◌}
use Rattle.be_pages.specs.declared.room.PageState.{PageState}
use Rattle.std.proofs.lemmas.Bool.{cases_eq}
use Rattle.std.proofs.lemmas.Bool.Decides.{nat_tests}
use Rattle.be_pages.specs.Pages.{is_kept, times, after_give_up, SetsStateAt, Swaps}
use Rattle.be_tree_reading.proofs.Putting.Puts.{swaps_given_up, given_up_page}
use Rattle.be_tree_reading.specs.Pair.{Pair}
use Rattle.be_tree_reading.specs.Page.{items_of, level_of}
use Rattle.be_tree_reading.specs.Tree.{child, pairs, pages, pairs_at, pairs_below, pages_at, pages_below, IsNode, IsBelow, IsTreeAt, IsTree, IsWritten, Becomes, BecomesTree, minimum_of_root}
use Rattle.be_tree_reading.proofs.Frame.{times_append, times-cons, times_itself, same_page, swaps_trans, swaps_frame, swaps_with, swaps_after}
use Rattle.be_tree_reading.proofs.Shape.Below.{beside_pairs, beside_pages, beside_below, beside_apart}

module _ {S K : Type 0} (kept_of : S → K) (page_state_of : S → ℕ → PageState) (words_of : S → ℕ → ℕ → ℕ) where
  module _ (level : ℕ) (items : List Pair) (branch : Pair) (source : List ℕ) (old new : S)
      (below : IsBelow level (page_state_of old) (words_of old) items) (enough : minimum_of_root level ≤ length items)
      (written : IsWritten level (words_of new) items branch) (swaps : Swaps kept_of page_state_of words_of source (child branch ∷ []) old new)
      (apart : (q : ℕ) → times q source + times q (pages_below level (words_of old) items) ≤ 1) where
    new_pages : pages_below level (words_of new) (items_of (words_of new (child branch))) ≡ pages_below level (words_of old) items
    new_pages = ap (pages_below level (words_of new)) written.has_items ∙ beside_pages kept_of page_state_of words_of source (child branch ∷ []) old new swaps level items below apart

    new_pairs : pairs_at level (words_of new) (child branch) ≡ pairs_below level (words_of old) items
    new_pairs = ap (pairs_below level (words_of new)) written.has_items ∙ beside_pairs kept_of page_state_of words_of source (child branch ∷ []) old new swaps level items below apart

    framed : Swaps kept_of page_state_of words_of (source ++ pages_below level (words_of old) items) (pages_at level (words_of new) (child branch)) old new
    framed =
        swaps_frame kept_of page_state_of words_of source (child branch ∷ []) (source ++ pages_below level (words_of old) items) (pages_at level (words_of new) (child branch)) (λ q. times q (pages_below level (words_of old) items)) old new swaps
        (λ q. omega (arith, times_append q source (pages_below level (words_of old) items)))
        (λ q. omega (arith, times_append q (child branch ∷ []) (pages_below level (words_of new) (items_of (words_of new (child branch)))), ap (times q) new_pages))
        (λ q. omega (arith, times_append q source (pages_below level (words_of old) items), apart q)) below.in_use

    tree_at : IsTreeAt level (minimum_of_root level) (page_state_of new) (words_of new) (child branch)
    tree_at = record {
      node = record { is_page = written.is_page; at_level = written.at_level; enough = subst (λ xs. minimum_of_root level ≤ length xs) (sym written.has_items) enough };
      below = subst (IsBelow level (page_state_of new) (words_of new)) (sym written.has_items) (beside_below kept_of page_state_of words_of source (child branch ∷ []) old new swaps level items below apart);
      page_once = omega (arith, ap (times (child branch)) new_pages, times_itself (child branch), beside_apart kept_of page_state_of words_of source (child branch ∷ []) old new swaps level items below apart (child branch) (omega (arith, times_itself (child branch))));
      page_in_use = swaps_after kept_of page_state_of words_of source (child branch ∷ []) old new swaps (child branch) (omega (arith, times_itself (child branch)));
    }

    pub root_written : BecomesTree kept_of page_state_of words_of (source ++ pages_below level (words_of old) items) (pairs_below level (words_of old) items) (suc (child branch)) old new
    root_written = record {
      tree = subst (λ n. IsTreeAt n (minimum_of_root n) (page_state_of new) (words_of new) (child branch)) (sym written.at_level) tree_at;
      has_pairs = ap (λ n. pairs_at n (words_of new) (child branch)) written.at_level ∙ new_pairs;
      swaps = subst (λ n. Swaps kept_of page_state_of words_of (source ++ pages_below level (words_of old) items) (pages_at n (words_of new) (child branch)) old new) (sym written.at_level) framed;
    }

  -- two changes in sequence
  pub becomes_tree : (before : List ℕ) (all : List Pair) (level : ℕ) (xs : List Pair) (root : ℕ) (old mid new : S) → Becomes kept_of page_state_of words_of before all level xs old mid
      → BecomesTree kept_of page_state_of words_of (pages_below level (words_of mid) xs) (pairs_below level (words_of mid) xs) root mid new → BecomesTree kept_of page_state_of words_of before all root old new
  becomes_tree before all level xs root old mid new first last = record {
    tree = last.tree;
    has_pairs = last.has_pairs ∙ first.has_pairs;
    swaps = swaps_trans kept_of page_state_of words_of before (pages_below level (words_of mid) xs) (pages (words_of new) root) old mid new first.swaps last.swaps;
  }

  -- the items of a root's page change and are then written in its place
  pub tree_over : (before : List ℕ) (all : List Pair) (level page : ℕ) (xs : List Pair) (root : ℕ) (old mid new : S) → Becomes kept_of page_state_of words_of before all level xs old mid
      → times page before ≡ 0 → ((q : ℕ) → times q before ≤ 1) → IsTrue (is_kept (page_state_of old page))
      → BecomesTree kept_of page_state_of words_of (page ∷ pages_below level (words_of mid) xs) (pairs_below level (words_of mid) xs) root mid new
      → BecomesTree kept_of page_state_of words_of (page ∷ before) all root old new
  tree_over before all level page xs root old mid new first none once used last = record {
    tree = last.tree;
    has_pairs = last.has_pairs ∙ first.has_pairs;
    swaps = swaps_trans kept_of page_state_of words_of (page ∷ before) (page ∷ pages_below level (words_of mid) xs) (pages (words_of new) root) old mid new
        (swaps_with kept_of page_state_of words_of page before (pages_below level (words_of mid) xs) old mid first.swaps none once used) last.swaps;
  }

-- a tree's root page
pub root_tree : (root page level : ℕ) (page_state : ℕ → PageState) (words : ℕ → ℕ → ℕ) → root ≡ suc page → level ≡ level_of (words page) → IsTree page_state words root → IsTreeAt level (minimum_of_root level) page_state words page
root_tree root page level page_state words e at tree =
    subst (λ n. IsTreeAt n (minimum_of_root n) page_state words page) (sym at) (subst (IsTree page_state words) e tree)

pub root_some : (level : ℕ) → 1 ≤ minimum_of_root level
root_some zero = omega arith
root_some (suc level) = omega arith

module _ {S K : Type 0} (kept_of : S → K) (page_state_of : S → ℕ → PageState) (words_of : S → ℕ → ℕ → ℕ) where
  -- a tree remains well formed when a page that isn't its own is given up
  below_given_up : (level : ℕ) (items : List Pair) (page : ℕ) (mid new : S) → IsBelow level (page_state_of mid) (words_of mid) items → times page (pages_below level (words_of mid) items) ≡ 0
      → words_of new ≡ words_of mid → ((q : ℕ) → (q ≡ page → ⊥) → page_state_of new q ≡ page_state_of mid q) → IsBelow level (page_state_of new) (words_of new) items
  below_given_up level items page mid new below none words others =
      subst (λ w. IsBelow level (page_state_of new) w items) (sym words) (record {
        keys_fit = below.keys_fit;
        shaped = below.shaped;
        rising = below.rising;
        once = below.once;
        in_use = λ q some. elim (cases_eq q page) [
          | inl e ↦ absurd (omega (arith, some, ap (λ p. times p (pages_below level (words_of mid) items)) e, none))
          | inr ne ↦ subst (λ s. IsTrue (is_kept s)) (sym (others q ne)) (below.in_use q some)
        ];
      })

  tree_at_given_up : (level least top : ℕ) (page : ℕ) (mid new : S) → IsTreeAt level least (page_state_of mid) (words_of mid) top → times page (pages_at level (words_of mid) top) ≡ 0
      → words_of new ≡ words_of mid → ((q : ℕ) → (q ≡ page → ⊥) → page_state_of new q ≡ page_state_of mid q) → IsTreeAt level least (page_state_of new) (words_of new) top
  tree_at_given_up level least top page mid new tree none words others =
      let below = below_given_up level (items_of (words_of mid top)) page mid new tree.below (omega (arith, none, times-cons page top (pages_below level (words_of mid) (items_of (words_of mid top))))) words others in
      let not_top : top ≡ page → ⊥ = λ e. absurd (omega (arith, none, times-cons page top (pages_below level (words_of mid) (items_of (words_of mid top))), ap (λ p. cond {A = ℕ} (p == page) 1 0) e, same_page page)) in
      record {
        node = subst (λ w. IsNode level least (w top)) (sym words) tree.node;
        below = subst (λ w. IsBelow level (page_state_of new) (words_of new) (items_of (w top))) (sym words) below;
        page_once = subst (λ w. times top (pages_below level w (items_of (w top))) ≡ 0) (sym words) tree.page_once;
        page_in_use = subst (λ s. IsTrue (is_kept s)) (sym (others top not_top)) tree.page_in_use;
      }

  is_tree_given_up : (root page : ℕ) (mid new : S) → IsTree (page_state_of mid) (words_of mid) root → times page (pages (words_of mid) root) ≡ 0
      → words_of new ≡ words_of mid → ((q : ℕ) → (q ≡ page → ⊥) → page_state_of new q ≡ page_state_of mid q) → IsTree (page_state_of new) (words_of new) root
  is_tree_given_up zero page mid new tree none words others = tt
  is_tree_given_up (suc top) page mid new tree none words others =
      subst (λ w. IsTreeAt (level_of (w top)) (minimum_of_root (level_of (w top))) (page_state_of new) (words_of new) top) (sym words)
      (tree_at_given_up (level_of (words_of mid top)) (minimum_of_root (level_of (words_of mid top))) top page mid new tree none words others)

  pub tree_given_up : (before : List ℕ) (all : List Pair) (root page : ℕ) (old mid new : S) → BecomesTree kept_of page_state_of words_of before all root old mid
      → times page before ≡ 0 → IsTrue (is_kept (page_state_of old page))
      → kept_of new ≡ kept_of mid → words_of new ≡ words_of mid → SetsStateAt (page_state_of mid) (page_state_of new) page (after_give_up (page_state_of mid page))
      → BecomesTree kept_of page_state_of words_of (page ∷ before) all root old new
  tree_given_up before all root page old mid new becomes none used kept words states =
      let others = λ (q : ℕ) (ne : q ≡ page → ⊥). states q ∙ other q ne _ _ in
      let gone = states page ∙ here _ _ in
      record {
        tree = is_tree_given_up root page mid new becomes.tree (given_up_page kept_of page_state_of words_of before (pages (words_of mid) root) page old mid becomes.swaps none used) words others;
        has_pairs = ap (λ w. pairs w root) words ∙ becomes.has_pairs;
        swaps = subst (λ w. Swaps kept_of page_state_of words_of (page ∷ before) (pages w root) old new) (sym words)
            (swaps_given_up kept_of page_state_of words_of before (pages (words_of mid) root) page old mid new becomes.swaps none used kept words gone others);
      }
    where
      other : (q : ℕ) → (q ≡ page → ⊥) → (t u : PageState) → (if q == page then t else u) ≡ u
      other q ne t u = grind (arith, nat_tests)

      here : (t u : PageState) → (if page == page then t else u) ≡ t
      here t u = grind (arith, nat_tests)

pub same_pair : (pair : Pair) (k p : List ℕ) → pair.key ≡ k → pair.payload ≡ p → pair ≡ record { key = k; payload = p }
same_pair pair k p ek ep =
    let with_key : List ℕ → Pair = λ x. record { key = x; payload = pair.payload } in
    let with_payload : List ℕ → Pair = λ x. record { key = k; payload = x } in
    ap with_key ek ∙ ap with_payload ep
