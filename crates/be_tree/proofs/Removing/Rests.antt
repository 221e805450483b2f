-- What is left of a tree: nothing, one branch, or the same tree.
use Rattle.std.proofs.Common.{◌≡◌, ℕ, zero, suc, ◌-◌, ◌<◌, List, [], ◌∷◌, length, get_or, map, IsTrue, if◌then◌else◌, ap, sym, subst, ◌∙◌, refl, arith}
use Rattle.std.specs.Prelude.{Some, None}
use Rattle.std.specs.Ordering.{is_eq}
use Rattle.std.specs.declared.cmp.Ordering.TheVariants.{Less, Equal, Greater}
use Rattle.std.proofs.lemmas.List.{append-nil, nil_from_length}
use Rattle.be_pages.specs.declared.room.PageState.{PageState}
use Rattle.be_pages.specs.Pages.{is_kept, times, PageStep, untouched, Swaps, IsUnchanged}
use Rattle.be_tree_reading.specs.Pair.{Pair}
use Rattle.be_tree_reading.specs.Key.{key_cmp, payload_at, without}
use Rattle.be_tree_reading.specs.Tree.{child, pairs, pages, pairs_at, pairs_below, pages_at, pages_below, IsBelow, IsTree, IsTreeAt, BecomesTree, minimum_of_root}
use Rattle.be_tree_reading.proofs.Frame.{swaps_frame}
use Rattle.be_tree_reading.proofs.TreeFacts.{branch_tree}
use Rattle.be_tree.proofs.Shape.Parts.{becomes_same}
use Rattle.be_tree.proofs.Removing.Removes.{tree_minimum}
use Rattle.be_tree_reading.proofs.Trees.{root_in_use, root_once}

some_none : {A : Type 0} (x : A) → Some x ≡ None → ⊥
some_none x e = cc

-- removing a key that a list doesn't have
pub without_absent : (k : List ℕ) (xs : List Pair) → payload_at xs k ≡ None → without k xs ≡ xs
without_absent k [] none = refl
without_absent k (x ∷ xs) none =
    elim (key_cmp x.key k) as (λ r. (if is_eq r then Some x.payload else payload_at xs k) ≡ None → (if is_eq r then without k xs else x ∷ without k xs) ≡ x ∷ xs) [
      | Less ↦ λ e. ap (λ ys. x ∷ ys) (without_absent k xs e)
      | Equal ↦ λ e. absurd (some_none x.payload e)
      | Greater ↦ λ e. ap (λ ys. x ∷ ys) (without_absent k xs e)
    ] none

module _ {S K : Type 0} (kept_of : S → K) (page_state_of : S → ℕ → PageState) (words_of : S → ℕ → ℕ → ℕ) where
  -- the same tree
  pub tree_same : (root : ℕ) (room : S) → IsTree (page_state_of room) (words_of room) root → BecomesTree kept_of page_state_of words_of (pages (words_of room) root) (pairs (words_of room) root) root room room
  tree_same root room tree = record {
    tree = tree;
    has_pairs = refl;
    swaps = swaps_frame kept_of page_state_of words_of [] [] (pages (words_of room) root) (pages (words_of room) root) (λ q. times q (pages (words_of room) root)) room room
        (record { kept = refl; each = λ q. untouched refl }) (λ q. omega arith) (λ q. omega arith) (root_once (page_state_of room) (words_of room) root tree) (root_in_use (page_state_of room) (words_of room) root tree);
  }

  -- a tree, after pages were only read
  pub tree_until : (before : List ℕ) (all : List Pair) (root : ℕ) (old new read : S) → IsUnchanged kept_of page_state_of words_of new read
      → BecomesTree kept_of page_state_of words_of before all root old new → BecomesTree kept_of page_state_of words_of before all root old read
  tree_until before all root old new read same becomes = record {
    tree = subst (λ s. IsTree s (words_of read) root) (sym same.page_state) (subst (λ w. IsTree (page_state_of new) w root) (sym same.words) becomes.tree);
    has_pairs = ap (λ w. pairs w root) same.words ∙ becomes.has_pairs;
    swaps = record {
      kept = same.kept ∙ becomes.swaps.kept;
      each = λ q. subst (λ s. PageStep (words_of read q ≡ words_of old q) (times q before) (times q (pages (words_of read) root)) (page_state_of old q) (s q)) (sym same.page_state)
          (subst (λ w. PageStep (w q ≡ words_of old q) (times q before) (times q (pages w root)) (page_state_of old q) (page_state_of new q)) (sym same.words) (becomes.swaps.each q));
    };
  }

  -- nothing is left
  none_left : (level : ℕ) (room : S) → BecomesTree kept_of page_state_of words_of (pages_below level (words_of room) []) (pairs_below level (words_of room) []) 0 room room
  none_left zero room = record { tree = tt; has_pairs = refl; swaps = record { kept = refl; each = λ q. untouched refl } }
  none_left (suc level) room = record { tree = tt; has_pairs = refl; swaps = record { kept = refl; each = λ q. untouched refl } }

  pub tree_none : (level : ℕ) (items : List Pair) (room : S) → length items ≡ 0 → BecomesTree kept_of page_state_of words_of (pages_below level (words_of room) items) (pairs_below level (words_of room) items) 0 room room
  tree_none level items room none =
      subst (λ xs. BecomesTree kept_of page_state_of words_of (pages_below level (words_of room) xs) (pairs_below level (words_of room) xs) 0 room room) (sym (nil_from_length items none)) (none_left level room)

  -- one branch is left
  one_left : (below : ℕ) (branch : Pair) (room : S) → IsBelow (suc below) (page_state_of room) (words_of room) (branch ∷ [])
      → BecomesTree kept_of page_state_of words_of (pages_below (suc below) (words_of room) (branch ∷ [])) (pairs_below (suc below) (words_of room) (branch ∷ [])) (suc (child branch)) room room
  one_left below branch room h =
      let tree = branch_tree below (page_state_of room) (words_of room) (branch ∷ []) h 0 branch (omega arith) in
      let root = child branch in
      let same = becomes_same kept_of page_state_of words_of (suc below) (branch ∷ []) room h in
      let whole = subst (λ ps. Swaps kept_of page_state_of words_of (pages_below (suc below) (words_of room) (branch ∷ [])) ps room room) (append-nil (pages_at below (words_of room) root)) same.swaps in
      record {
        tree = subst (λ (n : ℕ). IsTreeAt n (minimum_of_root n) (page_state_of room) (words_of room) root) (sym tree.node.at_level) (tree_minimum below (page_state_of room) (words_of room) root tree);
        has_pairs = ap (λ (n : ℕ). pairs_at n (words_of room) root) tree.node.at_level ∙ sym (append-nil (pairs_at below (words_of room) root));
        swaps = subst (λ (n : ℕ). Swaps kept_of page_state_of words_of (pages_below (suc below) (words_of room) (branch ∷ [])) (pages_at n (words_of room) root) room room) (sym tree.node.at_level) whole;
      }

  pub tree_one : (level : ℕ) (items : List Pair) (branch : Pair) (room : S) → 0 < level → items ≡ branch ∷ [] → IsBelow level (page_state_of room) (words_of room) items
      → BecomesTree kept_of page_state_of words_of (pages_below level (words_of room) items) (pairs_below level (words_of room) items) (suc (child branch)) room room
  tree_one level items branch room inner one below =
      let e : level ≡ suc (level - 1) = omega (arith, inner) in
      subst (λ xs. BecomesTree kept_of page_state_of words_of (pages_below level (words_of room) xs) (pairs_below level (words_of room) xs) (suc (child branch)) room room) (sym one)
      (subst (λ (n : ℕ). BecomesTree kept_of page_state_of words_of (pages_below n (words_of room) (branch ∷ [])) (pairs_below n (words_of room) (branch ∷ [])) (suc (child branch)) room room) (sym e)
      (one_left (level - 1) branch room (subst (λ (n : ℕ). IsBelow n (page_state_of room) (words_of room) (branch ∷ [])) e (subst (IsBelow level (page_state_of room) (words_of room)) one below))))

-- a list with one element
pub one_mapped : {A B : Type 0} (f : A → B) (xs : List A) (d : A) → length xs ≡ 1 → map f xs ≡ f (get_or xs 0 d) ∷ []
one_mapped f [] d len = absurd (omega (arith, len))
one_mapped f (y ∷ []) d len = refl
one_mapped f (y ∷ z ∷ zs) d len = absurd (omega (arith, len))

-- the page of the only branch left is in use
pub one_used : (level : ℕ) (page_state : ℕ → PageState) (words : ℕ → ℕ → ℕ) (items : List Pair) (branch : Pair) → 0 < level → items ≡ branch ∷ [] → IsBelow level page_state words items → IsTrue (is_kept (page_state (child branch)))
one_used level page_state words items branch inner one below =
    let e : level ≡ suc (level - 1) = omega (arith, inner) in
    let alone = subst (λ (n : ℕ). IsBelow n page_state words (branch ∷ [])) e (subst (IsBelow level page_state words) one below) in
    (branch_tree (level - 1) page_state words (branch ∷ []) alone 0 branch (omega arith)).page_in_use
