-- Several trees in the same pages, one of which changes.
use Rattle.std.proofs.Common.{◌≡◌, ℕ, zero, suc, ◌+◌, ◌<◌, ◌≤◌, List, [], ◌∷◌, ◌++◌, length, get_or, All, IsTrue, ap, sym, subst, ◌∙◌, refl, inl, inr, arith}
use mathlib.Core.Bool.{false≢true}
use Rattle.std.proofs.lemmas.Bool.{cases_eq}
use Rattle.std.proofs.lemmas.List.Concat.{flat_map-append}
use Rattle.std.proofs.lemmas.List.Elements.{All-append}
use Rattle.be_pages.specs.declared.room.PageState.{PageState}
use Rattle.be_pages.specs.declared.room.PageState.TheVariants.{Free, Old, GivenUp, Taken, Filled}
use Rattle.be_pages.specs.Pages.{is_readable, is_kept, is_from_before, after_undo, after_keep, times, Swaps}
use Rattle.be_tree_reading.specs.Pair.{Pair}
use Rattle.be_tree_reading.specs.Key.{IsRising}
use Rattle.be_tree_reading.specs.Page.{items_of, level_of}
use Rattle.be_tree_reading.specs.Tree.{pairs, pages, pairs_below, pages_below, IsNode, IsBelow, IsTreeAt, IsTree, minimum_of_root}
use Rattle.be_tree_reading.proofs.Shape.Below.{pairs_same, pages_same, shaped_same, all_left, all_right}
use Rattle.be_tree_reading.proofs.Frame.{times_append, times-cons, times_tail, times_other, same_page, swaps_frame, swaps_same, swaps_stays, swaps_fresh, readable_kept}
use Rattle.be_tree_reading.proofs.Shape.Levels.{tree_in_use}
use Rattle.be_tree_reading.specs.Forest.{pages_of, AreTrees, KeepsTree, Replaces, IsWriteStart, IsUndone}

-- a tree's pages are in use, and each occurs only once
pub root_in_use : (s : ℕ → PageState) (v : ℕ → ℕ → ℕ) (root : ℕ) → IsTree s v root → (q : ℕ) → 0 < times q (pages v root) → IsTrue (is_kept (s q))
root_in_use s v zero tree q some = absurd (omega (arith, some))
root_in_use s v (suc page) tree q some = tree_in_use (level_of (v page)) (minimum_of_root (level_of (v page))) s v page tree q some

pub root_once : (s : ℕ → PageState) (v : ℕ → ℕ → ℕ) (root : ℕ) → IsTree s v root → (q : ℕ) → times q (pages v root) ≤ 1
root_once s v zero tree q = omega arith
root_once s v (suc page) tree q = elim (cases_eq q page) [
  | inl e ↦ subst (λ p. times p (pages v (suc page)) ≤ 1) (sym e) (omega (arith, times-cons page page (pages_below (level_of (v page)) v (items_of (v page))), same_page page, tree.page_once))
  | inr ne ↦ omega (arith, times-cons q page (pages_below (level_of (v page)) v (items_of (v page))), times-cons q page [], times_other q page ne, tree.below.once q)
]

-- a tree's pairs ascend by key
pub tree_rising : (s : ℕ → PageState) (v : ℕ → ℕ → ℕ) (root : ℕ) → IsTree s v root → IsRising (pairs v root)
tree_rising s v zero tree = tt
tree_rising s v (suc page) tree = tree.below.rising

-- a tree whose pages keep their words and states remains well formed
module _ (s t : ℕ → PageState) (v w : ℕ → ℕ → ℕ) where
  below_same : (level : ℕ) (items : List Pair) → IsBelow level s v items → ((q : ℕ) → 0 < times q (pages_below level v items) → w q ≡ v q)
      → ((q : ℕ) → 0 < times q (pages_below level v items) → t q ≡ s q) → IsBelow level t w items
  below_same level items below words states =
      let pages = pages_same level v w items words in
      record {
        keys_fit = below.keys_fit;
        shaped = shaped_same level v w items words below.shaped;
        rising = subst IsRising (sym (pairs_same level v w items words)) below.rising;
        once = λ q. omega (arith, ap (times q) pages, below.once q);
        in_use = λ q some. subst (λ u. IsTrue (is_kept u)) (sym (states q (omega (arith, ap (times q) pages, some)))) (below.in_use q (omega (arith, ap (times q) pages, some)));
      }

  here : (page : ℕ) (ps : List ℕ) → 0 < times page (page ∷ ps)
  here page ps = omega (arith, times-cons page page ps, same_page page)

  pub tree_same : (root : ℕ) → IsTree s v root → ((q : ℕ) → 0 < times q (pages v root) → w q ≡ v q) → ((q : ℕ) → 0 < times q (pages v root) → t q ≡ s q) → IsTree t w root
  tree_same zero tree words states = tt
  tree_same (suc page) tree words states =
      let level = level_of (v page) in
      let items = items_of (v page) in
      let same = words page (here page (pages_below level v items)) in
      let deeper = λ (q : ℕ) (some : 0 < times q (pages_below level v items)). words q (omega (arith, some, times_tail q page (pages_below level v items))) in
      let deeper_states = λ (q : ℕ) (some : 0 < times q (pages_below level v items)). states q (omega (arith, some, times_tail q page (pages_below level v items))) in
      subst (λ n. IsTreeAt n (minimum_of_root n) t w page) (sym (ap level_of same)) (record {
        node = subst (IsNode level (minimum_of_root level)) (sym same) tree.node;
        below = subst (λ p. IsBelow level t w (items_of p)) (sym same) (below_same level items tree.below deeper deeper_states);
        page_once = ap (λ p. times page (pages_below level w (items_of p))) same ∙ ap (times page) (pages_same level v w items deeper) ∙ tree.page_once;
        page_in_use = subst (λ u. IsTrue (is_kept u)) (sym (states page (here page (pages_below level v items)))) tree.page_in_use;
      })

  pub root_pairs_same : (root : ℕ) → ((q : ℕ) → 0 < times q (pages v root) → w q ≡ v q) → pairs w root ≡ pairs v root
  root_pairs_same zero words = refl
  root_pairs_same (suc page) words =
      let level = level_of (v page) in
      let items = items_of (v page) in
      ap (λ p. pairs_below (level_of p) w (items_of p)) (words page (here page (pages_below level v items)))
      ∙ pairs_same level v w items (λ q some. words q (omega (arith, some, times_tail q page (pages_below level v items))))

  pub root_pages_same : (root : ℕ) → ((q : ℕ) → 0 < times q (pages v root) → w q ≡ v q) → pages w root ≡ pages v root
  root_pages_same zero words = refl
  root_pages_same (suc page) words =
      let level = level_of (v page) in
      let items = items_of (v page) in
      ap (λ p. page ∷ pages_below (level_of p) w (items_of p)) (words page (here page (pages_below level v items)))
      ∙ ap (λ ps. page ∷ ps) (pages_same level v w items (λ q some. words q (omega (arith, some, times_tail q page (pages_below level v items)))))

-- the pages of several trees
pub times_of : (v : ℕ → ℕ → ℕ) (xs ys : List ℕ) (q : ℕ) → times q (pages_of v (xs ++ ys)) ≡ times q (pages_of v xs) + times q (pages_of v ys)
times_of v xs ys q = ap (times q) (flat_map-append (λ r. pages v r) xs ys) ∙ times_append q (pages_of v xs) (pages_of v ys)

pub times_first : (v : ℕ → ℕ → ℕ) (r : ℕ) (rs : List ℕ) (q : ℕ) → times q (pages_of v (r ∷ rs)) ≡ times q (pages v r) + times q (pages_of v rs)
times_first v r rs q = times_append q (pages v r) (pages_of v rs)

times_part : (v : ℕ → ℕ → ℕ) (q : ℕ) (rs : List ℕ) (i d : ℕ) → i < length rs → times q (pages v (get_or rs i d)) ≤ times q (pages_of v rs)
times_part v q [] i d lt = absurd (omega (arith, lt))
times_part v q (r ∷ rs) zero d lt = omega (arith, times_first v r rs q)
times_part v q (r ∷ rs) (suc i) d lt = omega (arith, times_first v r rs q, times_part v q rs i d (omega (arith, lt)))

-- a page of several trees is a page of one of them
pub trees_in_use : (s : ℕ → PageState) (v : ℕ → ℕ → ℕ) (rs : List ℕ) → All (IsTree s v) rs → (q : ℕ) → 0 < times q (pages_of v rs) → IsTrue (is_kept (s q))
trees_in_use s v [] each q some = absurd (omega (arith, some))
trees_in_use s v (r ∷ rs) each q some = by (times q (pages v r)) (trees_in_use s v rs (λ i d lt. each (suc i) d (omega (arith, lt))) q) refl
  where
    by : (n : ℕ) → (0 < times q (pages_of v rs) → IsTrue (is_kept (s q))) → times q (pages v r) ≡ n → IsTrue (is_kept (s q))
    by zero rest e = rest (omega (arith, some, e, times_first v r rs q))
    by (suc n) rest e = root_in_use s v r (each zero zero (omega arith)) q (omega (arith, e))

all_pages : (v w : ℕ → ℕ → ℕ) (xs : List ℕ) → All (λ r. pages w r ≡ pages v r) xs → pages_of w xs ≡ pages_of v xs
all_pages v w [] h = refl
all_pages v w (x ∷ xs) h = ap2 (h zero zero (omega arith)) (all_pages v w xs (λ i d lt. h (suc i) d (omega (arith, lt))))
  where
    ap2 : {x y : List ℕ} {xs ys : List ℕ} → x ≡ y → xs ≡ ys → x ++ xs ≡ y ++ ys
    ap2 p q = cc

-- trees whose pages aren't among those that change
pub record AreBeside (s t : ℕ → PageState) (v w : ℕ → ℕ → ℕ) (rs : List ℕ) : Type 0 where
  pub trees : All (IsTree t w) rs
  pub same_pairs : All (λ r. pairs w r ≡ pairs v r) rs
  pub same_pages : pages_of w rs ≡ pages_of v rs

module _ {S K : Type 0} (kept_of : S → K) (page_state_of : S → ℕ → PageState) (words_of : S → ℕ → ℕ → ℕ) (old new : S) where
  pub trees_beside : (b a : List ℕ) → Swaps kept_of page_state_of words_of b a old new → (rs : List ℕ) → All (IsTree (page_state_of old) (words_of old)) rs
      → ((q : ℕ) → 0 < times q (pages_of (words_of old) rs) → times q b ≡ 0) → AreBeside (page_state_of old) (page_state_of new) (words_of old) (words_of new) rs
  trees_beside b a swaps rs each apart = record {
    trees = λ i d lt. tree_same (page_state_of old) (page_state_of new) (words_of old) (words_of new) (get_or rs i d) (each i d lt) (λ q some. same q (more i d lt q some)) (λ q some. states q (more i d lt q some));
    same_pairs = λ i d lt. root_pairs_same (page_state_of old) (page_state_of new) (words_of old) (words_of new) (get_or rs i d) (λ q some. same q (more i d lt q some));
    same_pages = all_pages (words_of old) (words_of new) rs (λ i d lt. root_pages_same (page_state_of old) (page_state_of new) (words_of old) (words_of new) (get_or rs i d) (λ q some. same q (more i d lt q some)));
  }
    where
      more : (i d : ℕ) → i < length rs → (q : ℕ) → 0 < times q (pages (words_of old) (get_or rs i d)) → 0 < times q (pages_of (words_of old) rs)
      more i d lt q some = omega (arith, some, times_part (words_of old) q rs i d lt)

      same : (q : ℕ) → 0 < times q (pages_of (words_of old) rs) → words_of new q ≡ words_of old q
      same q some = swaps_same kept_of page_state_of words_of b a old new swaps q (apart q some) (readable_kept (page_state_of old q) (trees_in_use (page_state_of old) (words_of old) rs each q some))

      states : (q : ℕ) → 0 < times q (pages_of (words_of old) rs) → page_state_of new q ≡ page_state_of old q
      states q some = swaps_stays kept_of page_state_of words_of b a old new swaps q (apart q some) (readable_kept (page_state_of old q) (trees_in_use (page_state_of old) (words_of old) rs each q some))

pub all_cons : {A : Type 0} (P : A → Type 0) (x : A) (xs : List A) → P x → All P xs → All P (x ∷ xs)
all_cons P x xs p ps zero d lt = p
all_cons P x xs p ps (suc i) d lt = ps i d (omega (arith, lt))

module _ {S K : Type 0} (kept_of : S → K) (page_state_of : S → ℕ → PageState) (words_of : S → ℕ → ℕ → ℕ) (old new : S) (xs ys : List ℕ) (r root : ℕ)
    (trees : AreTrees (page_state_of old) (words_of old) (xs ++ r ∷ ys)) (new_tree : IsTree (page_state_of new) (words_of new) root)
    (swaps : Swaps kept_of page_state_of words_of (pages (words_of old) r) (pages (words_of new) root) old new) where
  old_times : (q : ℕ) → times q (pages_of (words_of old) (xs ++ r ∷ ys)) ≡ times q (pages_of (words_of old) xs) + (times q (pages (words_of old) r) + times q (pages_of (words_of old) ys))
  old_times q = omega (arith, times_of (words_of old) xs (r ∷ ys) q, times_first (words_of old) r ys q)

  each_left : All (IsTree (page_state_of old) (words_of old)) xs
  each_left = all_left (IsTree (page_state_of old) (words_of old)) xs (r ∷ ys) trees.each

  each_right : All (IsTree (page_state_of old) (words_of old)) ys
  each_right i d lt = all_right (IsTree (page_state_of old) (words_of old)) xs (r ∷ ys) trees.each (suc i) d (omega (arith, lt))

  left : AreBeside (page_state_of old) (page_state_of new) (words_of old) (words_of new) xs
  left = trees_beside kept_of page_state_of words_of old new (pages (words_of old) r) (pages (words_of new) root) swaps xs each_left
      (λ q some. omega (arith, some, old_times q, trees.once q))

  right : AreBeside (page_state_of old) (page_state_of new) (words_of old) (words_of new) ys
  right = trees_beside kept_of page_state_of words_of old new (pages (words_of old) r) (pages (words_of new) root) swaps ys each_right
      (λ q some. omega (arith, some, old_times q, trees.once q))

  new_times : (q : ℕ) → times q (pages_of (words_of new) (xs ++ root ∷ ys)) ≡ times q (pages_of (words_of old) xs) + (times q (pages (words_of new) root) + times q (pages_of (words_of old) ys))
  new_times q = omega (arith, times_of (words_of new) xs (root ∷ ys) q, times_first (words_of new) root ys q, ap (times q) left.same_pages, ap (times q) right.same_pages)

  used : (q : ℕ) → 0 < times q (pages_of (words_of old) xs) + times q (pages_of (words_of old) ys) → IsTrue (is_kept (page_state_of old q))
  used q some = by (times q (pages_of (words_of old) xs)) refl
    where
      by : (n : ℕ) → times q (pages_of (words_of old) xs) ≡ n → IsTrue (is_kept (page_state_of old q))
      by zero e = trees_in_use (page_state_of old) (words_of old) ys each_right q (omega (arith, some, e))
      by (suc n) e = trees_in_use (page_state_of old) (words_of old) xs each_left q (omega (arith, e))

  free_unused : (s : PageState) → s ≡ Free → IsTrue (is_kept s) → ⊥
  free_unused s e h = false≢true (sym (ap is_kept e) ∙ h)

  once : (q : ℕ) → times q (pages_of (words_of new) (xs ++ root ∷ ys)) ≤ 1
  once q = by (times q (pages (words_of new) root)) (times q (pages_of (words_of old) xs) + times q (pages_of (words_of old) ys)) refl refl
    where
      by : (n m : ℕ) → times q (pages (words_of new) root) ≡ n → times q (pages_of (words_of old) xs) + times q (pages_of (words_of old) ys) ≡ m → times q (pages_of (words_of new) (xs ++ root ∷ ys)) ≤ 1
      by zero m e f = omega (arith, e, new_times q, old_times q, trees.once q)
      by (suc n) zero e f = omega (arith, e, f, new_times q, root_once (page_state_of new) (words_of new) root new_tree q)
      by (suc n) (suc m) e f = absurd (free_unused (page_state_of old q)
          (swaps_fresh kept_of page_state_of words_of (pages (words_of old) r) (pages (words_of new) root) old new swaps q (omega (arith, f, old_times q, trees.once q)) (omega (arith, e)))
          (used q (omega (arith, f))))

  pub replaces : Replaces kept_of page_state_of words_of xs ys r root old new
  replaces = record {
    trees = record {
      each = All-append (IsTree (page_state_of new) (words_of new)) xs (root ∷ ys) left.trees (all_cons (IsTree (page_state_of new) (words_of new)) root ys new_tree right.trees);
      once = once;
    };
    front_pairs = left.same_pairs;
    back_pairs = right.same_pairs;
    swaps = swaps_frame kept_of page_state_of words_of (pages (words_of old) r) (pages (words_of new) root) (pages_of (words_of old) (xs ++ r ∷ ys)) (pages_of (words_of new) (xs ++ root ∷ ys))
        (λ q. times q (pages_of (words_of old) xs) + times q (pages_of (words_of old) ys)) old new swaps
        (λ q. omega (arith, old_times q)) (λ q. omega (arith, new_times q)) trees.once used;
  }

-- a tree none of whose pages was replaced is unchanged
pub tree_beside : {S K : Type 0} (kept_of : S → K) (page_state_of : S → ℕ → PageState) (words_of : S → ℕ → ℕ → ℕ) (before after : List ℕ) (old new : S) (root : ℕ)
    → Swaps kept_of page_state_of words_of before after old new → IsTree (page_state_of old) (words_of old) root
    → ((q : ℕ) → 0 < times q (pages (words_of old) root) → times q before ≡ 0) → KeepsTree (page_state_of new) (words_of old) (words_of new) root
tree_beside kept_of page_state_of words_of before after old new root swaps tree apart = record {
  tree = tree_same (page_state_of old) (page_state_of new) (words_of old) (words_of new) root tree words states;
  same_pairs = root_pairs_same (page_state_of old) (page_state_of new) (words_of old) (words_of new) root words;
  same_pages = root_pages_same (page_state_of old) (page_state_of new) (words_of old) (words_of new) root words;
}
  where
    read : (q : ℕ) → 0 < times q (pages (words_of old) root) → IsTrue (is_readable (page_state_of old q))
    read q some = readable_kept (page_state_of old q) (root_in_use (page_state_of old) (words_of old) root tree q some)

    words : (q : ℕ) → 0 < times q (pages (words_of old) root) → words_of new q ≡ words_of old q
    words q some = swaps_same kept_of page_state_of words_of before after old new swaps q (apart q some) (read q some)

    states : (q : ℕ) → 0 < times q (pages (words_of old) root) → page_state_of new q ≡ page_state_of old q
    states q some = swaps_stays kept_of page_state_of words_of before after old new swaps q (apart q some) (read q some)

-- a tree that was well formed when the write began is well formed again after the write is undone
pub tree_undone : (start undone : ℕ → PageState) (v w : ℕ → ℕ → ℕ) (root : ℕ) → IsWriteStart start → IsUndone start undone v w → IsTree start v root → KeepsTree undone v w root
tree_undone start undone v w root clean was tree = record {
  tree = tree_same start undone v w root tree words states;
  same_pairs = root_pairs_same start undone v w root words;
  same_pages = root_pages_same start undone v w root words;
}
  where
    old : (q : ℕ) → 0 < times q (pages v root) → start q ≡ Old
    old q some = clean q (root_in_use start v root tree q some)

    words : (q : ℕ) → 0 < times q (pages v root) → w q ≡ v q
    words q some = was.same_words q (ap is_from_before (old q some))

    states : (q : ℕ) → 0 < times q (pages v root) → undone q ≡ start q
    states q some = was.page_state q ∙ ap after_undo (old q some) ∙ sym (old q some)

stays : (s : PageState) → IsTrue (is_kept s) → IsTrue (is_kept (after_keep s))
stays Free used = used
stays Old used = refl
stays GivenUp used = used
stays Taken used = refl
stays Filled used = refl

-- a tree remains well formed when its write is kept
pub tree_kept : (s t : ℕ → PageState) (v w : ℕ → ℕ → ℕ) → ((q : ℕ) → t q ≡ after_keep (s q)) → w ≡ v → (root : ℕ) → IsTree s v root → IsTree t w root
tree_kept s t v w kept words root tree = subst (λ u. IsTree t u root) (sym words) (same_words root tree)
  where
    in_use : (q : ℕ) → IsTrue (is_kept (s q)) → IsTrue (is_kept (t q))
    in_use q used = subst (λ u. IsTrue (is_kept u)) (sym (kept q)) (stays (s q) used)

    same_words : (root : ℕ) → IsTree s v root → IsTree t v root
    same_words zero tree = tt
    same_words (suc page) tree = record {
      node = tree.node;
      below = record { keys_fit = tree.below.keys_fit; shaped = tree.below.shaped; rising = tree.below.rising; once = tree.below.once; in_use = λ q some. in_use q (tree.below.in_use q some) };
      page_once = tree.page_once;
      page_in_use = in_use page tree.page_in_use;
    }
