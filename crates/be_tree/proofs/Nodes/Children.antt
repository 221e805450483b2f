-- Two neighbours among an inner node's items, whose children have been replaced.
use Rattle.std.proofs.Common.{◌≡◌, ℕ, suc, ◌+◌, ◌<◌, ◌≤◌, List, [], ◌∷◌, ◌++◌, length, take, drop, ap, sym, subst, ◌∙◌, arith}
use Rattle.std.specs.List.{flat_map}
use Rattle.std.proofs.lemmas.List.{append-nil, append_assoc, drop_more, take_more, take-append-drop}
use Rattle.std.proofs.lemmas.List.Concat.{flat_map-append}
use Rattle.be_pages.specs.declared.room.PageState.{PageState}
use Rattle.be_tree_reading.specs.Pair.{Pair}
use Rattle.be_tree_reading.specs.Key.{IsRising}
use Rattle.be_tree_reading.specs.Page.{item_at, items_of, item_place}
use Rattle.be_tree_reading.specs.Tree.{AreNeighbours, child, pairs_at, pairs_below, IsBelow, IsTreeAt}
use Rattle.be_tree_reading.proofs.Order.{IsRising_left, IsRising_right}
use Rattle.be_tree_reading.proofs.Shape.Below.{below_left, below_right}
use Rattle.be_tree_reading.proofs.Items.{item_get, items_count}
use Rattle.be_tree.proofs.Nodes.Neighbours.{are_neighbours}

module _ (level below least page : ℕ) (page_state : ℕ → PageState) (words : ℕ → ℕ → ℕ) (e : level ≡ suc below) (tree : IsTreeAt level least page_state words page) where
  inner : IsBelow (suc below) page_state words (items_of (words page))
  inner = subst (λ (n : ℕ). IsBelow n page_state words (items_of (words page))) e tree.below

  pub names_page : (i : ℕ) → i < words page 1 → length (item_at (words page) (item_place i)).payload ≡ 8
  names_page i lt =
      let d = item_at (words page) (item_place i) in
      subst (λ (x : Pair). length x.payload ≡ 8) (item_get (words page) i d lt) (inner.shaped i d (omega (arith, lt, items_count (words page)))).1.names_page

  module _ (i : ℕ) (lt : i + 2 ≤ words page 1) where
    pub two_in_three : items_of (words page)
        ≡ take i (items_of (words page)) ++ (item_at (words page) (item_place i) ∷ item_at (words page) (item_place (i + 1)) ∷ drop (i + 2) (items_of (words page)))
    two_in_three =
        let items = items_of (words page) in
        let d = item_at (words page) (item_place i) in
        let n = item_at (words page) (item_place (i + 1)) in
        let len = items_count (words page) in
        let next : i + 1 + 1 ≡ i + 2 = omega arith in
        sym (take-append-drop i items)
        ∙ ap (λ ys. take i items ++ ys) (drop_more items i d (omega (arith, lt, len))
        ∙ ap (λ x. x ∷ drop (i + 1) items) (item_get (words page) i d (omega (arith, lt)))
        ∙ ap (λ ys. d ∷ ys) (drop_more items (i + 1) n (omega (arith, lt, len))
        ∙ ap (λ x. x ∷ drop (i + 1 + 1) items) (item_get (words page) (i + 1) n (omega (arith, lt)))
        ∙ ap (λ (m : ℕ). n ∷ drop m items) next))

    pub whole_below : IsBelow level page_state words (take i (items_of (words page)) ++ ((item_at (words page) (item_place i) ∷ item_at (words page) (item_place (i + 1)) ∷ []) ++ drop (i + 2) (items_of (words page))))
    whole_below = subst (IsBelow level page_state words) two_in_three tree.below

    two_below : IsBelow (suc below) page_state words (item_at (words page) (item_place i) ∷ item_at (words page) (item_place (i + 1)) ∷ [])
    two_below =
        let items = items_of (words page) in
        let two = item_at (words page) (item_place i) ∷ item_at (words page) (item_place (i + 1)) ∷ [] in
        subst (λ (n : ℕ). IsBelow n page_state words two) e
        (below_left level page_state words two (drop (i + 2) items) (below_right level page_state words (take i items) (two ++ drop (i + 2) items) whole_below))

    pub two_neighbours : (l r : ℕ) → l ≡ child (item_at (words page) (item_place i)) → r ≡ child (item_at (words page) (item_place (i + 1))) → AreNeighbours below page_state words l r
    two_neighbours l r l_is r_is = are_neighbours below page_state words (item_at (words page) (item_place i)) (item_at (words page) (item_place (i + 1))) l r l_is r_is two_below

    -- how all pairs change when the second child's pairs do
    module _ (at : ℕ) (is : at ≡ i + 1) (all : List Pair) (f : List Pair → List Pair)
        (one : all ≡ pairs_below (suc below) words (take at (items_of (words page))) ++ (f (pairs_at below words (child (item_at (words page) (item_place at)))) ++ pairs_below (suc below) words (drop (suc at) (items_of (words page))))) where
      pub second_changed : all
          ≡ pairs_below level words (take i (items_of (words page))) ++ ((pairs_at below words (child (item_at (words page) (item_place i))) ++ f (pairs_at below words (child (item_at (words page) (item_place (i + 1))))))
          ++ pairs_below level words (drop (i + 2) (items_of (words page))))
      second_changed =
          let items = items_of (words page) in
          let g = λ (b : Pair). pairs_at below words (child b) in
          let b = item_at (words page) (item_place i) in
          let d = item_at (words page) (item_place (i + 1)) in
          let two : suc at ≡ i + 2 = omega (arith, is) in
          let in_items : i < length items = omega (arith, lt, items_count (words page)) in
          let front : take at items ≡ take i items ++ b ∷ [] = ap (λ (m : ℕ). take m items) is ∙ take_more items i b in_items ∙ ap (λ x. take i items ++ x ∷ []) (item_get (words page) i b (omega (arith, lt))) in
          let parts : flat_map g (take at items) ≡ flat_map g (take i items) ++ g b = ap (flat_map g) front ∙ flat_map-append g (take i items) (b ∷ []) ∙ ap (λ ys. flat_map g (take i items) ++ ys) (append-nil (g b)) in
          subst (λ (m : ℕ). all ≡ pairs_below m words (take i items) ++ ((g b ++ f (g d)) ++ pairs_below m words (drop (i + 2) items))) (sym e)
          (one
          ∙ ap (λ xs. xs ++ (f (g (item_at (words page) (item_place at))) ++ flat_map g (drop (suc at) items))) parts
          ∙ ap (λ (m : ℕ). (flat_map g (take i items) ++ g b) ++ (f (g (item_at (words page) (item_place m))) ++ flat_map g (drop (suc at) items))) is
          ∙ ap (λ (m : ℕ). (flat_map g (take i items) ++ g b) ++ (f (g d) ++ flat_map g (drop m items))) two
          ∙ append_assoc (flat_map g (take i items)) (g b) (f (g d) ++ flat_map g (drop (i + 2) items))
          ∙ ap (λ xs. flat_map g (take i items) ++ xs) (sym (append_assoc (g b) (f (g d)) (flat_map g (drop (i + 2) items)))))

      pub second_rising : IsRising all → IsRising (pairs_at below words (child (item_at (words page) (item_place i))) ++ f (pairs_at below words (child (item_at (words page) (item_place (i + 1))))))
      second_rising rising =
          let b = pairs_at below words (child (item_at (words page) (item_place i))) in
          let d = f (pairs_at below words (child (item_at (words page) (item_place (i + 1))))) in
          let back = pairs_below level words (drop (i + 2) (items_of (words page))) in
          IsRising_left (b ++ d) back (IsRising_right (pairs_below level words (take i (items_of (words page)))) ((b ++ d) ++ back) (subst IsRising second_changed rising))

    -- and when the first child's pairs do
    pub first_changed : (all : List Pair) (f : List Pair → List Pair)
        → all ≡ pairs_below (suc below) words (take i (items_of (words page))) ++ (f (pairs_at below words (child (item_at (words page) (item_place i)))) ++ pairs_below (suc below) words (drop (suc i) (items_of (words page))))
        → all ≡ pairs_below level words (take i (items_of (words page))) ++ ((f (pairs_at below words (child (item_at (words page) (item_place i)))) ++ pairs_at below words (child (item_at (words page) (item_place (i + 1)))))
        ++ pairs_below level words (drop (i + 2) (items_of (words page))))
    first_changed all f one =
        let items = items_of (words page) in
        let g = λ (b : Pair). pairs_at below words (child b) in
        let d = item_at (words page) (item_place i) in
        let n = item_at (words page) (item_place (i + 1)) in
        let next : suc i ≡ i + 1 = omega arith in
        let two : i + 1 + 1 ≡ i + 2 = omega arith in
        let rest : drop (suc i) items ≡ n ∷ drop (i + 2) items =
        ap (λ (m : ℕ). drop m items) next ∙ drop_more items (i + 1) n (omega (arith, lt, items_count (words page))) ∙ ap (λ x. x ∷ drop (i + 1 + 1) items) (item_get (words page) (i + 1) n (omega (arith, lt))) ∙ ap (λ (m : ℕ). n ∷ drop m items) two in
        subst (λ (m : ℕ). all ≡ pairs_below m words (take i items) ++ ((f (g d) ++ g n) ++ pairs_below m words (drop (i + 2) items))) (sym e)
        (one ∙ ap (λ xs. flat_map g (take i items) ++ (f (g d) ++ flat_map g xs)) rest ∙ ap (λ xs. flat_map g (take i items) ++ xs) (sym (append_assoc (f (g d)) (g n) (flat_map g (drop (i + 2) items)))))
