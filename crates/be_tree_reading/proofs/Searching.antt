-- The place of a key among a leaf's items.
use Rattle.std.proofs.Common.{◌≡◌, ◌≢◌, ℕ, zero, suc, ◌+◌, ◌-◌, ◌<◌, ◌≤◌, List, [], ◌∷◌, length, get_or, drop, Bool, true, false, Some, None, ap, sym, subst, ◌∙◌, refl, arith, if◌then◌else◌}
use Rattle.std.specs.declared.cmp.Ordering.{Ordering}
use Rattle.std.specs.declared.cmp.Ordering.TheVariants.{Less, Equal, Greater}
use Rattle.std.specs.Ordering.{is_eq, is_gt}
use Rattle.std.proofs.lemmas.Bool.{false≢true}
use Rattle.std.proofs.lemmas.List.{get_or_default}
use Rattle.be_pages.specs.declared.room.PageState.{PageState}
use Rattle.be_tree_reading.specs.Pair.{Pair}
use Rattle.be_tree_reading.specs.Key.{key_cmp, AllAbove, IsBranchFor, IsGap, IsRank, IsRising, payload_at}
use Rattle.be_tree_reading.specs.Page.{item_at, item_place, items_of}
use Rattle.be_tree_reading.specs.Range.{pairs_from}
use Rattle.be_tree_reading.specs.Tree.{IsTreeAt, pairs_at}
use Rattle.be_tree_reading.proofs.Items.{item_get, items_count}
use Rattle.be_tree_reading.proofs.Order.{key_exact}
use Rattle.be_tree_reading.proofs.Ranges.{from_equal, from_greater, from_less, leaf_skips, leaf_takes}
use Rattle.be_tree_reading.proofs.TreeFacts.{found_in_leaf}

-- an item of a list whose keys are all above a key
pub above_get : (k : List ℕ) (xs : List Pair) (i : ℕ) (d : Pair) → i < length xs → AllAbove k xs → key_cmp (get_or xs i d).key k ≡ Greater
above_get k [] i d lt above = absurd (omega (arith, lt))
above_get k (x ∷ xs) zero d lt above = above.0
above_get k (x ∷ xs) (suc i) d lt above = above_get k xs i d (omega (arith, lt)) above.1

next_above : (xs : List Pair) → IsRising xs → (at : ℕ) (d e : Pair) → suc at < length xs → key_cmp (get_or xs (suc at) e).key (get_or xs at d).key ≡ Greater
next_above [] rising at d e lt = absurd (omega (arith, lt))
next_above (x ∷ xs) rising zero d e lt = above_get x.key xs 0 e (omega (arith, lt)) rising.0
next_above (x ∷ xs) rising (suc at) d e lt = next_above xs rising.1 at d e (omega (arith, lt))

-- the ranks that follow from a search's result
pub rank_of_equal : (xs : List Pair) → IsRising xs → (k : List ℕ) (at : ℕ) (d : Pair) → at < length xs → key_cmp (get_or xs at d).key k ≡ Equal → IsRank k xs (suc at)
rank_of_equal xs rising k at d lt same = record {
  in_range = lt;
  not_above = λ j e place gt.
      let here : j ≡ at = omega (arith, place) in
      false≢true (ap is_gt (sym (ap (λ (i : ℕ). key_cmp (get_or xs i e).key k) here ∙ ap (λ (x : Pair). key_cmp x.key k) (get_or_default xs at e d lt) ∙ same) ∙ gt));
  above = λ e more. subst (λ q. key_cmp (get_or xs (suc at) e).key q ≡ Greater) (key_exact (get_or xs at d).key k same) (next_above xs rising at d e more);
}

pub rank_of_gap : (k : List ℕ) (xs : List Pair) (r : ℕ) → IsGap k xs r → IsRank k xs r
rank_of_gap k xs r gap = record {
  in_range = gap.in_range;
  not_above = λ j d place gt. false≢true (ap is_gt (sym (gap.below j d place) ∙ gt));
  above = gap.above;
}

-- the branch that a search finds, although it doesn't read the first one
pub branch_of : (k : List ℕ) (xs : List Pair) (r at : ℕ) → at ≡ r - 1 → 0 < r → r ≤ length xs
    → ((j : ℕ) (d : Pair) → suc j ≡ r → 0 < j → key_cmp (get_or xs j d).key k ≢ Greater) → ((d : Pair) → r < length xs → key_cmp (get_or xs r d).key k ≡ Greater) → IsBranchFor k xs at
branch_of k xs zero at place some in_range below above = absurd (omega (arith, some))
branch_of k [] (suc r) at place some in_range below above = absurd (omega (arith, in_range))
branch_of k (x ∷ xs) (suc zero) at place some in_range below above = by (key_cmp x.key k) refl
  where
    second : (key_cmp x.key k ≢ Greater) → IsBranchFor k (x ∷ xs) at
    second low = record {
      rank = 1;
      is_rank = record {
        in_range = in_range;
        not_above = λ j d e gt.
            let here : j ≡ 0 = omega (arith, e) in
            low (sym (ap (λ (i : ℕ). key_cmp (get_or (x ∷ xs) i d).key k) here) ∙ gt);
        above = above;
      };
      before = place;
    }

    by : (o : Ordering) → key_cmp x.key k ≡ o → IsBranchFor k (x ∷ xs) at
    by Less e = second (λ gt. false≢true (ap is_gt (sym e ∙ gt)))
    by Equal e = second (λ gt. false≢true (ap is_gt (sym e ∙ gt)))
    by Greater e = record {
      rank = 0;
      is_rank = record { in_range = omega arith; not_above = λ j d e gt. omega (arith, e); above = λ d lt. e };
      before = omega (arith, place);
    }
branch_of k (x ∷ xs) (suc (suc r)) at place some in_range below above = record {
  rank = suc (suc r);
  is_rank = record { in_range = in_range; not_above = λ j d e. below j d e (omega (arith, e)); above = above };
  before = place;
}

-- what a search in a leaf says about a look-up
pub found_equal : (level least : ℕ) (page_state : ℕ → PageState) (words : ℕ → ℕ → ℕ) (page : ℕ) (k : List ℕ) (at : ℕ) → level ≡ 0 → IsTreeAt level least page_state words page → 0 < least → at < words page 1
    → key_cmp (item_at (words page) (item_place at)).key k ≡ Equal → payload_at (pairs_at level words page) k ≡ Some (item_at (words page) (item_place at)).payload
found_equal zero least page_state words page k at leaf tree some lt same =
    let item = item_at (words page) (item_place at) in
    let here = item_get (words page) at item lt in
    let rank = rank_of_equal (items_of (words page)) tree.below.rising k at item (omega (arith, lt, items_count (words page))) (ap (λ (x : Pair). key_cmp x.key k) here ∙ same) in
    found_in_leaf 0 least page_state words page k (items_of (words page)) (suc at) at item refl tree some refl rank (omega arith) (sym here)
    ∙ ap (λ o. if is_eq o then Some item.payload else None) same
found_equal (suc level) least page_state words page k at leaf tree some lt same = absurd (omega (arith, leaf))

pub found_gap : (level least : ℕ) (page_state : ℕ → PageState) (words : ℕ → ℕ → ℕ) (page : ℕ) (k : List ℕ) (r : ℕ) → level ≡ 0 → IsTreeAt level least page_state words page → 0 < least
    → IsGap k (items_of (words page)) r → payload_at (pairs_at level words page) k ≡ None
found_gap zero least page_state words page k zero leaf tree some gap =
    let item = item_at (words page) (item_place 0) in
    let lt : 0 < words page 1 = omega (arith, some, tree.node.enough, items_count (words page)) in
    let here = item_get (words page) 0 item lt in
    found_in_leaf 0 least page_state words page k (items_of (words page)) 0 0 item refl tree some refl (rank_of_gap k (items_of (words page)) 0 gap) refl (sym here)
    ∙ ap (λ o. if is_eq o then Some item.payload else None) (ap (λ (x : Pair). key_cmp x.key k) (sym here) ∙ gap.above item (omega (arith, lt, items_count (words page))))
found_gap zero least page_state words page k (suc m) leaf tree some gap =
    let item = item_at (words page) (item_place m) in
    let lt : m < words page 1 = omega (arith, gap.in_range, items_count (words page)) in
    let here = item_get (words page) m item lt in
    found_in_leaf 0 least page_state words page k (items_of (words page)) (suc m) m item refl tree some refl (rank_of_gap k (items_of (words page)) (suc m) gap) (omega arith) (sym here)
    ∙ ap (λ o. if is_eq o then Some item.payload else None) (ap (λ (x : Pair). key_cmp x.key k) (sym here) ∙ gap.below m item refl)
found_gap (suc level) least page_state words page k r leaf tree some gap = absurd (omega (arith, leaf))

-- what it says about the pairs from the key on
module _ (items : List Pair) (rising : IsRising items) (k : List ℕ) (after : Bool) where
  pub gap_rest : (r : ℕ) (d : Pair) → IsGap k items r → 0 < length items → drop r items ≡ pairs_from items k after
  gap_rest zero d gap some =
      let item = get_or items 0 d in
      leaf_takes items rising k 0 0 item (rank_of_gap k items 0 gap) some refl (get_or_default items 0 item d some) after (from_greater k after item.key (gap.above d some))
  gap_rest (suc m) d gap some =
      let item = get_or items m d in
      let e : suc m ≡ m + 1 = omega arith in
      ap (λ i. drop i items) e
      ∙ leaf_skips items rising k (suc m) m item (rank_of_gap k items (suc m) gap) some (omega arith) (get_or_default items m item d (omega (arith, gap.in_range))) after (from_less k after item.key (gap.below m d refl))

module _ (items : List Pair) (rising : IsRising items) (k : List ℕ) (at : ℕ) (item : Pair) (is : get_or items at item ≡ item) (lt : at < length items) (same : key_cmp item.key k ≡ Equal) where
  rank : IsRank k items (suc at)
  rank = rank_of_equal items rising k at item lt (ap (λ (x : Pair). key_cmp x.key k) is ∙ same)

  pub equal_takes : drop at items ≡ pairs_from items k false
  equal_takes = leaf_takes items rising k (suc at) at item rank (omega (arith, lt)) (omega arith) is false (from_equal k false item.key same)

  pub equal_skips : drop (at + 1) items ≡ pairs_from items k true
  equal_skips = leaf_skips items rising k (suc at) at item rank (omega (arith, lt)) (omega arith) is true (from_equal k true item.key same)
