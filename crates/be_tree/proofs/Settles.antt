-- An unwritten node that is settled among a page's children.
use Rattle.std.proofs.Common.{◌≡◌, ℕ, suc, ◌+◌, ◌<◌, ◌≤◌, List, [], ◌∷◌, ◌++◌, length, map, take, drop, IsTrue, Result, IfOk, ap, sym, subst, ◌∙◌, refl, arith}
use Rattle.std.proofs.lemmas.List.{append-nil}
use Rattle.be_pages.specs.declared.room.PageState.{PageState}
use Rattle.std.specs.List.{range_with_len}
use Rattle.std.proofs.lemmas.Result.{IfOk-weaker}
use Rattle.be_value.specs.declared.refusals.Refusal.{Refusal}
use Rattle.be_pages.specs.Pages.{IsUnchanged, is_kept, is_readable, times}
use Rattle.be_tree.specs.declared.path.Step.{Step}
use Rattle.be_tree.specs.declared.settling.Settled.{Settled}
use Rattle.be_tree.specs.declared.slot.Slot.{Slot}
use Rattle.be_tree.specs.declared.slot.Slot.TheVariants.{At}
use Rattle.be_tree_reading.specs.Pair.{Pair}
use Rattle.be_tree_reading.specs.Key.{IsRising}
use Rattle.be_tree_reading.specs.Page.{IsPage, item_at, item_place, items_of}
use Rattle.be_tree.specs.Settling.{IsChildInHand, IsSettled, beside}
use Rattle.be_tree.specs.Slot.{pairs_of}
use Rattle.be_tree.specs.Splicing.{spliced}
use Rattle.be_tree_reading.specs.Tree.{AreNeighbours, Becomes, IsBelow, IsTreeAt, child, pages_at, pages_below, pairs_at, pairs_below}
use Rattle.be_tree.specs.Writing.{AreApart, IsWritable, IsApart}
use Rattle.be_tree_reading.proofs.Frame.{readable_kept, swaps_same, times-cons}
use Rattle.be_tree.proofs.Nodes.Children.{first_changed, names_page, second_changed, second_rising, two_in_three, two_neighbours, whole_below}
use Rattle.be_tree.proofs.Nodes.Joins.{left_changed, left_in_hand, left_length, right_changed, right_in_hand, right_length}
use Rattle.be_tree.proofs.Nodes.Neighbours.{apart, becomes_times, left_page, left_readable, neighbour_times, ready_until, right_page, right_readable}
use Rattle.be_tree_reading.proofs.Items.{items_count}
use Rattle.be_tree_reading.proofs.Order.{IsRising_left, IsRising_right}
use Rattle.be_tree_reading.proofs.Putting.Puts.{becomes_over, becomes_until, given_up_page, kept_after}
use Rattle.be_tree.proofs.Shape.Parts.{becomes_part}
use Rattle.be_tree_reading.proofs.TreeFacts.{times_part}
use Rattle.be_tree.proofs.Ways.{branch_child, branch_is, three}

-- two children have become others, which replace the two among a page's items
two_settled : {S K : Type 0} (kept_of : S → K) (page_state_of : S → ℕ → PageState) (words_of : S → ℕ → ℕ → ℕ) (level page i l r : ℕ) (ps : List Pair) (start new : S) → IsTreeAt (suc level) 2 (page_state_of start) (words_of start) page
    → i + 2 ≤ words_of start page 1 → l ≡ child (item_at (words_of start page) (item_place i)) → r ≡ child (item_at (words_of start page) (item_place (i + 1))) → (us all : List Pair)
    → all ≡ pairs_below (suc level) (words_of start) (take i (items_of (words_of start page))) ++ (ps ++ pairs_below (suc level) (words_of start) (drop (i + 2) (items_of (words_of start page)))) → IsRising all
    → Becomes kept_of page_state_of words_of (l ∷ r ∷ pages_below level (words_of start) (items_of (words_of start l) ++ items_of (words_of start r))) ps (suc level) us start new
    → Becomes kept_of page_state_of words_of (pages_below (suc level) (words_of start) (items_of (words_of start page))) all (suc level) (spliced (record { at = i; gone = 2 }) (items_of (words_of start page)) us) start new
two_settled kept_of page_state_of words_of level page i l r ps start new tree lt l_is r_is us all is rising joined =
    let words = words_of start in
    let items = items_of (words page) in
    let b = item_at (words page) (item_place i) in
    let d = item_at (words page) (item_place (i + 1)) in
    let two = b ∷ d ∷ [] in
    let listed = becomes_times kept_of page_state_of words_of (l ∷ r ∷ pages_below level words (items_of (words l) ++ items_of (words r))) (pages_below (suc level) words two) ps (suc level) us start new
    (neighbour_times level (page_state_of start) words b d l r l_is r_is) joined in
    let part = becomes_part kept_of page_state_of words_of (suc level) (take i items) two (drop (i + 2) items) us ps start new (whole_below (suc level) level 2 page (page_state_of start) words refl tree i lt) listed (subst IsRising is rising) in
    subst (λ qs. Becomes kept_of page_state_of words_of (pages_below (suc level) words items) qs (suc level) (take i items ++ (us ++ drop (i + 2) items)) start new) (sym is)
    (subst (λ xs. Becomes kept_of page_state_of words_of (pages_below (suc level) words xs) (pairs_below (suc level) words (take i items) ++ (ps ++ pairs_below (suc level) words (drop (i + 2) items))) (suc level) (take i items ++ (us ++ drop (i + 2) items)) start new)
    (sym (two_in_three (suc level) level 2 page (page_state_of start) words refl tree i lt)) part)

module _ {S K : Type 0} (kept_of : S → K) (page_state_of : S → ℕ → PageState) (words_of : S → ℕ → ℕ → ℕ) (step : Step) (was level : ℕ) (given : Pair) (slots : List Slot) (start mid : S)
    (h : IsChildInHand kept_of page_state_of words_of step was level given slots start mid) where
  -- the child as it was, and the pages below it
  pub was_tree : IsTreeAt level 6 (page_state_of start) (words_of start) was
  was_tree = subst (λ p. IsTreeAt level 6 (page_state_of start) (words_of start) p) h.is_child (branch_child level 2 (page_state_of start) (words_of start) step.page step.at h.tree h.in_range)

  -- the page above isn't among those
  above_none : times step.page (pages_at level (words_of start) was) ≡ 0
  above_none =
      let items = items_of (words_of start step.page) in
      let d = item_at (words_of start step.page) (item_place step.at) in
      let g = λ (b : Pair). pages_at level (words_of start) (child b) in
      let among = subst (λ (b : Pair). times step.page (g b) ≤ times step.page (pages_below (suc level) (words_of start) items)) (branch_is level 2 (page_state_of start) (words_of start) step.page step.at h.tree h.in_range)
      (times_part g step.page items step.at d (omega (arith, h.in_range, items_count (words_of start step.page)))) in
      omega (arith, h.tree.page_once, subst (λ p. times step.page (pages_at level (words_of start) p) ≤ times step.page (pages_below (suc level) (words_of start) items)) h.is_child among)

  above_none_below : times step.page (pages_below level (words_of start) (items_of (words_of start was))) ≡ 0
  above_none_below = omega (arith, above_none, times-cons step.page was (pages_below level (words_of start) (items_of (words_of start was))))

  pub above_same : words_of mid step.page ≡ words_of start step.page
  above_same =
      swaps_same kept_of page_state_of words_of (pages_below level (words_of start) (items_of (words_of start was))) (pages_below level (words_of mid) (pairs_of (words_of mid) given slots)) start mid h.node.swaps step.page above_none_below
      (readable_kept (page_state_of start step.page) h.tree.page_in_use)

  pub above_kept : IsTrue (is_kept (page_state_of mid step.page))
  above_kept = kept_after kept_of page_state_of words_of (pages_below level (words_of start) (items_of (words_of start was))) (pages_below level (words_of mid) (pairs_of (words_of mid) given slots)) step.page start mid h.node.swaps above_none_below h.tree.page_in_use

  pub above_page : IsPage (words_of mid step.page)
  above_page = subst IsPage (sym above_same) h.tree.node.is_page

  pub above_names : (i : ℕ) → i < words_of mid step.page 1 → length (item_at (words_of mid step.page) (item_place i)).payload ≡ 8
  above_names i lt =
      subst (λ (w : ℕ → ℕ). length (item_at w (item_place i)).payload ≡ 8) (sym above_same)
      (names_page (suc level) level 2 step.page (page_state_of start) (words_of start) refl h.tree i (subst (λ (w : ℕ → ℕ). i < w 1) above_same lt))

  pub alone_apart : IsApart page_state_of words_of mid level given slots was
  alone_apart =
      let before = pages_below level (words_of start) (items_of (words_of start was)) in
      let after = pages_below level (words_of mid) (pairs_of (words_of mid) given slots) in
      (kept_after kept_of page_state_of words_of before after was start mid h.node.swaps was_tree.page_once was_tree.page_in_use, given_up_page kept_of page_state_of words_of before after was start mid h.node.swaps was_tree.page_once was_tree.page_in_use)

  -- and what writing it produces
  pub alone_settled : (us : List Pair) (new : S) → Becomes kept_of page_state_of words_of (was ∷ pages_below level (words_of mid) (pairs_of (words_of mid) given slots)) (pairs_below level (words_of mid) (pairs_of (words_of mid) given slots)) (suc level) us mid new
      → Becomes kept_of page_state_of words_of (pages_below (suc level) (words_of start) (items_of (words_of start step.page))) (beside (suc level) (words_of start) step (pairs_below level (words_of mid) (pairs_of (words_of mid) given slots))) (suc level)
      (spliced (record { at = step.at; gone = 1 }) (items_of (words_of start step.page)) us) start new
  alone_settled us new packed =
      let words = words_of start in
      let items = items_of (words step.page) in
      let item = item_at (words step.page) (item_place step.at) in
      let ps = pairs_below level (words_of mid) (pairs_of (words_of mid) given slots) in
      let xs = take step.at items in
      let zs = drop (suc step.at) items in
      let parts = three level 2 (page_state_of start) words step.page step.at h.tree h.in_range in
      let over = becomes_over kept_of page_state_of words_of (pages_below level words (items_of (words was))) ps level (suc level) was (pairs_of (words_of mid) given slots) us start mid new h.node was_tree.page_once was_tree.below.once was_tree.page_in_use packed in
      let named = subst (λ p. Becomes kept_of page_state_of words_of (pages_at level words p) ps (suc level) us start new) (sym h.is_child) over in
      let here = subst (λ qs. Becomes kept_of page_state_of words_of qs ps (suc level) us start new) (sym (append-nil (pages_at level words (child item)))) named in
      let part = becomes_part kept_of page_state_of words_of (suc level) xs (item ∷ []) zs us ps start new (subst (IsBelow (suc level) (page_state_of start) words) parts h.tree.below) here h.rising in
      let e : suc step.at ≡ step.at + 1 = omega arith in
      subst (λ n. Becomes kept_of page_state_of words_of (pages_below (suc level) words items) (beside (suc level) words step ps) (suc level) (xs ++ (us ++ drop n items)) start new) e
      (subst (λ ys. Becomes kept_of page_state_of words_of (pages_below (suc level) words ys) (beside (suc level) words step ps) (suc level) (xs ++ (us ++ zs)) start new) (sym parts) part)

  -- two neighbours, the second of which is the child
  module _ (i l : ℕ) (is : step.at ≡ i + 1) (l_is : l ≡ child (item_at (words_of start step.page) (item_place i))) where
    le : i + 2 ≤ words_of start step.page 1
    le = omega (arith, is, h.in_range)

    r_is : was ≡ child (item_at (words_of start step.page) (item_place (i + 1)))
    r_is = sym h.is_child ∙ ap (λ n. child (item_at (words_of start step.page) (item_place n))) is

    pub left_neighbours : AreNeighbours level (page_state_of start) (words_of start) l was
    left_neighbours = two_neighbours (suc level) level 2 step.page (page_state_of start) (words_of start) refl h.tree i le l was l_is r_is

    left_parts : beside (suc level) (words_of start) step (pairs_below level (words_of mid) (pairs_of (words_of mid) given slots))
        ≡ pairs_below (suc level) (words_of start) (take i (items_of (words_of start step.page)))
        ++ ((pairs_at level (words_of start) (child (item_at (words_of start step.page) (item_place i))) ++ pairs_below level (words_of mid) (pairs_of (words_of mid) given slots)) ++ pairs_below (suc level) (words_of start) (drop (i + 2) (items_of (words_of start step.page))))
    left_parts =
        second_changed (suc level) level 2 step.page (page_state_of start) (words_of start) refl h.tree i le step.at is (beside (suc level) (words_of start) step (pairs_below level (words_of mid) (pairs_of (words_of mid) given slots)))
        (λ xs. pairs_below level (words_of mid) (pairs_of (words_of mid) given slots)) refl

    pub left_rising : IsRising (pairs_at level (words_of start) l ++ pairs_below level (words_of mid) (pairs_of (words_of mid) given slots))
    left_rising =
        subst (λ p. IsRising (pairs_at level (words_of start) p ++ pairs_below level (words_of mid) (pairs_of (words_of mid) given slots))) (sym l_is)
        (second_rising (suc level) level 2 step.page (page_state_of start) (words_of start) refl h.tree i le step.at is (beside (suc level) (words_of start) step (pairs_below level (words_of mid) (pairs_of (words_of mid) given slots)))
        (λ xs. pairs_below level (words_of mid) (pairs_of (words_of mid) given slots)) refl h.rising)

    pub left_settled : (us : List Pair) (new : S)
        → Becomes kept_of page_state_of words_of (l ∷ was ∷ pages_below level (words_of start) (items_of (words_of start l) ++ items_of (words_of start was))) (pairs_at level (words_of start) l ++ pairs_below level (words_of mid) (pairs_of (words_of mid) given slots)) (suc level) us start new
        → Becomes kept_of page_state_of words_of (pages_below (suc level) (words_of start) (items_of (words_of start step.page))) (beside (suc level) (words_of start) step (pairs_below level (words_of mid) (pairs_of (words_of mid) given slots))) (suc level)
        (spliced (record { at = i; gone = 2 }) (items_of (words_of start step.page)) us) start new
    left_settled us new joined = two_settled kept_of page_state_of words_of level step.page i l was (pairs_at level (words_of start) l ++ pairs_below level (words_of mid) (pairs_of (words_of mid) given slots)) start new h.tree le l_is r_is us
        (beside (suc level) (words_of start) step (pairs_below level (words_of mid) (pairs_of (words_of mid) given slots)))
        (left_parts ∙ ap (λ p. pairs_below (suc level) (words_of start) (take i (items_of (words_of start step.page))) ++ ((pairs_at level (words_of start) p ++ pairs_below level (words_of mid) (pairs_of (words_of mid) given slots)) ++ pairs_below (suc level) (words_of start) (drop (i + 2) (items_of (words_of start step.page))))) (sym l_is))
        h.rising joined

  -- two neighbours, the first of which is the child
  module _ (r : ℕ) (lt : step.at + 2 ≤ words_of start step.page 1) (r_is : r ≡ child (item_at (words_of start step.page) (item_place (step.at + 1)))) where
    pub right_neighbours : AreNeighbours level (page_state_of start) (words_of start) was r
    right_neighbours = two_neighbours (suc level) level 2 step.page (page_state_of start) (words_of start) refl h.tree step.at lt was r (sym h.is_child) r_is

    right_parts : beside (suc level) (words_of start) step (pairs_below level (words_of mid) (pairs_of (words_of mid) given slots))
        ≡ pairs_below (suc level) (words_of start) (take step.at (items_of (words_of start step.page)))
        ++ ((pairs_below level (words_of mid) (pairs_of (words_of mid) given slots) ++ pairs_at level (words_of start) r) ++ pairs_below (suc level) (words_of start) (drop (step.at + 2) (items_of (words_of start step.page))))
    right_parts =
        subst (λ p. beside (suc level) (words_of start) step (pairs_below level (words_of mid) (pairs_of (words_of mid) given slots))
        ≡ pairs_below (suc level) (words_of start) (take step.at (items_of (words_of start step.page)))
        ++ ((pairs_below level (words_of mid) (pairs_of (words_of mid) given slots) ++ pairs_at level (words_of start) p) ++ pairs_below (suc level) (words_of start) (drop (step.at + 2) (items_of (words_of start step.page))))) (sym r_is)
        (first_changed (suc level) level 2 step.page (page_state_of start) (words_of start) refl h.tree step.at lt (beside (suc level) (words_of start) step (pairs_below level (words_of mid) (pairs_of (words_of mid) given slots)))
        (λ xs. pairs_below level (words_of mid) (pairs_of (words_of mid) given slots)) refl)

    pub right_rising : IsRising (pairs_below level (words_of mid) (pairs_of (words_of mid) given slots) ++ pairs_at level (words_of start) r)
    right_rising =
        let ps = pairs_below level (words_of mid) (pairs_of (words_of mid) given slots) in
        let front = pairs_below (suc level) (words_of start) (take step.at (items_of (words_of start step.page))) in
        let back = pairs_below (suc level) (words_of start) (drop (step.at + 2) (items_of (words_of start step.page))) in
        IsRising_left (ps ++ pairs_at level (words_of start) r) back (IsRising_right front ((ps ++ pairs_at level (words_of start) r) ++ back) (subst IsRising right_parts h.rising))

    pub right_settled : (us : List Pair) (new : S)
        → Becomes kept_of page_state_of words_of (was ∷ r ∷ pages_below level (words_of start) (items_of (words_of start was) ++ items_of (words_of start r))) (pairs_below level (words_of mid) (pairs_of (words_of mid) given slots) ++ pairs_at level (words_of start) r) (suc level) us start new
        → Becomes kept_of page_state_of words_of (pages_below (suc level) (words_of start) (items_of (words_of start step.page))) (beside (suc level) (words_of start) step (pairs_below level (words_of mid) (pairs_of (words_of mid) given slots))) (suc level)
        (spliced (record { at = step.at; gone = 2 }) (items_of (words_of start step.page)) us) start new
    right_settled us new joined = two_settled kept_of page_state_of words_of level step.page step.at was r (pairs_below level (words_of mid) (pairs_of (words_of mid) given slots) ++ pairs_at level (words_of start) r) start new h.tree lt (sym h.is_child) r_is us
        (beside (suc level) (words_of start) step (pairs_below level (words_of mid) (pairs_of (words_of mid) given slots))) right_parts h.rising joined

-- two neighbours whose items are in one unwritten node
pub record TwoInHand {S K : Type 0} (kept_of : S → K) (page_state_of : S → ℕ → PageState) (words_of : S → ℕ → ℕ → ℕ) (page level i l r : ℕ) (given : Pair) (all : List Pair) (both : List Slot) (start read : S) : Type 0 where
  pub can : IsWritable page_state_of words_of read level given both
  pub are_apart : AreApart page_state_of words_of read level given both l r
  pub settled : (us : List Pair) (new : S)
      → Becomes kept_of page_state_of words_of (l ∷ r ∷ pages_below level (words_of read) (pairs_of (words_of read) given both)) (pairs_below level (words_of read) (pairs_of (words_of read) given both)) (suc level) us read new
      → Becomes kept_of page_state_of words_of (pages_below (suc level) (words_of start) (items_of (words_of start page))) all (suc level) (spliced (record { at = i; gone = 2 }) (items_of (words_of start page)) us) start new

module _ {S K : Type 0} (kept_of : S → K) (page_state_of : S → ℕ → PageState) (words_of : S → ℕ → ℕ → ℕ) (step : Step) (was level : ℕ) (given : Pair) (slots : List Slot) (start mid : S)
    (h : IsChildInHand kept_of page_state_of words_of step was level given slots start mid) (other both : List Slot) (read : S) (same : IsUnchanged kept_of page_state_of words_of mid read) where
  -- the child and the one before it
  module _ (i l : ℕ) (is : step.at ≡ i + 1) (l_is : l ≡ child (item_at (words_of mid step.page) (item_place i))) where
    l_was : l ≡ child (item_at (words_of start step.page) (item_place i))
    l_was = l_is ∙ ap (λ (w : ℕ → ℕ). child (item_at w (item_place i))) (above_same kept_of page_state_of words_of step was level given slots start mid h)

    two : AreNeighbours level (page_state_of start) (words_of start) l was
    two = left_neighbours kept_of page_state_of words_of step was level given slots start mid h i l is l_was

    pub before_readable : IsTrue (is_readable (page_state_of mid l))
    before_readable = left_readable kept_of page_state_of words_of level l was start two (pairs_below level (words_of mid) (pairs_of (words_of mid) given slots)) given slots mid h.node

    pub before_page : IsPage (words_of mid l)
    before_page = left_page kept_of page_state_of words_of level l was start two (pairs_below level (words_of mid) (pairs_of (words_of mid) given slots)) given slots mid h.node

    module _ (loaded : other ≡ map (λ j. At (item_place j) l) (range_with_len 0 (words_of mid l 1))) (e : both ≡ other ++ slots) where
      pub before_count : 6 + length slots ≤ length both
      before_count = omega (
        arith,
        right_length kept_of page_state_of words_of level l was start two (pairs_below level (words_of mid) (pairs_of (words_of mid) given slots)) given slots other both mid read same h.node loaded e,
        two.left_tree.node.enough,
        items_count (words_of start l),
      )

      pub before_in_hand : TwoInHand kept_of page_state_of words_of step.page level i l was given (beside (suc level) (words_of start) step (pairs_below level (words_of mid) (pairs_of (words_of mid) given slots))) both start read
      before_in_hand =
          let ps = pairs_below level (words_of mid) (pairs_of (words_of mid) given slots) in
          let rising = left_rising kept_of page_state_of words_of step was level given slots start mid h i l is l_was in
          let joined = right_changed kept_of page_state_of words_of level l was start two ps given slots other both mid read same h.node loaded e rising in
          record {
            can = (joined.below, (right_in_hand kept_of page_state_of words_of level l was start two ps given slots other both mid read same h.node loaded e h.ready, h.key_fits));
            are_apart = ((joined.left_is_kept, joined.left_beside), ((joined.right_is_kept, joined.right_beside), apart kept_of page_state_of words_of level l was start two));
            settled = λ us new packed. left_settled kept_of page_state_of words_of step was level given slots start mid h i l is l_was us new (joined.written us new packed);
          }

  -- the child and the one after it
  module _ (r : ℕ) (lt : step.at + 2 ≤ words_of mid step.page 1) (r_is : r ≡ child (item_at (words_of mid step.page) (item_place (step.at + 1)))) where
    r_was : r ≡ child (item_at (words_of start step.page) (item_place (step.at + 1)))
    r_was = r_is ∙ ap (λ (w : ℕ → ℕ). child (item_at w (item_place (step.at + 1)))) (above_same kept_of page_state_of words_of step was level given slots start mid h)

    lt_was : step.at + 2 ≤ words_of start step.page 1
    lt_was = subst (λ (w : ℕ → ℕ). step.at + 2 ≤ w 1) (above_same kept_of page_state_of words_of step was level given slots start mid h) lt

    two_after : AreNeighbours level (page_state_of start) (words_of start) was r
    two_after = right_neighbours kept_of page_state_of words_of step was level given slots start mid h r lt_was r_was

    pub after_readable : IsTrue (is_readable (page_state_of mid r))
    after_readable = right_readable kept_of page_state_of words_of level was r start two_after (pairs_below level (words_of mid) (pairs_of (words_of mid) given slots)) given slots mid h.node

    pub after_page : IsPage (words_of mid r)
    after_page = right_page kept_of page_state_of words_of level was r start two_after (pairs_below level (words_of mid) (pairs_of (words_of mid) given slots)) given slots mid h.node

    module _ (loaded : other ≡ map (λ j. At (item_place j) r) (range_with_len 0 (words_of mid r 1))) (e : both ≡ slots ++ other) where
      pub after_count : 6 + length slots ≤ length both
      after_count = omega (
        arith,
        left_length kept_of page_state_of words_of level was r start two_after (pairs_below level (words_of mid) (pairs_of (words_of mid) given slots)) given slots other both mid read same h.node loaded e,
        two_after.right_tree.node.enough,
        items_count (words_of start r),
      )

      pub after_in_hand : TwoInHand kept_of page_state_of words_of step.page level step.at was r given (beside (suc level) (words_of start) step (pairs_below level (words_of mid) (pairs_of (words_of mid) given slots))) both start read
      after_in_hand =
          let ps = pairs_below level (words_of mid) (pairs_of (words_of mid) given slots) in
          let rising = right_rising kept_of page_state_of words_of step was level given slots start mid h r lt_was r_was in
          let joined = left_changed kept_of page_state_of words_of level was r start two_after ps given slots other both mid read same h.node loaded e rising in
          record {
            can = (joined.below, (left_in_hand kept_of page_state_of words_of level was r start two_after ps given slots other both mid read same h.node loaded e h.ready, h.key_fits));
            are_apart = ((joined.left_is_kept, joined.left_beside), ((joined.right_is_kept, joined.right_beside), apart kept_of page_state_of words_of level was r start two_after));
            settled = λ us new packed. right_settled kept_of page_state_of words_of step was level given slots start mid h r lt_was r_was us new (joined.written us new packed);
          }

-- the same, after pages were only read
module _ {S K : Type 0} (kept_of : S → K) (page_state_of : S → ℕ → PageState) (words_of : S → ℕ → ℕ → ℕ) (step : Step) (was level : ℕ) (given : Pair) (slots : List Slot) (mid read : S) (same : IsUnchanged kept_of page_state_of words_of mid read) where
  pub child_read : (start : S) → IsChildInHand kept_of page_state_of words_of step was level given slots start mid → IsChildInHand kept_of page_state_of words_of step was level given slots start read
  child_read start h =
      let before = pages_below level (words_of start) (items_of (words_of start was)) in
      record {
        tree = h.tree;
        in_range = h.in_range;
        is_child = h.is_child;
        node = subst (λ w. Becomes kept_of page_state_of words_of before (pairs_below level w (pairs_of w given slots)) level (pairs_of w given slots) start read) (sym same.words)
            (becomes_until kept_of page_state_of words_of before (pairs_below level (words_of mid) (pairs_of (words_of mid) given slots)) level (pairs_of (words_of mid) given slots) start mid read same h.node);
        ready = ready_until kept_of page_state_of words_of slots mid read same h.ready;
        key_fits = h.key_fits;
        size = h.size;
        rising = subst (λ w. IsRising (beside (suc level) (words_of start) step (pairs_below level w (pairs_of w given slots)))) (sym same.words) h.rising;
      }

  pub settled_since : (r : Result Settled Refusal) (new : S)
      → IfOk r (λ settled. (start : S) → IsChildInHand kept_of page_state_of words_of step was level given slots start read
      → IsSettled kept_of page_state_of words_of step level given (beside (suc level) (words_of start) step (pairs_below level (words_of read) (pairs_of (words_of read) given slots))) settled start new)
      → IfOk r (λ settled. (start : S) → IsChildInHand kept_of page_state_of words_of step was level given slots start mid
      → IsSettled kept_of page_state_of words_of step level given (beside (suc level) (words_of start) step (pairs_below level (words_of mid) (pairs_of (words_of mid) given slots))) settled start new)
  settled_since r new h =
      IfOk-weaker r
      (λ settled. (start : S) → IsChildInHand kept_of page_state_of words_of step was level given slots start read
      → IsSettled kept_of page_state_of words_of step level given (beside (suc level) (words_of start) step (pairs_below level (words_of read) (pairs_of (words_of read) given slots))) settled start new)
      (λ settled. (start : S) → IsChildInHand kept_of page_state_of words_of step was level given slots start mid
      → IsSettled kept_of page_state_of words_of step level given (beside (suc level) (words_of start) step (pairs_below level (words_of mid) (pairs_of (words_of mid) given slots))) settled start new)
      (λ settled k start child.
      subst (λ w. IsSettled kept_of page_state_of words_of step level given (beside (suc level) (words_of start) step (pairs_below level w (pairs_of w given slots))) settled start new) same.words (k start (child_read start child))) h

  -- the child isn't the only one
  pub child_beside : (start : S) → IsChildInHand kept_of page_state_of words_of step was level given slots start mid → words_of mid step.page 1 ≤ step.at + 1 → 0 < step.at
  child_beside start h last =
      let n = ap (λ (w : ℕ → ℕ). w 1) (above_same kept_of page_state_of words_of step was level given slots start mid h) in
      omega (arith, n, last, h.in_range, h.tree.node.enough, items_count (words_of start step.page))
