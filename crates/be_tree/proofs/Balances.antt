-- A node that is settled on the way up a tree.
use Rattle.std.proofs.Common.{◌≡◌, ℕ, zero, suc, ◌+◌, ◌-◌, ◌<◌, ◌≤◌, ◌⊎◌, List, [], ◌∷◌, ◌++◌, Bool, true, eqb, length, get_or, map, take, drop, All, IsTrue, ap, sym, subst, ◌∙◌, refl, inl, inr, arith, length-append, length-drop}
use Rattle.std.specs.List.{take-map, drop-map}
use Rattle.std.proofs.Math.Seq.{take-length, take-suc}
use Rattle.std.proofs.lemmas.Bool.Decides.{nat_tests}
use Rattle.std.proofs.lemmas.List.{get_or-map, length-map, length-take-le, map-append, take-append-drop, take-take}
use Rattle.std.proofs.lemmas.List.Elements.{All-append}
use Rattle.std.proofs.lemmas.List.FromFn.{length-map-range_with_len}
use Rattle.be_pages.specs.declared.room.PageState.{PageState}
use Rattle.be_pages.specs.declared.room.PageState.TheVariants.{Filled, Free, GivenUp, Old, Taken}
use Rattle.be_pages.specs.Pages.{IsUnchanged, KeepsStart, after_undo, is_from_before, is_kept, times}
use Rattle.be_tree.specs.declared.path.Step.{Step}
use Rattle.be_tree.specs.declared.settling.Settled.{Settled}
use Rattle.be_tree.specs.declared.slot.Slot.{Slot}
use Rattle.be_tree.specs.declared.slot.Slot.TheVariants.{At, Branch, New}
use Rattle.be_tree.specs.declared.splicing.Cut.{Cut}
use Rattle.be_tree_reading.specs.Pair.{Pair}
use Rattle.be_tree_reading.specs.Key.{IsRising}
use Rattle.be_tree_reading.specs.Page.{IsPage, item_place, items_of, level_of}
use Rattle.be_tree.specs.Path.{BecomesNode, IsChanged, IsInHand, IsWayIn, KeepsMinimum, around, minimum_at, whole}
use Rattle.be_tree.specs.Settling.{IsAbove, IsChildInHand, IsSettled, beside}
use Rattle.be_tree.specs.Slot.{IsBranchSlot, IsOff, IsReady, branch_to, loaded, pair_of, pairs_of}
use Rattle.be_tree.specs.Splicing.{CanBeSpliced, IsSpliced, spliced}
use Rattle.be_tree_reading.specs.Tree.{Becomes, BecomesTree, IsBelow, IsTreeAt, child, pages, pages_at, pages_below, pairs_at, pairs_below}
use Rattle.be_tree.specs.Writing.{IsApart}
use Rattle.be_tree_reading.proofs.Frame.{readable_kept, swaps_same, swaps_start}
use Rattle.be_tree.proofs.Nodes.Neighbours.{ready_until}
use Rattle.be_tree_reading.proofs.Items.{items_count}
use Rattle.be_tree.proofs.Nodes.Slots.{branches_ready, child_branch, loaded_pairs, loaded_ready}
use Rattle.be_tree_reading.proofs.Putting.Puts.{becomes_until, given_up_page, kept_after}
use Rattle.be_tree.proofs.Raises.{tree_on_way}
use Rattle.be_tree.proofs.Rises.{around_is, minimum_up, node_over, over_pairs}
use Rattle.be_tree_reading.proofs.Shape.Below.{all_left, all_right, below_left, below_right, child_page, times_pages}
use Rattle.be_tree_reading.proofs.Shape.Roots.{tree_over}
use Rattle.be_tree.proofs.Ways.{IsPopped, rising_inside, step_leads, way_pop, whole_push}

-- lists in which others replace a cut
pub map_spliced : {A B : Type 0} (f : A → B) (cut : Cut) (xs more : List A) → map f (spliced cut xs more) ≡ spliced cut (map f xs) (map f more)
map_spliced f cut xs more =
    map-append f (take cut.at xs) (more ++ drop (cut.at + cut.gone) xs)
    ∙ ap (λ ys. map f (take cut.at xs) ++ ys) (map-append f more (drop (cut.at + cut.gone) xs))
    ∙ ap (λ ys. ys ++ (map f more ++ map f (drop (cut.at + cut.gone) xs))) (sym (take-map f cut.at xs))
    ∙ ap (λ ys. take cut.at (map f xs) ++ (map f more ++ ys)) (sym (drop-map f (cut.at + cut.gone) xs))

pub all_spliced : {A : Type 0} (P : A → Type 0) (cut : Cut) (xs more : List A) → All P xs → All P more → All P (spliced cut xs more)
all_spliced P cut xs more all new =
    All-append P (take cut.at xs) (more ++ drop (cut.at + cut.gone) xs) (all_left P (take cut.at xs) (drop cut.at xs) (subst (All P) (sym (take-append-drop cut.at xs)) all))
    (All-append P more (drop (cut.at + cut.gone) xs) new (all_right P (take (cut.at + cut.gone) xs) (drop (cut.at + cut.gone) xs) (subst (All P) (sym (take-append-drop (cut.at + cut.gone) xs)) all)))

length_slots : {A : Type 0} (cut : Cut) (xs more : List A) → cut.at + cut.gone ≤ length xs → length (spliced cut xs more) + cut.gone ≡ length xs + length more
length_slots cut xs more in_range =
    omega (arith, in_range, length-append (take cut.at xs) (more ++ drop (cut.at + cut.gone) xs), length-append more (drop (cut.at + cut.gone) xs), length-take-le cut.at xs (omega (arith, in_range)), length-drop (cut.at + cut.gone) xs)

pub loaded_length : (page n : ℕ) → length (loaded page n) ≡ n
loaded_length page n = length-map-range_with_len (λ (j : ℕ). At (item_place j) page) 0 n

-- how many items a page other than the root keeps
pub minimum_six : (above : List Step) (level : ℕ) → 0 < length above → minimum_at above level ≡ 6
minimum_six [] level some = absurd (omega (arith, some))
minimum_six (s ∷ below) level some = refl

-- what was there when the write began is still there after another change
begun_before : (s t : PageState) → after_undo t ≡ after_undo s → IsTrue (is_from_before s) → IsTrue (is_from_before t)
begun_before s t e old = same t ∙ ap is_from_before e ∙ sym (same s) ∙ old
  where
    same : (s : PageState) → is_from_before s ≡ is_from_before (after_undo s)
    same Free = refl
    same Old = refl
    same GivenUp = refl
    same Taken = refl
    same Filled = refl

pub start_back : {S K : Type 0} (kept_of : S → K) (page_state_of : S → ℕ → PageState) (words_of : S → ℕ → ℕ → ℕ) (start mid new : S) → KeepsStart kept_of page_state_of words_of start mid → KeepsStart kept_of page_state_of words_of start new → KeepsStart kept_of page_state_of words_of mid new
start_back kept_of page_state_of words_of start mid new one other = record {
  kept = other.kept ∙ sym one.kept;
  undone = λ q. other.undone q ∙ sym (one.undone q);
  words = λ q old.
      let begun = begun_before (page_state_of mid q) (page_state_of start q) (sym (one.undone q)) old in
      other.words q begun ∙ sym (one.words q begun);
}

module _ {S K : Type 0} (kept_of : S → K) (page_state_of : S → ℕ → PageState) (words_of : S → ℕ → ℕ → ℕ) (root : ℕ) (front : List Step) (step : Step) (was level : ℕ) (given : Pair) (slots : List Slot) (start mid : S)
    (h : IsInHand kept_of page_state_of words_of root (front ++ step ∷ []) was given slots level start mid) where
  popped : IsPopped (words_of start) (root - 1) front step was
  popped = way_pop (words_of start) (root - 1) front step was h.way.way

  pub front_way : IsWayIn (page_state_of start) (words_of start) root front step.page
  front_way = record { tree = h.way.tree; some = h.way.some; way = popped.way }

  pub up : level_of (words_of start step.page) ≡ suc level
  up =
      let tree = tree_on_way (page_state_of start) (words_of start) root front step.page front_way in
      (step_leads (page_state_of start) (words_of start) step.page (minimum_at front (level_of (words_of start step.page))) step popped.here tree).level_is
      ∙ ap (λ p. suc (level_of (words_of start p))) popped.next ∙ ap suc h.at_level

  pub above_tree : IsTreeAt (suc level) (minimum_at front (suc level)) (page_state_of start) (words_of start) step.page
  above_tree = subst (λ n. IsTreeAt n (minimum_at front n) (page_state_of start) (words_of start) step.page) up (tree_on_way (page_state_of start) (words_of start) root front step.page front_way)

  minimum_two : (xs : List Step) → 2 ≤ minimum_at xs (suc level)
  minimum_two [] = omega arith
  minimum_two (s ∷ below) = omega arith

  around_beside : (ps : List Pair) → around (words_of start) step ps ≡ beside (suc level) (words_of start) step ps
  around_beside ps = around_is (words_of start) step.page (suc level) step ps refl up

  pub whole_beside : (ps : List Pair) → whole (words_of start) (front ++ step ∷ []) ps ≡ whole (words_of start) front (beside (suc level) (words_of start) step ps)
  whole_beside ps = whole_push (words_of start) front step ps ∙ ap (whole (words_of start) front) (around_beside ps)

  -- the node is an unwritten child
  pub child_in_hand : 5 ≤ length slots → length slots ≤ 13 → IsChildInHand kept_of page_state_of words_of step was level given slots start mid
  child_in_hand some few =
      let ps = pairs_below level (words_of mid) (pairs_of (words_of mid) given slots) in
      record {
        tree = record {
          node = record { is_page = above_tree.node.is_page; at_level = above_tree.node.at_level; enough = omega (arith, above_tree.node.enough, minimum_two front) };
          below = above_tree.below;
          page_once = above_tree.page_once;
          page_in_use = above_tree.page_in_use;
        };
        in_range = popped.here.in_range;
        is_child = popped.next;
        node = h.node;
        ready = h.ready;
        key_fits = h.key_fits;
        size = (some, few);
        rising = rising_inside (words_of start) front (beside (suc level) (words_of start) step ps) (subst IsRising (whole_beside ps) h.rising);
      }

  -- after the node was settled
  module _ (settled : Settled) (new : S) (s : IsSettled kept_of page_state_of words_of step level given (beside (suc level) (words_of start) step (pairs_below level (words_of mid) (pairs_of (words_of mid) given slots))) settled start new) where
    now_same : words_of new step.page ≡ words_of start step.page
    now_same =
        swaps_same kept_of page_state_of words_of (pages_below (suc level) (words_of start) (items_of (words_of start step.page)))
        (pages_below (suc level) (words_of new) (spliced settled.cut (items_of (words_of start step.page)) (pairs_of (words_of new) given settled.branches.items))) start new s.becomes.swaps step.page above_tree.page_once
        (readable_kept (page_state_of start step.page) above_tree.page_in_use)

    pub now_page : IsPage (words_of new step.page)
    now_page = subst IsPage (sym now_same) above_tree.node.is_page

    pub now_kept : IsTrue (is_kept (page_state_of new step.page))
    now_kept =
        kept_after kept_of page_state_of words_of (pages_below (suc level) (words_of start) (items_of (words_of start step.page)))
        (pages_below (suc level) (words_of new) (spliced settled.cut (items_of (words_of start step.page)) (pairs_of (words_of new) given settled.branches.items))) step.page start new s.becomes.swaps above_tree.page_once above_tree.page_in_use

    pub now_range : settled.cut.at + settled.cut.gone ≤ words_of new step.page 1
    now_range = subst (λ (w : ℕ → ℕ). settled.cut.at + settled.cut.gone ≤ w 1) (sym now_same) s.in_range

    pub now_count : words_of new step.page 1 ≡ words_of start step.page 1
    now_count = ap (λ (w : ℕ → ℕ). w 1) now_same

    -- how many items the page then has
    pub settled_count : length (spliced settled.cut (items_of (words_of start step.page)) (pairs_of (words_of new) given settled.branches.items)) + settled.cut.gone ≡ words_of new step.page 1 + length settled.branches.items
    settled_count = omega (
      arith,
      length_slots settled.cut (items_of (words_of start step.page)) (pairs_of (words_of new) given settled.branches.items) (omega (arith, s.in_range, items_count (words_of start step.page))),
      items_count (words_of start step.page),
      length-map settled.branches.items (pair_of (words_of new) given),
      now_count,
    )

    -- what was there when the write began is still there
    pub settled_start : KeepsStart kept_of page_state_of words_of mid new
    settled_start =
        let before = pages_below (suc level) (words_of start) (items_of (words_of start step.page)) in
        let after = pages_below (suc level) (words_of new) (spliced settled.cut (items_of (words_of start step.page)) (pairs_of (words_of new) given settled.branches.items)) in
        start_back kept_of page_state_of words_of start mid new
        (swaps_start kept_of page_state_of words_of (pages_below level (words_of start) (items_of (words_of start was))) (pages_below level (words_of mid) (pairs_of (words_of mid) given slots)) start mid h.node.swaps)
        (swaps_start kept_of page_state_of words_of before after start new s.becomes.swaps)

    branches_below : IsBelow (suc level) (page_state_of new) (words_of new) (pairs_of (words_of new) given settled.branches.items)
    branches_below =
        let items = items_of (words_of start step.page) in
        let us = pairs_of (words_of new) given settled.branches.items in
        let zs = drop (settled.cut.at + settled.cut.gone) items in
        below_left (suc level) (page_state_of new) (words_of new) us zs (below_right (suc level) (page_state_of new) (words_of new) (take settled.cut.at items) (us ++ zs) s.becomes.below)

    pub now_ready : All (IsReady (page_state_of new) (words_of new)) settled.branches.items
    now_ready = branches_ready level (page_state_of new) (words_of new) given settled.branches.items s.branches branches_below

    none_now : times step.page (pages_below (suc level) (words_of new) (pairs_of (words_of new) given settled.branches.items)) ≡ 0
    none_now =
        let items = items_of (words_of start step.page) in
        let us = pairs_of (words_of new) given settled.branches.items in
        let zs = drop (settled.cut.at + settled.cut.gone) items in
        omega (
          arith,
          given_up_page kept_of page_state_of words_of (pages_below (suc level) (words_of start) items) (pages_below (suc level) (words_of new) (spliced settled.cut items us)) step.page start new s.becomes.swaps above_tree.page_once above_tree.page_in_use,
          times_pages (suc level) (words_of new) (take settled.cut.at items) (us ++ zs) step.page,
          times_pages (suc level) (words_of new) us zs step.page,
        )

    now_off : All (IsOff step.page) settled.branches.items
    now_off i d lt =
        let us = pairs_of (words_of new) given settled.branches.items in
        let f = pair_of (words_of new) given in
        off (get_or settled.branches.items i d) (s.branches i d lt)
        (subst (λ (b : Pair). 0 < times (child b) (pages_below (suc level) (words_of new) us)) (get_or-map f settled.branches.items i d given lt)
        (child_page level (words_of new) us i given (omega (arith, lt, length-map settled.branches.items f))))
      where
        off : (slot : Slot) → IsBranchSlot slot → 0 < times (child (pair_of (words_of new) given slot)) (pages_below (suc level) (words_of new) (pairs_of (words_of new) given settled.branches.items)) → IsOff step.page slot
        off (At at page) is some = absurd is
        off (Branch page) is some = λ e.
            let here : child (branch_to (words_of new) page) ≡ step.page = child_branch (words_of new) page is ∙ e in
            omega (arith, none_now, some, ap (λ p. times p (pages_below (suc level) (words_of new) (pairs_of (words_of new) given settled.branches.items))) here)
        off New is some = absurd is

    -- the branches can be put into the page above, if there aren't too many
    pub can_settle : words_of new step.page 1 + length settled.branches.items ≤ 12 + settled.cut.gone → CanBeSpliced (page_state_of new) (words_of new) step.page settled.cut given settled.branches.items
    can_settle few = record { is_page = now_page; in_use = now_kept; in_range = now_range; few = few; ready = now_ready; off = now_off; key_fits = h.key_fits }

    -- and they were put there
    module _ (to : ℕ) (last : S) (put : IsSpliced kept_of page_state_of words_of step.page settled.cut given settled.branches.items to new last)
        (enough : minimum_at front (suc level) ≤ length (spliced settled.cut (items_of (words_of start step.page)) (pairs_of (words_of new) given settled.branches.items))) where
      items_are : items_of (words_of last to) ≡ spliced settled.cut (items_of (words_of start step.page)) (pairs_of (words_of new) given settled.branches.items)
      items_are = put.has_items ∙ ap (λ w. spliced settled.cut (items_of w) (pairs_of (words_of new) given settled.branches.items)) now_same

      all_pairs : pairs_at (suc level) (words_of last) to ≡ beside (suc level) (words_of start) step (pairs_below level (words_of mid) (pairs_of (words_of mid) given slots))
      all_pairs =
          over_pairs kept_of page_state_of words_of (pages_below (suc level) (words_of start) (items_of (words_of start step.page))) (beside (suc level) (words_of start) step (pairs_below level (words_of mid) (pairs_of (words_of mid) given slots)))
          (suc level) (minimum_at front (suc level)) step.page to (spliced settled.cut (items_of (words_of start step.page)) (pairs_of (words_of new) given settled.branches.items)) start new last s.becomes above_tree.page_once above_tree.below.once above_tree.page_in_use
          enough put.is_page (put.same_level ∙ ap level_of now_same ∙ up) items_are put.swaps

      all_node : BecomesNode kept_of page_state_of words_of (pages_at (suc level) (words_of start) step.page) (suc level) (minimum_at front (suc level)) to start last
      all_node =
          node_over kept_of page_state_of words_of (pages_below (suc level) (words_of start) (items_of (words_of start step.page))) (beside (suc level) (words_of start) step (pairs_below level (words_of mid) (pairs_of (words_of mid) given slots)))
          (suc level) (minimum_at front (suc level)) step.page to (spliced settled.cut (items_of (words_of start step.page)) (pairs_of (words_of new) given settled.branches.items)) start new last s.becomes above_tree.page_once above_tree.below.once above_tree.page_in_use
          enough put.is_page (put.same_level ∙ ap level_of now_same ∙ up) items_are put.swaps

      pub settled_whole : whole (words_of start) front (pairs_at (suc level) (words_of last) to) ≡ whole (words_of start) (front ++ step ∷ []) (pairs_below level (words_of mid) (pairs_of (words_of mid) given slots))
      settled_whole = ap (whole (words_of start) front) all_pairs ∙ sym (whole_beside (pairs_below level (words_of mid) (pairs_of (words_of mid) given slots)))

      pub settled_changed : (b : Bool) → (b ≡ true → 0 < settled.cut.at) → IsChanged kept_of page_state_of words_of root front (record { was = step.page; page = to; same_minimum = b }) (suc level) start last
      settled_changed b how = record {
        way = front_way;
        at_level = up;
        node = all_node;
        least = λ e. subst (KeepsMinimum (pairs_at (suc level) (words_of start) step.page)) (sym all_pairs)
            (minimum_up level (minimum_at front (suc level)) step.page step.at (page_state_of start) (words_of start) above_tree popped.here.in_range (pairs_below level (words_of mid) (pairs_of (words_of mid) given slots)) (inl (omega (arith, how e, s.before))));
        rising = subst IsRising (sym settled_whole) h.rising;
      }

      pub settled_at : (b : Bool) → (b ≡ true → 0 < settled.cut.at) → IsChanged kept_of page_state_of words_of root front (record { was = step.page; page = to; same_minimum = b }) (level_of (words_of start step.page)) start last
      settled_at b how = subst (λ n. IsChanged kept_of page_state_of words_of root front (record { was = step.page; page = to; same_minimum = b }) n start last) (sym up) (settled_changed b how)

      pub settled_tree : (new_root : ℕ) (final : S) → BecomesTree kept_of page_state_of words_of (pages (words_of start) root) (whole (words_of start) front (pairs_at (level_of (words_of start step.page)) (words_of last) to)) new_root start final
          → BecomesTree kept_of page_state_of words_of (pages (words_of start) root) (whole (words_of start) (front ++ step ∷ []) (pairs_below level (words_of mid) (pairs_of (words_of mid) given slots))) new_root start final
      settled_tree new_root final h =
          subst (λ qs. BecomesTree kept_of page_state_of words_of (pages (words_of start) root) qs new_root start final) (ap (λ n. whole (words_of start) front (pairs_at n (words_of last) to)) up ∙ settled_whole) h

    -- the page above is now an unwritten node
    module _ (out : List Slot) (read : S) (same : IsUnchanged kept_of page_state_of words_of new read) (is : out ≡ spliced settled.cut (loaded step.page (words_of new step.page 1)) settled.branches.items) where
      out_pairs : pairs_of (words_of read) given out ≡ spliced settled.cut (items_of (words_of start step.page)) (pairs_of (words_of new) given settled.branches.items)
      out_pairs =
          let f = pair_of (words_of new) given in
          let xs = loaded step.page (words_of new step.page 1) in
          let bs = settled.branches.items in
          let all : pairs_of (words_of new) given xs ≡ items_of (words_of start step.page) = loaded_pairs (words_of new) given step.page (words_of new step.page 1) refl ∙ ap items_of now_same in
          ap (λ w. pairs_of w given out) same.words ∙ ap (pairs_of (words_of new) given) is ∙ map_spliced f settled.cut xs bs ∙ ap (λ ys. spliced settled.cut ys (map f bs)) all

      out_ready : All (IsReady (page_state_of read) (words_of read)) out
      out_ready =
          subst (λ st. All (IsReady st (words_of read)) out) (sym same.page_state) (subst (λ w. All (IsReady (page_state_of new) w) out) (sym same.words)
          (subst (All (IsReady (page_state_of new) (words_of new))) (sym is)
          (all_spliced (IsReady (page_state_of new) (words_of new)) settled.cut (loaded step.page (words_of new step.page 1)) settled.branches.items
          (loaded_ready (page_state_of new) (words_of new) step.page (words_of new step.page 1) refl (readable_kept (page_state_of new step.page) now_kept) now_page) now_ready)))

      out_count : length out + settled.cut.gone ≡ words_of start step.page 1 + length settled.branches.items
      out_count = omega (
        arith,
        ap length is,
        length_slots settled.cut (loaded step.page (words_of new step.page 1)) settled.branches.items (omega (arith, now_range, loaded_length step.page (words_of new step.page 1))),
        loaded_length step.page (words_of new step.page 1),
        now_count,
      )

      out_has : pairs_below (suc level) (words_of read) (pairs_of (words_of read) given out) ≡ beside (suc level) (words_of start) step (pairs_below level (words_of mid) (pairs_of (words_of mid) given slots))
      out_has = ap (pairs_below (suc level) (words_of read)) out_pairs
          ∙ ap (λ w. pairs_below (suc level) w (spliced settled.cut (items_of (words_of start step.page)) (pairs_of (words_of new) given settled.branches.items))) same.words ∙ s.becomes.has_pairs

      out_whole : whole (words_of start) front (pairs_below (suc level) (words_of read) (pairs_of (words_of read) given out)) ≡ whole (words_of start) (front ++ step ∷ []) (pairs_below level (words_of mid) (pairs_of (words_of mid) given slots))
      out_whole = ap (whole (words_of start) front) out_has ∙ sym (whole_beside (pairs_below level (words_of mid) (pairs_of (words_of mid) given slots)))

      out_in_hand : IsInHand kept_of page_state_of words_of root front step.page given out (suc level) start read
      out_in_hand =
          let before = pages_below (suc level) (words_of start) (items_of (words_of start step.page)) in
          let us = spliced settled.cut (items_of (words_of start step.page)) (pairs_of (words_of new) given settled.branches.items) in
          let until = becomes_until kept_of page_state_of words_of before (beside (suc level) (words_of start) step (pairs_below level (words_of mid) (pairs_of (words_of mid) given slots))) (suc level) us start new read same s.becomes in
          record {
            way = front_way;
            at_level = up;
            node = subst (λ qs. Becomes kept_of page_state_of words_of before qs (suc level) (pairs_of (words_of read) given out) start read) (sym out_has)
                (subst (λ xs. Becomes kept_of page_state_of words_of before (beside (suc level) (words_of start) step (pairs_below level (words_of mid) (pairs_of (words_of mid) given slots))) (suc level) xs start read) (sym out_pairs) until);
            ready = out_ready;
            key_fits = h.key_fits;
            rising = subst IsRising (sym out_whole) h.rising;
          }

      pub out_above : (all : List Pair) → whole (words_of start) (front ++ step ∷ []) (pairs_below level (words_of mid) (pairs_of (words_of mid) given slots)) ≡ all → IsAbove kept_of page_state_of words_of root front step.page given out all start read
      out_above all is_all = record {
        in_hand = subst (λ n. IsInHand kept_of page_state_of words_of root front step.page given out n start read) (sym up) out_in_hand;
        same = ap (λ n. whole (words_of start) front (pairs_below n (words_of read) (pairs_of (words_of read) given out))) up ∙ out_whole ∙ is_all;
        few = omega (arith, out_count, s.gone, s.some, above_tree.node.is_page.few);
        some = λ some. omega (arith, out_count, s.gone, s.some, above_tree.node.enough, minimum_six front (suc level) some, items_count (words_of start step.page));
      }

-- or a node that may be the root
pub minimum_front : (above : List Step) (m level n : ℕ) → m < length above → 2 ≤ n → (eqb m 0 ≡ true) ⊎ (6 ≤ n) → minimum_at (take m above) (suc level) ≤ n
minimum_front above zero level n lt two six = omega (arith, two)
minimum_front [] (suc m) level n lt two six = absurd (omega (arith, lt))
minimum_front (s ∷ below) (suc m) level n lt two six = elim six [
  | inl e ↦ absurd (not_zero m e)
  | inr many ↦ many
]
  where
    not_zero : (m : ℕ) → eqb (suc m) 0 ≡ true → ⊥
    not_zero m e = grind (arith, nat_tests)

module _ {S K : Type 0} (kept_of : S → K) (page_state_of : S → ℕ → PageState) (words_of : S → ℕ → ℕ → ℕ) (root : ℕ) (above : List Step) (was level : ℕ) (given : Pair) (slots : List Slot) (start mid : S)
    (h : IsInHand kept_of page_state_of words_of root above was given slots level start mid) where
  pub hand_tree_at : IsTreeAt level (minimum_at above level) (page_state_of start) (words_of start) was
  hand_tree_at = subst (λ n. IsTreeAt n (minimum_at above n) (page_state_of start) (words_of start) was) h.at_level (tree_on_way (page_state_of start) (words_of start) root above was h.way)

  -- the node's page still has its words
  pub hand_same : words_of mid was ≡ words_of start was
  hand_same =
      swaps_same kept_of page_state_of words_of (pages_below level (words_of start) (items_of (words_of start was))) (pages_below level (words_of mid) (pairs_of (words_of mid) given slots)) start mid h.node.swaps was hand_tree_at.page_once
      (readable_kept (page_state_of start was) hand_tree_at.page_in_use)

  pub hand_apart : IsApart page_state_of words_of mid level given slots was
  hand_apart =
      let before = pages_below level (words_of start) (items_of (words_of start was)) in
      let after = pages_below level (words_of mid) (pairs_of (words_of mid) given slots) in
      (kept_after kept_of page_state_of words_of before after was start mid h.node.swaps hand_tree_at.page_once hand_tree_at.page_in_use, given_up_page kept_of page_state_of words_of before after was start mid h.node.swaps hand_tree_at.page_once hand_tree_at.page_in_use)

  -- after pages were only read
  pub hand_read : (read : S) → IsUnchanged kept_of page_state_of words_of mid read → IsInHand kept_of page_state_of words_of root above was given slots level start read
  hand_read read same =
      let before = pages_below level (words_of start) (items_of (words_of start was)) in
      record {
        way = h.way;
        at_level = h.at_level;
        node = subst (λ w. Becomes kept_of page_state_of words_of before (pairs_below level w (pairs_of w given slots)) level (pairs_of w given slots) start read) (sym same.words)
            (becomes_until kept_of page_state_of words_of before (pairs_below level (words_of mid) (pairs_of (words_of mid) given slots)) level (pairs_of (words_of mid) given slots) start mid read same h.node);
        ready = ready_until kept_of page_state_of words_of slots mid read same h.ready;
        key_fits = h.key_fits;
        rising = subst (λ w. IsRising (whole (words_of start) above (pairs_below level w (pairs_of w given slots)))) (sym same.words) h.rising;
      }

-- a root's node that was written
pub hand_rest : {S K : Type 0} (kept_of : S → K) (page_state_of : S → ℕ → PageState) (words_of : S → ℕ → ℕ → ℕ) (root : ℕ) (above : List Step) (was level : ℕ) (given : Pair) (slots : List Slot) (start mid : S)
    → IsInHand kept_of page_state_of words_of root above was given slots level start mid → above ≡ [] → (new_root : ℕ) (new : S)
    → BecomesTree kept_of page_state_of words_of (was ∷ pages_below level (words_of mid) (pairs_of (words_of mid) given slots)) (pairs_below level (words_of mid) (pairs_of (words_of mid) given slots)) new_root mid new
    → BecomesTree kept_of page_state_of words_of (pages (words_of start) root) (whole (words_of start) above (pairs_below level (words_of mid) (pairs_of (words_of mid) given slots))) new_root start new
hand_rest kept_of page_state_of words_of root [] was level given slots start mid h empty new_root new written =
    let tree = hand_tree_at kept_of page_state_of words_of root [] was level given slots start mid h in
    let ps = pairs_below level (words_of mid) (pairs_of (words_of mid) given slots) in
    let over = tree_over kept_of page_state_of words_of (pages_below level (words_of start) (items_of (words_of start was))) ps level was (pairs_of (words_of mid) given slots) new_root start mid new h.node tree.page_once tree.below.once tree.page_in_use written in
    let e : suc (root - 1) ≡ root = omega (arith, h.way.some) in
    subst (λ qs. BecomesTree kept_of page_state_of words_of qs ps new_root start new)
    (ap (λ n. pages_at n (words_of start) was) (sym h.at_level) ∙ ap (λ p. pages (words_of start) (suc p)) (sym h.way.way) ∙ ap (pages (words_of start)) e) over
hand_rest kept_of page_state_of words_of root (s ∷ below) was level given slots start mid h empty new_root new written = absurd (omega (arith, ap length empty))

-- what was settled, after pages were only read
pub settled_read : {S K : Type 0} (kept_of : S → K) (page_state_of : S → ℕ → PageState) (words_of : S → ℕ → ℕ → ℕ) (step : Step) (level : ℕ) (given : Pair) (all : List Pair) (settled : Settled) (start new read : S) → IsUnchanged kept_of page_state_of words_of new read
    → IsSettled kept_of page_state_of words_of step level given all settled start new → IsSettled kept_of page_state_of words_of step level given all settled start read
settled_read kept_of page_state_of words_of step level given all settled start new read same s =
    let before = pages_below (suc level) (words_of start) (items_of (words_of start step.page)) in
    let us = λ (w : ℕ → ℕ → ℕ). spliced settled.cut (items_of (words_of start step.page)) (pairs_of w given settled.branches.items) in
    record {
      in_range = s.in_range;
      gone = s.gone;
      some = s.some;
      before = s.before;
      branches = s.branches;
      becomes = subst (λ w. Becomes kept_of page_state_of words_of before all (suc level) (us w) start read) (sym same.words) (becomes_until kept_of page_state_of words_of before all (suc level) (us (words_of new)) start new read same s.becomes);
    }

-- the lowest step
pub last_step : (xs : List Step) → 0 < length xs → take (length xs - 1) xs ++ get_or xs (length xs - 1) (record { page = 0; at = 0 }) ∷ [] ≡ xs
last_step xs some =
    let e : suc (length xs - 1) ≡ length xs = omega (arith, some) in
    sym (take-suc xs (length xs - 1) (record { page = 0; at = 0 }) (omega (arith, some))) ∙ ap (λ n. take n xs) e ∙ take-length xs

-- the steps above it
pub steps_above : (xs : List Step) (i : ℕ) → i < length xs → take (length (take (length xs - i) xs) - 1) (take (length xs - i) xs) ≡ take (length xs - (i + 1)) xs
steps_above xs i lt =
    let e : length (take (length xs - i) xs) - 1 ≡ length xs - (i + 1) = omega (arith, length-take-le (length xs - i) xs (omega arith)) in
    ap (λ n. take n (take (length xs - i) xs)) e ∙ take-take (length xs - (i + 1)) (length xs - i) xs (omega arith)

-- an unwritten node after its page's level was read
module _ {S K : Type 0} (kept_of : S → K) (page_state_of : S → ℕ → PageState) (words_of : S → ℕ → ℕ → ℕ) (root : ℕ) (above : List Step) (was level : ℕ) (given : Pair) (slots : List Slot) (room read : S)
    (same : IsUnchanged kept_of page_state_of words_of room read) (is : level ≡ words_of room was 0) (start : S) (h : IsInHand kept_of page_state_of words_of root above was given slots (level_of (words_of start was)) start room) where
  level_is : level_of (words_of start was) ≡ level
  level_is = sym (is ∙ ap (λ (w : ℕ → ℕ). w 0) (hand_same kept_of page_state_of words_of root above was (level_of (words_of start was)) given slots start room h))

  pub read_hand : IsInHand kept_of page_state_of words_of root above was given slots level start read
  read_hand =
      subst (λ n. IsInHand kept_of page_state_of words_of root above was given slots n start read) level_is
      (hand_read kept_of page_state_of words_of root above was (level_of (words_of start was)) given slots start room h read same)

  -- its pairs make the same tree
  pub read_same : whole (words_of start) above (pairs_below level (words_of read) (pairs_of (words_of read) given slots)) ≡ whole (words_of start) above (pairs_below (level_of (words_of start was)) (words_of room) (pairs_of (words_of room) given slots))
  read_same =
      ap (λ n. whole (words_of start) above (pairs_below n (words_of read) (pairs_of (words_of read) given slots))) (sym level_is)
      ∙ ap (λ w. whole (words_of start) above (pairs_below (level_of (words_of start was)) w (pairs_of w given slots))) same.words

  module _ (some : 0 < length above) where
    pub once_hand : IsInHand kept_of page_state_of words_of root (take (length above - 1) above ++ get_or above (length above - 1) (record { page = 0; at = 0 }) ∷ []) was given slots level start read
    once_hand = subst (λ xs. IsInHand kept_of page_state_of words_of root xs was given slots level start read) (sym (last_step above some)) read_hand

    pub once_same : whole (words_of start) (take (length above - 1) above ++ get_or above (length above - 1) (record { page = 0; at = 0 }) ∷ []) (pairs_below level (words_of read) (pairs_of (words_of read) given slots))
        ≡ whole (words_of start) above (pairs_below (level_of (words_of start was)) (words_of room) (pairs_of (words_of room) given slots))
    once_same = ap (λ xs. whole (words_of start) xs (pairs_below level (words_of read) (pairs_of (words_of read) given slots))) (last_step above some) ∙ read_same

-- what was there for one unwritten node is there for another
pub hands_start : {S K : Type 0} (kept_of : S → K) (page_state_of : S → ℕ → PageState) (words_of : S → ℕ → ℕ → ℕ) (root : ℕ) (above then : List Step) (was page : ℕ) (given : Pair) (slots out : List Slot) (level up : ℕ) (start mid new : S)
    → IsInHand kept_of page_state_of words_of root above was given slots level start mid → IsInHand kept_of page_state_of words_of root then page given out up start new → KeepsStart kept_of page_state_of words_of mid new
hands_start kept_of page_state_of words_of root above then was page given slots out level up start mid new one other =
    start_back kept_of page_state_of words_of start mid new
    (swaps_start kept_of page_state_of words_of (pages_below level (words_of start) (items_of (words_of start was))) (pages_below level (words_of mid) (pairs_of (words_of mid) given slots)) start mid one.node.swaps)
    (swaps_start kept_of page_state_of words_of (pages_below up (words_of start) (items_of (words_of start page))) (pages_below up (words_of new) (pairs_of (words_of new) given out)) start new other.node.swaps)
