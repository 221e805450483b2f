-- A changed leaf at the end of a path.
use Rattle.std.proofs.Common.{◌≡◌, ◌≢◌, ℕ, zero, suc, ◌+◌, ◌-◌, ◌<◌, ◌≤◌, List, [], ◌∷◌, ◌++◌, Bool, true, length, get_or, take, drop, All, IfOk, IfErr, Ok, Err, None, is_some, ap, sym, subst, ◌∙◌, refl, arith, append_assoc, if◌then◌else◌, length-append, length-drop}
use Rattle.std.specs.declared.cmp.Ordering.TheVariants.{Equal, Greater}
use Rattle.std.specs.List.{flat_map}
use Rattle.std.specs.Ordering.{is_eq}
use Rattle.std.proofs.Math.Seq.{take-suc}
use mathlib.Core.Bool.{false≢true}
use Rattle.std.proofs.lemmas.List.{get_or_default, length-take-le}
use Rattle.be_pages.specs.declared.room.PageState.{PageState}
use Rattle.be_pages.specs.Pages.{IsUnchanged, Swaps}
use Rattle.be_tree.specs.declared.path.Path.{Path}
use Rattle.be_tree.specs.declared.path.Step.{Step}
use Rattle.be_tree.specs.declared.slot.Slot.{Slot}
use Rattle.be_tree.specs.declared.splicing.Cut.{Cut}
use Rattle.be_tree_reading.specs.Pair.{Pair}
use Rattle.be_tree_reading.specs.Key.{IsBranchFor, IsGap, IsRising, key_cmp, payload_at, put, put_before, without}
use Rattle.be_tree_reading.specs.Page.{item_at, item_place, items_of, level_of}
use Rattle.be_tree.specs.Path.{BecomesNode, IsChanged, IsInHand, IsPathTo, IsWayIn, KeepsMinimum, minimum_at, whole}
use Rattle.be_tree.specs.Slot.{IsReady, pairs_of}
use Rattle.be_tree.specs.Splicing.{IsSpliced, spliced}
use Rattle.be_tree_reading.specs.Tree.{BecomesTree, IsBelow, IsTreeAt, minimum_of_root, pages, pairs, pairs_at, pairs_below}
use Rattle.be_tree_reading.proofs.Frame.{one_page, swaps_since}
use Rattle.be_tree_reading.proofs.Items.{item_get, items_count}
use Rattle.be_tree_reading.proofs.Order.{key_exact}
use Rattle.be_tree_reading.proofs.Putting.Puts.{put_at_item}
use Rattle.be_tree.proofs.Raises.{top, tree_on_way}
use Rattle.be_tree_reading.proofs.Reading.Cursors.{root_pairs}
use Rattle.be_tree.proofs.Removing.Clears.{swaps_none}
use Rattle.be_tree.proofs.Removing.Removes.{without_split}
use Rattle.be_tree.proofs.Rises.{node_written}
use Rattle.be_tree_reading.proofs.Searching.{found_equal, found_gap, rank_of_equal, rank_of_gap}
use Rattle.be_tree_reading.proofs.Shape.Roots.{root_some}
use Rattle.be_tree_reading.proofs.TreeFacts.{IsSplit, as_branches, leaf_split, page_keys}
use Rattle.be_tree.proofs.Ways.{change_down, payload_down, put_goes, rising_inside, without_goes}

put_first : (pair : Pair) (items : List Pair) → ((d : Pair) → 0 < length items → key_cmp (get_or items 0 d).key pair.key ≡ Greater) → put pair items ≡ pair ∷ items
put_first pair [] above = refl
put_first pair (x ∷ xs) above = ap (λ r. put_before r pair x xs (put pair xs)) (above x (omega arith))

-- putting a pair into a leaf's items
module _ (page_state : ℕ → PageState) (words : ℕ → ℕ → ℕ) (items : List Pair) (below : IsBelow 0 page_state words items) (pair : Pair) where
  pub put_equal : (at : ℕ) → at < length items → key_cmp (get_or items at pair).key pair.key ≡ Equal → put pair items ≡ spliced (record { at = at; gone = 1 }) items (pair ∷ [])
  put_equal at lt same =
      let item = get_or items at pair in
      let e : suc at ≡ at + 1 = omega arith in
      (put_at_item 0 page_state words items pair (suc at) at item below (omega (arith, lt)) (rank_of_equal items below.rising pair.key at pair lt same) (omega arith) (get_or_default items at pair item lt)).all
      ∙ ap (λ r. take at items ++ (put_before r pair item [] (pair ∷ []) ++ drop (suc at) items)) same
      ∙ ap (λ n. take at items ++ (pair ∷ drop n items)) e

  pub put_gap : (r : ℕ) → IsGap pair.key items r → put pair items ≡ spliced (record { at = r; gone = 0 }) items (pair ∷ [])
  put_gap zero gap = put_first pair items gap.above
  put_gap (suc m) gap =
      let item = get_or items m pair in
      let lt : m < length items = omega (arith, gap.in_range) in
      let e : suc m ≡ suc m + 0 = omega arith in
      (put_at_item 0 page_state words items pair (suc m) m item below (omega (arith, lt)) (rank_of_gap pair.key items (suc m) gap) (omega arith) (get_or_default items m pair item lt)).all
      ∙ ap (λ r. take m items ++ (put_before r pair item [] (pair ∷ []) ++ drop (suc m) items)) (gap.below m pair refl)
      ∙ sym (append_assoc (take m items) (item ∷ []) (pair ∷ drop (suc m) items))
      ∙ ap (λ xs. xs ++ (pair ∷ drop (suc m) items)) (sym (take-suc items m pair lt))
      ∙ ap (λ n. take (suc m) items ++ (pair ∷ drop n items)) e

-- removing a key from them
pub without_equal : (items : List Pair) → IsRising items → (k : List ℕ) (at : ℕ) (d : Pair) → at < length items → key_cmp (get_or items at d).key k ≡ Equal → without k items ≡ spliced (record { at = at; gone = 1 }) items []
without_equal items rising k at d lt same =
    let e : suc at ≡ at + 1 = omega arith in
    let here : suc at - 1 ≡ at = omega arith in
    let split = subst (IsSplit (λ x. x ∷ []) k items) here (leaf_split items rising k (suc at) (rank_of_equal items rising k at d lt same) (omega (arith, lt))) in
    let item = get_or items at d in
    ap (without k) (sym (as_branches items)) ∙ without_split (λ x. x ∷ []) k items at split d
    ∙ ap (λ xs. xs ++ (without k (item ∷ []) ++ flat_map (λ x. x ∷ []) (drop (suc at) items))) (as_branches (take at items))
    ∙ ap (λ xs. take at items ++ (without k (item ∷ []) ++ xs)) (as_branches (drop (suc at) items))
    ∙ ap (λ o. take at items ++ ((if is_eq o then [] else item ∷ []) ++ drop (suc at) items)) same
    ∙ ap (λ n. take at items ++ drop n items) e

-- the first key is unchanged
pub keeps_front : (at : ℕ) (items rest : List Pair) → 0 < at → KeepsMinimum items (take at items ++ rest)
keeps_front zero items rest some k starts = absurd (omega (arith, some))
keeps_front (suc m) [] rest some k starts = absurd starts
keeps_front (suc m) (x ∷ xs) rest some k starts = starts

pub keeps_equal : (at : ℕ) (items rest : List Pair) (pair : Pair) → at < length items → key_cmp (get_or items at pair).key pair.key ≡ Equal → KeepsMinimum items (take at items ++ (pair ∷ rest))
keeps_equal zero [] rest pair lt same k starts = absurd starts
keeps_equal zero (x ∷ xs) rest pair lt same k starts = sym (key_exact x.key pair.key same) ∙ starts
keeps_equal (suc m) items rest pair lt same k starts = keeps_front (suc m) items (pair ∷ rest) (omega arith) k starts

-- a changed leaf
module _ {S K : Type 0} (kept_of : S → K) (page_state_of : S → ℕ → PageState) (words_of : S → ℕ → ℕ → ℕ) (root : ℕ) (above : List Step) (leaf : ℕ) (cut : Cut) (given : Pair) (slots : List Slot) (to : ℕ) (start mid : S)
    (way : IsWayIn (page_state_of start) (words_of start) root above leaf) (is_leaf : level_of (words_of start leaf) ≡ 0) (s : IsSpliced kept_of page_state_of words_of leaf cut given slots to start mid)
    (enough : minimum_at above 0 ≤ length (spliced cut (items_of (words_of start leaf)) (pairs_of (words_of start) given slots)))
    (rising : IsRising (whole (words_of start) above (spliced cut (items_of (words_of start leaf)) (pairs_of (words_of start) given slots)))) where
  pub leaf_pairs : pairs_at (level_of (words_of start leaf)) (words_of mid) to ≡ spliced cut (items_of (words_of start leaf)) (pairs_of (words_of start) given slots)
  leaf_pairs = ap (λ n. pairs_at n (words_of mid) to) is_leaf ∙ s.has_items

  node : BecomesNode kept_of page_state_of words_of (leaf ∷ []) 0 (minimum_at above 0) to start mid
  node =
      let items = spliced cut (items_of (words_of start leaf)) (pairs_of (words_of start) given slots) in
      let fit : All (λ x. length x.key ≤ 264) items = subst (All (λ x. length x.key ≤ 264)) s.has_items (page_keys (words_of mid to) s.is_page) in
      let here : IsBelow 0 (page_state_of start) (words_of start) items = record { keys_fit = fit; shaped = tt; rising = rising_inside (words_of start) above items rising; once = λ q. omega arith; in_use = λ q some. absurd (omega (arith, some)) } in
      node_written kept_of page_state_of words_of 0 (minimum_at above 0) items to (leaf ∷ []) start mid here enough s.is_page (s.same_level ∙ is_leaf) s.has_items s.swaps (λ q. omega (arith, one_page q leaf))

  pub leaf_changed : (b : Bool) → (b ≡ true → KeepsMinimum (items_of (words_of start leaf)) (spliced cut (items_of (words_of start leaf)) (pairs_of (words_of start) given slots)))
      → IsChanged kept_of page_state_of words_of root above (record { was = leaf; page = to; same_minimum = b }) (level_of (words_of start leaf)) start mid
  leaf_changed b keeps =
      let here : IsChanged kept_of page_state_of words_of root above (record { was = leaf; page = to; same_minimum = b }) 0 start mid = record {
        way = way;
        at_level = is_leaf;
        node = node;
        least = λ e. subst (KeepsMinimum (items_of (words_of start leaf))) (sym s.has_items) (keeps e);
        rising = subst (λ xs. IsRising (whole (words_of start) above xs)) (sym s.has_items) rising;
      } in
      subst (λ n. IsChanged kept_of page_state_of words_of root above (record { was = leaf; page = to; same_minimum = b }) n start mid) (sym is_leaf) here

-- how a change of a tree is a change of the leaf at the end of a path
pub record ChangesLeaf (change : List Pair → List Pair) (page_state : ℕ → PageState) (words : ℕ → ℕ → ℕ) (root : ℕ) (above : List Step) (leaf : ℕ) : Type 0 where
  pub all : change (pairs words root) ≡ whole words above (change (items_of (words leaf)))
  pub tree : IsTreeAt 0 (minimum_at above 0) page_state words leaf
  pub pairs_rise : IsRising (pairs words root)

pub put_leaf : (pair : Pair) (page_state : ℕ → PageState) (words : ℕ → ℕ → ℕ) (root : ℕ) (above : List Step) (leaf : ℕ) → IsWayIn page_state words root above leaf → All (λ step. IsBranchFor pair.key (items_of (words step.page)) step.at) above
    → level_of (words leaf) ≡ 0 → ChangesLeaf (put pair) page_state words root above leaf
put_leaf pair page_state words root above leaf way for is_leaf =
    let up = level_of (words (root - 1)) in
    let tree = top page_state words root way.tree way.some in
    let is = root_pairs root (root - 1) up words (omega (arith, way.some)) refl in
    record {
      all = ap (put pair) is ∙ change_down (put pair) pair.key page_state words (put_goes pair page_state words) (root - 1) (minimum_of_root up) above leaf (root_some up) way.way for tree
          ∙ ap (λ n. whole words above (put pair (pairs_at n words leaf))) is_leaf;
      tree = subst (λ n. IsTreeAt n (minimum_at above n) page_state words leaf) is_leaf (tree_on_way page_state words root above leaf way);
      pairs_rise = subst IsRising (sym is) tree.below.rising;
    }

pub without_leaf : (k : List ℕ) (page_state : ℕ → PageState) (words : ℕ → ℕ → ℕ) (root : ℕ) (above : List Step) (leaf : ℕ) → IsWayIn page_state words root above leaf → All (λ step. IsBranchFor k (items_of (words step.page)) step.at) above
    → level_of (words leaf) ≡ 0 → ChangesLeaf (without k) page_state words root above leaf
without_leaf k page_state words root above leaf way for is_leaf =
    let up = level_of (words (root - 1)) in
    let tree = top page_state words root way.tree way.some in
    let is = root_pairs root (root - 1) up words (omega (arith, way.some)) refl in
    record {
      all = ap (without k) is ∙ change_down (without k) k page_state words (without_goes k page_state words) (root - 1) (minimum_of_root up) above leaf (root_some up) way.way for tree
          ∙ ap (λ n. whole words above (without k (pairs_at n words leaf))) is_leaf;
      tree = subst (λ n. IsTreeAt n (minimum_at above n) page_state words leaf) is_leaf (tree_on_way page_state words root above leaf way);
      pairs_rise = subst IsRising (sym is) tree.below.rising;
    }

-- how a change of a tree follows from a change of its leaf's items
module _ (change : List Pair → List Pair) (rises : (xs : List Pair) → IsRising xs → IsRising (change xs)) (page_state : ℕ → PageState) (words : ℕ → ℕ → ℕ) (root : ℕ) (above : List Step) (leaf : ℕ) (cut : Cut) (more : List Pair)
    (leafy : ChangesLeaf change page_state words root above leaf) (is : change (items_of (words leaf)) ≡ spliced cut (items_of (words leaf)) more) where
  pub all_is : change (pairs words root) ≡ whole words above (spliced cut (items_of (words leaf)) more)
  all_is = leafy.all ∙ ap (whole words above) is

  pub all_rise : IsRising (whole words above (spliced cut (items_of (words leaf)) more))
  all_rise = subst IsRising all_is (rises (pairs words root) leafy.pairs_rise)

-- how many items there are then
pub length_spliced : (cut : Cut) (items more : List Pair) → cut.at + cut.gone ≤ length items → length (spliced cut items more) + cut.gone ≡ length items + length more
length_spliced cut items more in_range =
    omega (arith, in_range, length-append (take cut.at items) (more ++ drop (cut.at + cut.gone) items), length-append more (drop (cut.at + cut.gone) items), length-take-le cut.at items (omega (arith, in_range)), length-drop (cut.at + cut.gone) items)

-- a leaf's items as an unwritten node, changed
module _ {S K : Type 0} (kept_of : S → K) (page_state_of : S → ℕ → PageState) (words_of : S → ℕ → ℕ → ℕ) (change : List Pair → List Pair) (rises : (xs : List Pair) → IsRising xs → IsRising (change xs))
    (root : ℕ) (above : List Step) (leaf : ℕ) (given : Pair) (slots : List Slot) (start read : S) (same : IsUnchanged kept_of page_state_of words_of start read)
    (way : IsWayIn (page_state_of start) (words_of start) root above leaf) (is_leaf : level_of (words_of start leaf) ≡ 0) (leafy : ChangesLeaf change (page_state_of start) (words_of start) root above leaf)
    (is : pairs_of (words_of start) given slots ≡ change (items_of (words_of start leaf))) (fit : All (λ x. length x.key ≤ 264) (change (items_of (words_of start leaf))))
    (ready : All (IsReady (page_state_of start) (words_of start)) slots) (key_fits : length given.key ≤ 264) where
  now_is : pairs_of (words_of read) given slots ≡ change (items_of (words_of start leaf))
  now_is = ap (λ w. pairs_of w given slots) same.words ∙ is

  hand_all : whole (words_of start) above (pairs_of (words_of read) given slots) ≡ change (pairs (words_of start) root)
  hand_all = ap (whole (words_of start) above) now_is ∙ sym leafy.all

  pub leaf_in_hand : IsInHand kept_of page_state_of words_of root above leaf given slots (level_of (words_of start leaf)) start read
  leaf_in_hand =
      let items = pairs_of (words_of read) given slots in
      let below : IsBelow 0 (page_state_of read) (words_of read) items = record {
        keys_fit = subst (All (λ x. length x.key ≤ 264)) (sym now_is) fit;
        shaped = tt;
        rising = rising_inside (words_of start) above items (subst IsRising (sym hand_all) (rises (pairs (words_of start) root) leafy.pairs_rise));
        once = λ q. omega arith;
        in_use = λ q some. absurd (omega (arith, some));
      } in
      let here : IsInHand kept_of page_state_of words_of root above leaf given slots 0 start read = record {
        way = way;
        at_level = is_leaf;
        node = record { below = below; has_pairs = refl; swaps = swaps_none kept_of page_state_of words_of start read same };
        ready = subst (λ s. All (IsReady s (words_of read)) slots) (sym same.page_state) (subst (λ w. All (IsReady (page_state_of start) w) slots) (sym same.words) ready);
        key_fits = key_fits;
        rising = subst IsRising (sym hand_all) (rises (pairs (words_of start) root) leafy.pairs_rise);
      } in
      subst (λ n. IsInHand kept_of page_state_of words_of root above leaf given slots n start read) (sym is_leaf) here

  pub hand_tree : (new_root : ℕ) (new : S) → BecomesTree kept_of page_state_of words_of (pages (words_of start) root) (whole (words_of start) above (pairs_below (level_of (words_of start leaf)) (words_of read) (pairs_of (words_of read) given slots))) new_root start new
      → BecomesTree kept_of page_state_of words_of (pages (words_of start) root) (change (pairs (words_of start) root)) new_root start new
  hand_tree new_root new h =
      subst (λ ps. BecomesTree kept_of page_state_of words_of (pages (words_of start) root) ps new_root start new)
      (ap (λ n. whole (words_of start) above (pairs_below n (words_of read) (pairs_of (words_of read) given slots))) is_leaf ∙ hand_all) h

-- what a path says about a put, whether or not its leaf has a pair with the key
pub record PutsAt (page_state : ℕ → PageState) (words : ℕ → ℕ → ℕ) (root : ℕ) (path : Path) (pair : Pair) (cut : Cut) : Type 0 where
  pub leafy : ChangesLeaf (put pair) page_state words root path.above.items path.leaf
  pub in_range : cut.at + cut.gone ≤ length (items_of (words path.leaf))
  pub is : put pair (items_of (words path.leaf)) ≡ spliced cut (items_of (words path.leaf)) (pair ∷ [])

pub puts_in : (page_state : ℕ → PageState) (words : ℕ → ℕ → ℕ) (root : ℕ) (path : Path) (pair : Pair) (at : ℕ) → IsPathTo page_state words root pair.key path → path.place ≡ Err at → PutsAt page_state words root path pair (record { at = at; gone = 0 })
puts_in page_state words root path pair at h place =
    let leafy = put_leaf pair page_state words root path.above.items path.leaf h.way h.branches h.is_leaf in
    let items = items_of (words path.leaf) in
    let gap = subst (λ r. IfErr r (IsGap pair.key items)) place h.absent in
    record { leafy = leafy; in_range = omega (arith, gap.in_range); is = put_gap page_state words items leafy.tree.below pair at gap }

pub record TakesAt (page_state : ℕ → PageState) (words : ℕ → ℕ → ℕ) (root : ℕ) (path : Path) (k : List ℕ) (at : ℕ) : Type 0 where
  pub leafy : ChangesLeaf (without k) page_state words root path.above.items path.leaf
  pub in_range : at < length (items_of (words path.leaf))
  pub is : without k (items_of (words path.leaf)) ≡ spliced (record { at = at; gone = 1 }) (items_of (words path.leaf)) []

pub takes_at : (page_state : ℕ → PageState) (words : ℕ → ℕ → ℕ) (root : ℕ) (path : Path) (k : List ℕ) (at : ℕ) → IsPathTo page_state words root k path → path.place ≡ Ok at → TakesAt page_state words root path k at
takes_at page_state words root path k at h place =
    let leafy = without_leaf k page_state words root path.above.items path.leaf h.way h.branches h.is_leaf in
    let items = items_of (words path.leaf) in
    let found = subst (λ r. IfOk r (λ at. (at < words path.leaf 1) × (key_cmp (item_at (words path.leaf) (item_place at)).key k ≡ Equal))) place h.found in
    let d = item_at (words path.leaf) (item_place at) in
    let lt : at < length items = omega (arith, found.0, items_count (words path.leaf)) in
    record {
      leafy = leafy;
      in_range = lt;
      is = without_equal items leafy.tree.below.rising k at d lt (ap (λ x. key_cmp x.key k) (item_get (words path.leaf) at d found.0) ∙ found.1);
    }

-- after pages were only read
module _ {S K : Type 0} (kept_of : S → K) (page_state_of : S → ℕ → PageState) (words_of : S → ℕ → ℕ → ℕ) (old read : S) (same : IsUnchanged kept_of page_state_of words_of old read) where
  pub path_read : (root : ℕ) (k : List ℕ) (path : Path) → IsPathTo (page_state_of old) (words_of old) root k path → IsPathTo (page_state_of read) (words_of read) root k path
  path_read root k path h =
      subst (λ s. IsPathTo s (words_of read) root k path) (sym same.page_state) (subst (λ w. IsPathTo (page_state_of old) w root k path) (sym same.words) h)

  pub tree_since : (f : List Pair → List Pair) (root new_root : ℕ) (new : S) → BecomesTree kept_of page_state_of words_of (pages (words_of read) root) (f (pairs (words_of read) root)) new_root read new
      → BecomesTree kept_of page_state_of words_of (pages (words_of old) root) (f (pairs (words_of old) root)) new_root old new
  tree_since f root new_root new h = record {
    tree = h.tree;
    has_pairs = h.has_pairs ∙ ap (λ w. f (pairs w root)) same.words;
    swaps = subst (λ w. Swaps kept_of page_state_of words_of (pages w root) (pages (words_of new) new_root) old new) same.words
        (swaps_since kept_of page_state_of words_of (pages (words_of read) root) (pages (words_of new) new_root) old read new same h.swaps);
  }

-- what a path says about a look-up
module _ (page_state : ℕ → PageState) (words : ℕ → ℕ → ℕ) (root : ℕ) (k : List ℕ) (path : Path) (h : IsPathTo page_state words root k path) where
  leaf_minimum : 0 < minimum_at path.above.items 0
  leaf_minimum = some_minimum path.above.items
    where
      some_minimum : (above : List Step) → 0 < minimum_at above 0
      some_minimum [] = omega arith
      some_minimum (s ∷ below) = omega arith

  payload_is : payload_at (pairs words root) k ≡ payload_at (pairs_at 0 words path.leaf) k
  payload_is =
      let up = level_of (words (root - 1)) in
      ap (λ ps. payload_at ps k) (root_pairs root (root - 1) up words (omega (arith, h.way.some)) refl)
      ∙ payload_down k page_state words (root - 1) (minimum_of_root up) path.above.items path.leaf (root_some up) h.way.way h.branches (top page_state words root h.way.tree h.way.some)
      ∙ ap (λ n. payload_at (pairs_at n words path.leaf) k) h.is_leaf

  pub path_found : (at : ℕ) → path.place ≡ Ok at → payload_at (pairs words root) k ≢ None
  path_found at place none =
      let leafy = without_leaf k page_state words root path.above.items path.leaf h.way h.branches h.is_leaf in
      let found = subst (λ r. IfOk r (λ at. (at < words path.leaf 1) × (key_cmp (item_at (words path.leaf) (item_place at)).key k ≡ Equal))) place h.found in
      false≢true (ap is_some (sym none ∙ payload_is ∙ found_equal 0 (minimum_at path.above.items 0) page_state words path.leaf k at refl leafy.tree leaf_minimum found.0 found.1))

  pub path_absent : (at : ℕ) → path.place ≡ Err at → payload_at (pairs words root) k ≡ None
  path_absent at place =
      let leafy = without_leaf k page_state words root path.above.items path.leaf h.way h.branches h.is_leaf in
      payload_is ∙ found_gap 0 (minimum_at path.above.items 0) page_state words path.leaf k at refl leafy.tree leaf_minimum (subst (λ r. IfErr r (IsGap k (items_of (words path.leaf)))) place h.absent)
