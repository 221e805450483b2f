-- A page of a tree that has become another page, and how the pages above it change.
use Rattle.std.proofs.Common.{◌≡◌, ℕ, suc, ◌+◌, ◌<◌, ◌≤◌, ◌⊎◌, List, [], ◌∷◌, ◌++◌, length, get_or, take, drop, IsTrue, ap, sym, subst, ◌∙◌, refl, inl, inr, arith}
use Rattle.std.proofs.lemmas.Bool.{cases_lt}
use Rattle.std.proofs.lemmas.List.{append-nil, length-take-le}
use Rattle.be_pages.specs.declared.room.PageState.{PageState}
use Rattle.be_pages.specs.Pages.{is_kept, times, untouched, Swaps}
use Rattle.be_tree.specs.declared.path.Step.{Step}
use Rattle.be_tree_reading.specs.Pair.{Pair}
use Rattle.be_tree_reading.specs.Key.{IsRising, StartsAt}
use Rattle.be_tree_reading.specs.Page.{IsPage, item_at, item_place, items_of, level_of}
use Rattle.be_tree.specs.Path.{BecomesNode, IsStep, IsWay, KeepsMinimum, around, whole}
use Rattle.be_tree_reading.specs.Tree.{AreShaped, Becomes, IsBelow, IsBranch, IsNode, IsTreeAt, child, pages_at, pages_below, pairs_at, pairs_below}
use Rattle.be_tree_reading.proofs.Frame.{one_beside, readable_kept, swaps_after, swaps_frame, swaps_same, swaps_trans, swaps_with, times_append, times_itself}
use Rattle.be_tree_reading.proofs.Items.{items_count}
use Rattle.be_tree_reading.proofs.Putting.Puts.{given_up_page, kept_after}
use Rattle.be_tree_reading.proofs.Shape.Below.{below_left, beside_apart, beside_below, beside_pages, beside_pairs, pairs_append}
use Rattle.be_tree_reading.proofs.Shape.Heights.{once_at}
use Rattle.be_tree_reading.proofs.Shape.Levels.{tree_in_use}
use Rattle.be_tree.proofs.Shape.Parts.{all_one, becomes_part, starts_append, starts_first}
use Rattle.be_tree.proofs.Ways.{branch_is, branch_names, rising_inside, step_leads, three}

-- a list that starts at a key does so with or without more after it
first_part : (k j : List ℕ) (xs ys : List Pair) → StartsAt j xs → StartsAt k (xs ++ ys) → StartsAt k xs
first_part k j [] ys some starts = absurd some
first_part k j (x ∷ xs) ys some starts = starts

module _ {S K : Type 0} (kept_of : S → K) (page_state_of : S → ℕ → PageState) (words_of : S → ℕ → ℕ → ℕ) where
  -- items are written to a page, replacing other pages
  module _ (level least : ℕ) (items : List Pair) (to : ℕ) (source : List ℕ) (old new : S) (below : IsBelow level (page_state_of old) (words_of old) items) (enough : least ≤ length items)
      (is_page : IsPage (words_of new to)) (at_level : level_of (words_of new to) ≡ level) (has_items : items_of (words_of new to) ≡ items)
      (swaps : Swaps kept_of page_state_of words_of source (to ∷ []) old new) (apart : (q : ℕ) → times q source + times q (pages_below level (words_of old) items) ≤ 1) where
    new_pages : pages_below level (words_of new) (items_of (words_of new to)) ≡ pages_below level (words_of old) items
    new_pages = ap (pages_below level (words_of new)) has_items ∙ beside_pages kept_of page_state_of words_of source (to ∷ []) old new swaps level items below apart

    pub node_pairs : pairs_at level (words_of new) to ≡ pairs_below level (words_of old) items
    node_pairs = ap (pairs_below level (words_of new)) has_items ∙ beside_pairs kept_of page_state_of words_of source (to ∷ []) old new swaps level items below apart

    pub node_written : BecomesNode kept_of page_state_of words_of (source ++ pages_below level (words_of old) items) level least to old new
    node_written = record {
      tree = record {
        node = record { is_page = is_page; at_level = at_level; enough = subst (λ xs. least ≤ length xs) (sym has_items) enough };
        below = subst (IsBelow level (page_state_of new) (words_of new)) (sym has_items) (beside_below kept_of page_state_of words_of source (to ∷ []) old new swaps level items below apart);
        page_once = omega (arith, ap (times to) new_pages, times_itself to, beside_apart kept_of page_state_of words_of source (to ∷ []) old new swaps level items below apart to (omega (arith, times_itself to)));
        page_in_use = swaps_after kept_of page_state_of words_of source (to ∷ []) old new swaps to (omega (arith, times_itself to));
      };
      swaps = swaps_frame kept_of page_state_of words_of source (to ∷ []) (source ++ pages_below level (words_of old) items) (pages_at level (words_of new) to) (λ q. times q (pages_below level (words_of old) items)) old new swaps
          (λ q. omega (arith, times_append q source (pages_below level (words_of old) items)))
          (λ q. omega (arith, times_append q (to ∷ []) (pages_below level (words_of new) (items_of (words_of new to))), ap (times q) new_pages))
          (λ q. omega (arith, times_append q source (pages_below level (words_of old) items), apart q)) below.in_use;
    }

  -- the items of a page changed, and were then written in its place
  module _ (before : List ℕ) (all : List Pair) (level least page to : ℕ) (items : List Pair) (start mid new : S) (first : Becomes kept_of page_state_of words_of before all level items start mid)
      (none : times page before ≡ 0) (once : (q : ℕ) → times q before ≤ 1) (used : IsTrue (is_kept (page_state_of start page))) (enough : least ≤ length items)
      (is_page : IsPage (words_of new to)) (at_level : level_of (words_of new to) ≡ level) (has_items : items_of (words_of new to) ≡ items) (swaps : Swaps kept_of page_state_of words_of (page ∷ []) (to ∷ []) mid new) where
    apart : (q : ℕ) → times q (page ∷ []) + times q (pages_below level (words_of mid) items) ≤ 1
    apart = one_beside page (pages_below level (words_of mid) items) (given_up_page kept_of page_state_of words_of before (pages_below level (words_of mid) items) page start mid first.swaps none used) first.below.once

    pub over_pairs : pairs_at level (words_of new) to ≡ all
    over_pairs = node_pairs level least items to (page ∷ []) mid new first.below enough is_page at_level has_items swaps apart ∙ first.has_pairs

    pub node_over : BecomesNode kept_of page_state_of words_of (page ∷ before) level least to start new
    node_over =
        let wrote = node_written level least items to (page ∷ []) mid new first.below enough is_page at_level has_items swaps apart in
        record {
          tree = wrote.tree;
          swaps = swaps_trans kept_of page_state_of words_of (page ∷ before) (page ∷ pages_below level (words_of mid) items) (pages_at level (words_of new) to) start mid new
              (swaps_with kept_of page_state_of words_of page before (pages_below level (words_of mid) items) start mid first.swaps none once used) wrote.swaps;
        }

  -- a child has become another page, and a branch to it will replace the branch to the old one
  module _ (level least page at : ℕ) (start now : S) (tree : IsTreeAt (suc level) least (page_state_of start) (words_of start) page) (lt : at < words_of start page 1)
      (to : ℕ) (branch : Pair) (is : child branch ≡ to) (key_fits : length branch.key ≤ 264) (names : IsBranch branch (pairs_at level (words_of now) to))
      (node : BecomesNode kept_of page_state_of words_of (pages_at level (words_of start) (child (item_at (words_of start page) (item_place at)))) level 6 to start now) where
    item : Pair
    item = item_at (words_of start page) (item_place at)

    pairs_are : pairs_below (suc level) (words_of now) (branch ∷ []) ≡ pairs_at level (words_of now) to
    pairs_are = append-nil (pairs_at level (words_of now) (child branch)) ∙ ap (pairs_at level (words_of now)) is

    pages_are : pages_below (suc level) (words_of now) (branch ∷ []) ≡ pages_at level (words_of now) to
    pages_are = append-nil (pages_at level (words_of now) (child branch)) ∙ ap (pages_at level (words_of now)) is

    becomes_item : Becomes kept_of page_state_of words_of (pages_below (suc level) (words_of start) (item ∷ [])) (pairs_at level (words_of now) to) (suc level) (branch ∷ []) start now
    unfolding item
    becomes_item = record {
      below = record {
        keys_fit = all_one (λ b. length b.key ≤ 264) branch key_fits;
        shaped = all_one (λ b. IsNode level 6 (words_of now (child b)) × IsBranch b (pairs_at level (words_of now) (child b)) × AreShaped level (words_of now) (items_of (words_of now (child b)))) branch
            (subst (λ p. IsNode level 6 (words_of now p) × IsBranch branch (pairs_at level (words_of now) p) × AreShaped level (words_of now) (items_of (words_of now p))) (sym is) (node.tree.node, names, node.tree.below.shaped));
        rising = subst IsRising (sym pairs_are) node.tree.below.rising;
        once = λ q. subst (λ ps. times q ps ≤ 1) (sym pages_are) (once_at level 6 (page_state_of now) (words_of now) to node.tree q);
        in_use = λ q some. tree_in_use level 6 (page_state_of now) (words_of now) to node.tree q (subst (λ ps. 0 < times q ps) pages_are some);
      };
      has_pairs = pairs_are;
      swaps = subst (λ ps. Swaps kept_of page_state_of words_of ps (pages_below (suc level) (words_of now) (branch ∷ [])) start now) (sym (append-nil (pages_at level (words_of start) (child item))))
          (subst (λ ps. Swaps kept_of page_state_of words_of (pages_at level (words_of start) (child item)) ps start now) (sym pages_are) node.swaps);
    }

    before : List Pair
    before = take at (items_of (words_of start page))

    after : List Pair
    after = drop (suc at) (items_of (words_of start page))

    pub becomes_items : IsRising (pairs_below (suc level) (words_of start) (take at (items_of (words_of start page))) ++ (pairs_at level (words_of now) to ++ pairs_below (suc level) (words_of start) (drop (suc at) (items_of (words_of start page)))))
        → Becomes kept_of page_state_of words_of (pages_below (suc level) (words_of start) (items_of (words_of start page)))
        (pairs_below (suc level) (words_of start) (take at (items_of (words_of start page))) ++ (pairs_at level (words_of now) to ++ pairs_below (suc level) (words_of start) (drop (suc at) (items_of (words_of start page)))))
        (suc level) (take at (items_of (words_of start page)) ++ (branch ∷ drop (suc at) (items_of (words_of start page)))) start now
    unfolding item before after
    becomes_items rising =
        let parts = three level least (page_state_of start) (words_of start) page at tree lt in
        subst (λ xs. Becomes kept_of page_state_of words_of (pages_below (suc level) (words_of start) xs) (pairs_below (suc level) (words_of start) before ++ (pairs_at level (words_of now) to ++ pairs_below (suc level) (words_of start) after)) (suc level) (before ++ (branch ∷ after)) start now) (sym parts)
        (becomes_part kept_of page_state_of words_of (suc level) before (item ∷ []) after (branch ∷ []) (pairs_at level (words_of now) to) start now
        (subst (IsBelow (suc level) (page_state_of start) (words_of start)) parts tree.below) becomes_item rising)

-- the pairs below a page begin where its items do
module _ (level least page at : ℕ) (page_state : ℕ → PageState) (words : ℕ → ℕ → ℕ) (tree : IsTreeAt (suc level) least page_state words page) (lt : at < words page 1) (ps : List Pair) where
  old_parts : pairs_at (suc level) words page ≡ pairs_below (suc level) words (take at (items_of (words page))) ++ (pairs_at level words (child (item_at (words page) (item_place at))) ++ pairs_below (suc level) words (drop (suc at) (items_of (words page))))
  old_parts =
      ap (pairs_below (suc level) words) (three level least page_state words page at tree lt)
      ∙ pairs_append (suc level) words (take at (items_of (words page))) (item_at (words page) (item_place at) ∷ drop (suc at) (items_of (words page)))

  pub minimum_up : (0 < at) ⊎ KeepsMinimum (pairs_at level words (child (item_at (words page) (item_place at)))) ps
      → KeepsMinimum (pairs_at (suc level) words page) (pairs_below (suc level) words (take at (items_of (words page))) ++ (ps ++ pairs_below (suc level) words (drop (suc at) (items_of (words page)))))
  minimum_up how k starts = elim (cases_lt 0 at) [
    | inl some ↦ later some
    | inr none ↦ elim how [
      | inl some ↦ absurd (omega (arith, none, some))
      | inr keeps ↦ first (omega (arith, none)) keeps
    ]
  ]
    where
      later : 0 < at → StartsAt k (pairs_below (suc level) words (take at (items_of (words page))) ++ (ps ++ pairs_below (suc level) words (drop (suc at) (items_of (words page)))))
      later some =
          let shaped = (below_left (suc level) page_state words (take at (items_of (words page))) (item_at (words page) (item_place at) ∷ drop (suc at) (items_of (words page)))
          (subst (IsBelow (suc level) page_state words) (three level least page_state words page at tree lt) tree.below)).shaped in
          let len = length-take-le at (items_of (words page)) (omega (arith, lt, items_count (words page))) in
          let d = item_at (words page) (item_place at) in
          let first = starts_first (suc level) words (take at (items_of (words page))) d shaped (omega (arith, len, some)) in
          let A = pairs_below (suc level) words (take at (items_of (words page))) in
          let Z = pairs_below (suc level) words (drop (suc at) (items_of (words page))) in
          starts_append k A (ps ++ Z)
          (first_part k (get_or (take at (items_of (words page))) 0 d).key A (pairs_at level words (child (item_at (words page) (item_place at))) ++ Z) first (subst (StartsAt k) old_parts starts))

      first : at ≡ 0 → KeepsMinimum (pairs_at level words (child (item_at (words page) (item_place at)))) ps
          → StartsAt k (pairs_below (suc level) words (take at (items_of (words page))) ++ (ps ++ pairs_below (suc level) words (drop (suc at) (items_of (words page)))))
      first e keeps =
          let Z = pairs_below (suc level) words (drop (suc at) (items_of (words page))) in
          let here = pairs_at level words (child (item_at (words page) (item_place at))) in
          let none : pairs_below (suc level) words (take at (items_of (words page))) ≡ [] = ap (λ n. pairs_below (suc level) words (take n (items_of (words page)))) e in
          let named = (branch_names level least page_state words page at tree lt).starts in
          let old : StartsAt k (here ++ Z) = subst (λ A. StartsAt k (A ++ (here ++ Z))) none (subst (StartsAt k) old_parts starts) in
          subst (λ A. StartsAt k (A ++ (ps ++ Z))) (sym none) (starts_append k ps Z (keeps k (first_part k (item_at (words page) (item_place at)).key here Z named old)))

-- the minimum number of items of the page at the end of a path from a page
abbrev pub end_minimum : List Step → ℕ → ℕ
end_minimum [] least = least
end_minimum (step ∷ below) least = 6

-- the pairs that a step puts around some pairs, by its page and its level
pub around_is : (words : ℕ → ℕ → ℕ) (page level : ℕ) (step : Step) (ps : List Pair) → step.page ≡ page → level_of (words page) ≡ level
    → around words step ps ≡ pairs_below level words (take step.at (items_of (words page))) ++ (ps ++ pairs_below level words (drop (suc step.at) (items_of (words page))))
around_is words page level step ps is up =
    ap (λ p. pairs_below (level_of (words p)) words (take step.at (items_of (words p))) ++ (ps ++ pairs_below (level_of (words p)) words (drop (suc step.at) (items_of (words p))))) is
    ∙ ap (λ n. pairs_below n words (take step.at (items_of (words page))) ++ (ps ++ pairs_below n words (drop (suc step.at) (items_of (words page))))) up

-- a page is unchanged when something below it changes but keeps its lowest key
pub record Stays {S K : Type 0} (kept_of : S → K) (page_state_of : S → ℕ → PageState) (words_of : S → ℕ → ℕ → ℕ) (level least page : ℕ) (ps : List Pair) (start now : S) : Type 0 where
  pub node : BecomesNode kept_of page_state_of words_of (pages_at level (words_of start) page) level least page start now
  pub pairs_are : pairs_at level (words_of now) page ≡ ps
  pub keeps : KeepsMinimum (pairs_at level (words_of start) page) ps

module _ {S K : Type 0} (kept_of : S → K) (page_state_of : S → ℕ → PageState) (words_of : S → ℕ → ℕ → ℕ) (start now : S) where
  module _ (level least page at : ℕ) (tree : IsTreeAt (suc level) least (page_state_of start) (words_of start) page) (lt : at < words_of start page 1)
      (ps : List Pair) (child_stays : Stays kept_of page_state_of words_of level 6 (child (item_at (words_of start page) (item_place at))) ps start now)
      (rising : IsRising (pairs_below (suc level) (words_of start) (take at (items_of (words_of start page))) ++ (ps ++ pairs_below (suc level) (words_of start) (drop (suc at) (items_of (words_of start page)))))) where
    names : IsBranch (item_at (words_of start page) (item_place at)) (pairs_at level (words_of now) (child (item_at (words_of start page) (item_place at))))
    names =
        let named = branch_names level least (page_state_of start) (words_of start) page at tree lt in
        record {
          starts = subst (StartsAt (item_at (words_of start page) (item_place at)).key) (sym child_stays.pairs_are) (child_stays.keeps (item_at (words_of start page) (item_place at)).key named.starts);
          names_page = named.names_page;
        }

    fits : length (item_at (words_of start page) (item_place at)).key ≤ 264
    fits = subst (λ (b : Pair). length b.key ≤ 264) (branch_is level least (page_state_of start) (words_of start) page at tree lt)
        (tree.below.keys_fit at (item_at (words_of start page) (item_place at)) (omega (arith, lt, items_count (words_of start page))))

    becomes : Becomes kept_of page_state_of words_of (pages_below (suc level) (words_of start) (items_of (words_of start page)))
        (pairs_below (suc level) (words_of start) (take at (items_of (words_of start page))) ++ (ps ++ pairs_below (suc level) (words_of start) (drop (suc at) (items_of (words_of start page)))))
        (suc level) (items_of (words_of start page)) start now
    becomes =
        let all = λ (qs : List Pair). pairs_below (suc level) (words_of start) (take at (items_of (words_of start page))) ++ (qs ++ pairs_below (suc level) (words_of start) (drop (suc at) (items_of (words_of start page)))) in
        let before = pages_below (suc level) (words_of start) (items_of (words_of start page)) in
        let written = becomes_items kept_of page_state_of words_of level least page at start now tree lt (child (item_at (words_of start page) (item_place at))) (item_at (words_of start page) (item_place at)) refl fits names child_stays.node
        (subst (λ qs. IsRising (all qs)) (sym child_stays.pairs_are) rising) in
        subst (λ xs. Becomes kept_of page_state_of words_of before (all ps) (suc level) xs start now) (sym (three level least (page_state_of start) (words_of start) page at tree lt))
        (subst (λ qs. Becomes kept_of page_state_of words_of before (all qs) (suc level) (take at (items_of (words_of start page)) ++ item_at (words_of start page) (item_place at) ∷ drop (suc at) (items_of (words_of start page))) start now) child_stays.pairs_are written)

    same : words_of now page ≡ words_of start page
    same = swaps_same kept_of page_state_of words_of (pages_below (suc level) (words_of start) (items_of (words_of start page))) (pages_below (suc level) (words_of now) (items_of (words_of start page))) start now becomes.swaps page tree.page_once (readable_kept (page_state_of start page) tree.page_in_use)

    still : Swaps kept_of page_state_of words_of (page ∷ []) (page ∷ []) now now
    still =
        swaps_with kept_of page_state_of words_of page [] [] now now (record { kept = refl; each = λ q. untouched refl }) refl (λ q. omega arith)
        (kept_after kept_of page_state_of words_of (pages_below (suc level) (words_of start) (items_of (words_of start page))) (pages_below (suc level) (words_of now) (items_of (words_of start page))) page start now becomes.swaps tree.page_once tree.page_in_use)

    pub stays_up : Stays kept_of page_state_of words_of (suc level) least page (pairs_below (suc level) (words_of start) (take at (items_of (words_of start page))) ++ (ps ++ pairs_below (suc level) (words_of start) (drop (suc at) (items_of (words_of start page))))) start now
    stays_up =
        let before = pages_below (suc level) (words_of start) (items_of (words_of start page)) in
        let all = pairs_below (suc level) (words_of start) (take at (items_of (words_of start page))) ++ (ps ++ pairs_below (suc level) (words_of start) (drop (suc at) (items_of (words_of start page)))) in
        let is_page : IsPage (words_of now page) = subst IsPage (sym same) tree.node.is_page in
        let at_level : level_of (words_of now page) ≡ suc level = ap (λ w. w 0) same ∙ tree.node.at_level in
        let items : items_of (words_of now page) ≡ items_of (words_of start page) = ap items_of same in
        record {
          node = node_over kept_of page_state_of words_of before all (suc level) least page page (items_of (words_of start page)) start now now becomes tree.page_once tree.below.once tree.page_in_use tree.node.enough is_page at_level items still;
          pairs_are = over_pairs kept_of page_state_of words_of before all (suc level) least page page (items_of (words_of start page)) start now now becomes tree.page_once tree.below.once tree.page_in_use tree.node.enough is_page at_level items still;
          keeps = minimum_up level least page at (page_state_of start) (words_of start) tree lt ps (inr child_stays.keeps);
        }

  stays_step : (page least : ℕ) (step : Step) (ps : List Pair) → IsStep (words_of start) page step → IsTreeAt (level_of (words_of start page)) least (page_state_of start) (words_of start) page
      → Stays kept_of page_state_of words_of (level_of (words_of start (child (item_at (words_of start page) (item_place step.at))))) 6 (child (item_at (words_of start page) (item_place step.at))) ps start now
      → IsRising (around (words_of start) step ps) → Stays kept_of page_state_of words_of (level_of (words_of start page)) least page (around (words_of start) step ps) start now
  stays_step page least step ps here tree below rising =
      let leads = step_leads (page_state_of start) (words_of start) page least step here tree in
      let level = level_of (words_of start (child (item_at (words_of start page) (item_place step.at)))) in
      let is = around_is (words_of start) page (suc level) step ps here.is_page leads.level_is in
      let up = stays_up level least page step.at (subst (λ n. IsTreeAt n least (page_state_of start) (words_of start) page) leads.level_is tree) here.in_range ps below (subst IsRising is rising) in
      subst (λ n. Stays kept_of page_state_of words_of n least page (around (words_of start) step ps) start now) (sym leads.level_is)
      (subst (λ qs. Stays kept_of page_state_of words_of (suc level) least page qs start now) (sym is) up)

  pub stays_down : (page : ℕ) (above : List Step) (last : ℕ) (ps : List Pair) → IsWay (words_of start) page above last → IsTreeAt (level_of (words_of start page)) 6 (page_state_of start) (words_of start) page
      → Stays kept_of page_state_of words_of (level_of (words_of start last)) 6 last ps start now → IsRising (whole (words_of start) above ps)
      → Stays kept_of page_state_of words_of (level_of (words_of start page)) 6 page (whole (words_of start) above ps) start now
  stays_down page [] last ps way tree here rising = subst (λ p. Stays kept_of page_state_of words_of (level_of (words_of start p)) 6 p ps start now) (sym way) here
  stays_down page (s ∷ below) last ps way tree here rising =
      let next = child (item_at (words_of start page) (item_place s.at)) in
      stays_step page 6 s (whole (words_of start) below ps) way.0 tree
      (stays_down next below last ps way.1 (step_leads (page_state_of start) (words_of start) page 6 s way.0 tree).tree here (inside s (whole (words_of start) below ps) rising)) rising
    where
      inside : (s : Step) (qs : List Pair) → IsRising (around (words_of start) s qs) → IsRising qs
      inside s qs h = rising_inside (words_of start) (s ∷ []) qs h

  pub stays_whole : (page least : ℕ) (above : List Step) (last : ℕ) (ps : List Pair) → IsWay (words_of start) page above last → IsTreeAt (level_of (words_of start page)) least (page_state_of start) (words_of start) page
      → Stays kept_of page_state_of words_of (level_of (words_of start last)) (end_minimum above least) last ps start now → IsRising (whole (words_of start) above ps)
      → Stays kept_of page_state_of words_of (level_of (words_of start page)) least page (whole (words_of start) above ps) start now
  stays_whole page least [] last ps way tree here rising = subst (λ p. Stays kept_of page_state_of words_of (level_of (words_of start p)) least p ps start now) (sym way) here
  stays_whole page least (s ∷ below) last ps way tree here rising =
      let next = child (item_at (words_of start page) (item_place s.at)) in
      stays_step page least s (whole (words_of start) below ps) way.0 tree
      (stays_down next below last ps way.1 (step_leads (page_state_of start) (words_of start) page least s way.0 tree).tree here (rising_inside (words_of start) (s ∷ []) (whole (words_of start) below ps) rising)) rising
