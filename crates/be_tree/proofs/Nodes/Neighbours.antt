-- Two neighbours under one parent, one of them changed, written together.
use Rattle.std.proofs.Common.{◌≡◌, ◌≢◌, ℕ, suc, ◌<◌, ◌==◌, List, [], ◌∷◌, ◌++◌, map, cond, All, IsTrue, ap, sym, subst, ◌∙◌, refl, inl, inr, arith}
use Rattle.std.specs.List.{range_with_len}
use Rattle.std.proofs.lemmas.Bool.{cases_eq}
use Rattle.std.proofs.lemmas.List.{append-nil, map-append}
use Rattle.std.proofs.lemmas.List.Elements.{All-append}
use Rattle.be_pages.specs.declared.room.PageState.{PageState}
use Rattle.be_pages.specs.Pages.{is_readable, is_kept, times, PageStep, IsUnchanged}
use Rattle.be_tree.specs.declared.slot.Slot.{Slot}
use Rattle.be_tree.specs.declared.slot.Slot.TheVariants.{At}
use Rattle.be_tree_reading.specs.Pair.{Pair}
use Rattle.be_tree_reading.specs.Key.{IsRising}
use Rattle.be_tree_reading.specs.Page.{items_of, item_place, IsPage}
use Rattle.be_tree.specs.Slot.{pair_of, pairs_of, IsReady}
use Rattle.be_tree_reading.specs.Tree.{AreNeighbours, child, pairs_at, pairs_below, pages_below, IsBelow, Becomes}
use Rattle.be_tree_reading.proofs.Frame.{times_append, times-cons, times_itself, times_other, same_page, swaps_trans, swaps_frame, swaps_same, swaps_stays, readable_kept}
use Rattle.be_tree_reading.proofs.TreeFacts.{branch_tree}
use Rattle.be_tree_reading.proofs.Shape.Below.{below_append, times_both, times_pages}
use Rattle.be_tree.proofs.Shape.Parts.{becomes_same, becomes_append, back_below, back_pairs}
use Rattle.be_tree_reading.proofs.Putting.Puts.{becomes_since, becomes_until, given_up_page}
use Rattle.be_tree.proofs.Nodes.Slots.{loaded_pairs, loaded_ready}

-- the children of two branches are neighbours
module _ (level : ℕ) (page_state : ℕ → PageState) (words : ℕ → ℕ → ℕ) (left right : Pair) (l r : ℕ) (el : l ≡ child left) (er : r ≡ child right) where
  children : IsBelow (suc level) page_state words (left ∷ right ∷ []) → AreNeighbours level page_state words (child left) (child right)
  children below = record {
    left_tree = branch_tree level page_state words (left ∷ right ∷ []) below 0 left (omega arith);
    right_tree = branch_tree level page_state words (left ∷ right ∷ []) below 1 left (omega arith);
    once = λ q. omega (arith, times_both level words left right q, below.once q);
    rising = subst (λ ys. IsRising (pairs_at level words (child left) ++ ys)) (append-nil (pairs_at level words (child right))) below.rising;
  }

  pub are_neighbours : IsBelow (suc level) page_state words (left ∷ right ∷ []) → AreNeighbours level page_state words l r
  are_neighbours below =
      subst (λ p. AreNeighbours level page_state words p r) (sym el) (subst (λ p. AreNeighbours level page_state words (child left) p) (sym er) (children below))

  pub neighbour_times : (q : ℕ) → times q (l ∷ r ∷ pages_below level words (items_of (words l) ++ items_of (words r))) ≡ times q (pages_below (suc level) words (left ∷ right ∷ []))
  neighbour_times q =
      ap (λ (p : ℕ). times q (p ∷ r ∷ pages_below level words (items_of (words p) ++ items_of (words r)))) el
      ∙ ap (λ (p : ℕ). times q (child left ∷ p ∷ pages_below level words (items_of (words (child left)) ++ items_of (words p)))) er
      ∙ times_append q (child left ∷ child right ∷ []) (pages_below level words (items_of (words (child left)) ++ items_of (words (child right))))
      ∙ sym (times_both level words left right q)

module _ {S K : Type 0} (kept_of : S → K) (page_state_of : S → ℕ → PageState) (words_of : S → ℕ → ℕ → ℕ) where
  -- lists of pages with the same pages
  pub becomes_times : (before other : List ℕ) (all : List Pair) (level : ℕ) (items : List Pair) (old new : S) → ((q : ℕ) → times q before ≡ times q other)
      → Becomes kept_of page_state_of words_of before all level items old new → Becomes kept_of page_state_of words_of other all level items old new
  becomes_times before other all level items old new same becomes = record {
    below = becomes.below;
    has_pairs = becomes.has_pairs;
    swaps = record {
      kept = becomes.swaps.kept;
      each = λ q. subst (λ n. PageStep (words_of new q ≡ words_of old q) n (times q (pages_below level (words_of new) items)) (page_state_of old q) (page_state_of new q)) (same q) (becomes.swaps.each q);
    };
  }

  module _ (level l r : ℕ) (old : S) (two : AreNeighbours level (page_state_of old) (words_of old) l r) where
    pub both_below : IsBelow level (page_state_of old) (words_of old) (items_of (words_of old l) ++ items_of (words_of old r))
    both_below =
        below_append level (page_state_of old) (words_of old) (items_of (words_of old l)) (items_of (words_of old r)) two.left_tree.below two.right_tree.below two.rising
        (λ q. omega (arith, two.once q, times_pages level (words_of old) (items_of (words_of old l)) (items_of (words_of old r)) q))

    left_none : times l (pages_below level (words_of old) (items_of (words_of old l) ++ items_of (words_of old r))) ≡ 0
    left_none = omega (arith, two.once l, times-cons l l (r ∷ []), same_page l)

    right_none : times r (pages_below level (words_of old) (items_of (words_of old l) ++ items_of (words_of old r))) ≡ 0
    right_none = omega (arith, two.once r, times-cons r l (r ∷ []), times_itself r)

    pub apart : l ≢ r
    apart e = absurd (omega (arith, two.once l, times-cons l l (r ∷ []), same_page l, times-cons l r [], ap (λ p. cond {A = ℕ} (p == l) 1 0) e))

    -- both lists together have been replaced
    module _ (all items : List Pair) (mid : S) (joined : Becomes kept_of page_state_of words_of (pages_below level (words_of old) (items_of (words_of old l) ++ items_of (words_of old r))) all level items old mid) where
      pub left_apart : times l (pages_below level (words_of mid) items) ≡ 0
      left_apart = given_up_page kept_of page_state_of words_of (pages_below level (words_of old) (items_of (words_of old l) ++ items_of (words_of old r))) (pages_below level (words_of mid) items) l old mid joined.swaps left_none two.left_tree.page_in_use

      pub right_apart : times r (pages_below level (words_of mid) items) ≡ 0
      right_apart = given_up_page kept_of page_state_of words_of (pages_below level (words_of old) (items_of (words_of old l) ++ items_of (words_of old r))) (pages_below level (words_of mid) items) r old mid joined.swaps right_none two.right_tree.page_in_use

      pub left_kept : IsTrue (is_kept (page_state_of mid l))
      left_kept =
          subst (λ s. IsTrue (is_kept s)) (sym (swaps_stays kept_of page_state_of words_of (pages_below level (words_of old) (items_of (words_of old l) ++ items_of (words_of old r))) (pages_below level (words_of mid) items) old mid joined.swaps l left_none (readable_kept _ two.left_tree.page_in_use)))
          two.left_tree.page_in_use

      pub right_kept : IsTrue (is_kept (page_state_of mid r))
      right_kept =
          subst (λ s. IsTrue (is_kept s)) (sym (swaps_stays kept_of page_state_of words_of (pages_below level (words_of old) (items_of (words_of old l) ++ items_of (words_of old r))) (pages_below level (words_of mid) items) old mid joined.swaps r right_none (readable_kept _ two.right_tree.page_in_use)))
          two.right_tree.page_in_use

      used : (q : ℕ) → 0 < times q (l ∷ r ∷ []) → IsTrue (is_kept (page_state_of old q))
      used q some = elim (cases_eq q l) [
        | inl e ↦ subst (λ p. IsTrue (is_kept (page_state_of old p))) (sym e) two.left_tree.page_in_use
        | inr ne ↦ elim (cases_eq q r) [
          | inl e ↦ subst (λ p. IsTrue (is_kept (page_state_of old p))) (sym e) two.right_tree.page_in_use
          | inr other ↦ absurd (omega (arith, some, times_append q (l ∷ []) (r ∷ []), times_other q l ne, times_other q r other))
        ]
      ]

      -- and were then written, and the two pages were given up
      pub becomes_joined : (us : List Pair) (new : S) → Becomes kept_of page_state_of words_of (l ∷ r ∷ pages_below level (words_of mid) items) (pairs_below level (words_of mid) items) (suc level) us mid new
          → Becomes kept_of page_state_of words_of (l ∷ r ∷ pages_below level (words_of old) (items_of (words_of old l) ++ items_of (words_of old r))) all (suc level) us old new
      becomes_joined us new packed = record {
        below = packed.below;
        has_pairs = packed.has_pairs ∙ joined.has_pairs;
        swaps = swaps_trans kept_of page_state_of words_of (l ∷ r ∷ pages_below level (words_of old) (items_of (words_of old l) ++ items_of (words_of old r))) (l ∷ r ∷ pages_below level (words_of mid) items) (pages_below (suc level) (words_of new) us) old mid new
            (swaps_frame kept_of page_state_of words_of (pages_below level (words_of old) (items_of (words_of old l) ++ items_of (words_of old r))) (pages_below level (words_of mid) items)
            (l ∷ r ∷ pages_below level (words_of old) (items_of (words_of old l) ++ items_of (words_of old r))) (l ∷ r ∷ pages_below level (words_of mid) items) (λ q. times q (l ∷ r ∷ [])) old mid joined.swaps
            (λ q. times_append q (l ∷ r ∷ []) (pages_below level (words_of old) (items_of (words_of old l) ++ items_of (words_of old r))))
            (λ q. times_append q (l ∷ r ∷ []) (pages_below level (words_of mid) items))
            (λ q. omega (arith, two.once q, times_append q (l ∷ r ∷ []) (pages_below level (words_of old) (items_of (words_of old l) ++ items_of (words_of old r)))))
            used)
            packed.swaps;
      }

    -- the first one's items have been replaced
    module _ (all : List Pair) (given : Pair) (sub : List Slot) (mid : S)
        (first : Becomes kept_of page_state_of words_of (pages_below level (words_of old) (items_of (words_of old l))) all level (pairs_of (words_of mid) given sub) old mid) where
      r_none : times r (pages_below level (words_of old) (items_of (words_of old l))) ≡ 0
      r_none = omega (arith, right_none, times_pages level (words_of old) (items_of (words_of old l)) (items_of (words_of old r)) r)

      r_words : words_of mid r ≡ words_of old r
      r_words = swaps_same kept_of page_state_of words_of (pages_below level (words_of old) (items_of (words_of old l))) (pages_below level (words_of mid) (pairs_of (words_of mid) given sub)) old mid first.swaps r r_none (readable_kept _ two.right_tree.page_in_use)

      pub right_readable : IsTrue (is_readable (page_state_of mid r))
      right_readable =
          subst (λ s. IsTrue (is_readable s)) (sym (swaps_stays kept_of page_state_of words_of (pages_below level (words_of old) (items_of (words_of old l))) (pages_below level (words_of mid) (pairs_of (words_of mid) given sub)) old mid first.swaps r r_none (readable_kept _ two.right_tree.page_in_use)))
          (readable_kept _ two.right_tree.page_in_use)

      pub right_page : IsPage (words_of mid r)
      right_page = subst IsPage (sym r_words) two.right_tree.node.is_page

      pub right_count : words_of mid r 1 ≡ words_of old r 1
      right_count = ap (λ (w : ℕ → ℕ). w 1) r_words

      module _ (other : List Slot) (loaded : other ≡ map (λ j. At (item_place j) r) (range_with_len 0 (words_of mid r 1))) where
        pub left_ready : All (IsReady (page_state_of mid) (words_of mid)) sub → All (IsReady (page_state_of mid) (words_of mid)) (sub ++ other)
        left_ready ready =
            All-append (IsReady (page_state_of mid) (words_of mid)) sub other ready
            (subst (All (IsReady (page_state_of mid) (words_of mid))) (sym loaded) (loaded_ready (page_state_of mid) (words_of mid) r (words_of mid r 1) refl right_readable right_page))

        left_pairs : pairs_of (words_of mid) given (sub ++ other) ≡ pairs_of (words_of mid) given sub ++ items_of (words_of old r)
        left_pairs =
            map-append (pair_of (words_of mid) given) sub other
            ∙ ap (λ xs. pairs_of (words_of mid) given sub ++ xs) (ap (pairs_of (words_of mid) given) loaded ∙ loaded_pairs (words_of mid) given r (words_of mid r 1) refl ∙ ap items_of r_words)

        pub left_joined : IsRising (all ++ pairs_at level (words_of old) r)
            → Becomes kept_of page_state_of words_of (pages_below level (words_of old) (items_of (words_of old l) ++ items_of (words_of old r))) (all ++ pairs_at level (words_of old) r) level (pairs_of (words_of mid) given (sub ++ other)) old mid
        left_joined rising =
            let xs = items_of (words_of old l) in
            let ys = items_of (words_of old r) in
            let us = pairs_of (words_of mid) given sub in
            let same = back_pairs kept_of page_state_of words_of level (xs ++ ys) xs ys us all level refl old mid both_below first in
            let end = becomes_same kept_of page_state_of words_of level ys mid (back_below kept_of page_state_of words_of level (xs ++ ys) xs ys us all level refl old mid both_below first) in
            subst (λ zs. Becomes kept_of page_state_of words_of (pages_below level (words_of old) (xs ++ ys)) (all ++ pairs_at level (words_of old) r) level zs old mid) (sym left_pairs)
            (subst (λ qs. Becomes kept_of page_state_of words_of (pages_below level (words_of old) (xs ++ ys)) (all ++ qs) level (us ++ ys) old mid) same
            (becomes_append kept_of page_state_of words_of level level xs ys us ys all (pairs_below level (words_of mid) ys) old mid mid both_below first end (subst (λ qs. IsRising (all ++ qs)) (sym same) rising)))

    -- the second one's items have been replaced
    module _ (all : List Pair) (given : Pair) (sub : List Slot) (mid : S)
        (first : Becomes kept_of page_state_of words_of (pages_below level (words_of old) (items_of (words_of old r))) all level (pairs_of (words_of mid) given sub) old mid) where
      l_none : times l (pages_below level (words_of old) (items_of (words_of old r))) ≡ 0
      l_none = omega (arith, left_none, times_pages level (words_of old) (items_of (words_of old l)) (items_of (words_of old r)) l)

      l_words : words_of mid l ≡ words_of old l
      l_words = swaps_same kept_of page_state_of words_of (pages_below level (words_of old) (items_of (words_of old r))) (pages_below level (words_of mid) (pairs_of (words_of mid) given sub)) old mid first.swaps l l_none (readable_kept _ two.left_tree.page_in_use)

      pub left_readable : IsTrue (is_readable (page_state_of mid l))
      left_readable =
          subst (λ s. IsTrue (is_readable s)) (sym (swaps_stays kept_of page_state_of words_of (pages_below level (words_of old) (items_of (words_of old r))) (pages_below level (words_of mid) (pairs_of (words_of mid) given sub)) old mid first.swaps l l_none (readable_kept _ two.left_tree.page_in_use)))
          (readable_kept _ two.left_tree.page_in_use)

      pub left_page : IsPage (words_of mid l)
      left_page = subst IsPage (sym l_words) two.left_tree.node.is_page

      pub left_count : words_of mid l 1 ≡ words_of old l 1
      left_count = ap (λ (w : ℕ → ℕ). w 1) l_words

      module _ (other : List Slot) (loaded : other ≡ map (λ j. At (item_place j) l) (range_with_len 0 (words_of mid l 1))) where
        pub right_ready : All (IsReady (page_state_of mid) (words_of mid)) sub → All (IsReady (page_state_of mid) (words_of mid)) (other ++ sub)
        right_ready ready =
            All-append (IsReady (page_state_of mid) (words_of mid)) other sub
            (subst (All (IsReady (page_state_of mid) (words_of mid))) (sym loaded) (loaded_ready (page_state_of mid) (words_of mid) l (words_of mid l 1) refl left_readable left_page)) ready

        right_pairs : pairs_of (words_of mid) given (other ++ sub) ≡ items_of (words_of old l) ++ pairs_of (words_of mid) given sub
        right_pairs =
            map-append (pair_of (words_of mid) given) other sub
            ∙ ap (λ xs. xs ++ pairs_of (words_of mid) given sub) (ap (pairs_of (words_of mid) given) loaded ∙ loaded_pairs (words_of mid) given l (words_of mid l 1) refl ∙ ap items_of l_words)

        pub right_joined : IsRising (pairs_at level (words_of old) l ++ all)
            → Becomes kept_of page_state_of words_of (pages_below level (words_of old) (items_of (words_of old l) ++ items_of (words_of old r))) (pairs_at level (words_of old) l ++ all) level (pairs_of (words_of mid) given (other ++ sub)) old mid
        right_joined rising =
            let xs = items_of (words_of old l) in
            let ys = items_of (words_of old r) in
            subst (λ zs. Becomes kept_of page_state_of words_of (pages_below level (words_of old) (xs ++ ys)) (pairs_at level (words_of old) l ++ all) level zs old mid) (sym right_pairs)
            (becomes_append kept_of page_state_of words_of level level xs ys xs (pairs_of (words_of mid) given sub) (pairs_below level (words_of old) xs) all old old mid both_below
            (becomes_same kept_of page_state_of words_of level xs old two.left_tree.below) first rising)

  -- slots, after pages were only read
  pub slots_until : (before : List ℕ) (all : List Pair) (level : ℕ) (given : Pair) (slots : List Slot) (old new read : S) → IsUnchanged kept_of page_state_of words_of new read
      → Becomes kept_of page_state_of words_of before all level (pairs_of (words_of new) given slots) old new → Becomes kept_of page_state_of words_of before all level (pairs_of (words_of read) given slots) old read
  slots_until before all level given slots old new read same becomes =
      subst (λ w. Becomes kept_of page_state_of words_of before all level (pairs_of w given slots) old read) (sym same.words)
      (becomes_until kept_of page_state_of words_of before all level (pairs_of (words_of new) given slots) old new read same becomes)

  pub ready_until : (slots : List Slot) (new read : S) → IsUnchanged kept_of page_state_of words_of new read → All (IsReady (page_state_of new) (words_of new)) slots → All (IsReady (page_state_of read) (words_of read)) slots
  ready_until slots new read same ready =
      subst (λ s. All (IsReady s (words_of read)) slots) (sym same.page_state) (subst (λ w. All (IsReady (page_state_of new) w) slots) (sym same.words) ready)

  -- two branches whose children have been replaced, after pages were only read
  pub becomes_children : (level below l r : ℕ) (left right : Pair) (f : List Pair → List Pair → List Pair) (us : List Pair) (old read mid : S) → level ≡ suc below → l ≡ child left → r ≡ child right
      → IsUnchanged kept_of page_state_of words_of old read
      → Becomes kept_of page_state_of words_of (l ∷ r ∷ pages_below below (words_of read) (items_of (words_of read l) ++ items_of (words_of read r))) (f (pairs_at below (words_of read) l) (pairs_at below (words_of read) r)) (suc below) us read mid
      → Becomes kept_of page_state_of words_of (pages_below level (words_of old) (left ∷ right ∷ [])) (f (pairs_at below (words_of old) (child left)) (pairs_at below (words_of old) (child right))) level us old mid
  becomes_children level below l r left right f us old read mid e l_is r_is same becomes =
      let since = becomes_since kept_of page_state_of words_of (l ∷ r ∷ pages_below below (words_of read) (items_of (words_of read l) ++ items_of (words_of read r))) (f (pairs_at below (words_of read) l) (pairs_at below (words_of read) r)) (suc below) us old read mid same becomes in
      let here = subst (λ w. Becomes kept_of page_state_of words_of (l ∷ r ∷ pages_below below w (items_of (w l) ++ items_of (w r))) (f (pairs_at below w l) (pairs_at below w r)) (suc below) us old mid) same.words since in
      let listed = becomes_times (l ∷ r ∷ pages_below below (words_of old) (items_of (words_of old l) ++ items_of (words_of old r))) (pages_below (suc below) (words_of old) (left ∷ right ∷ [])) (f (pairs_at below (words_of old) l) (pairs_at below (words_of old) r)) (suc below) us old mid
      (neighbour_times below (page_state_of old) (words_of old) left right l r l_is r_is) here in
      let first = subst (λ p. Becomes kept_of page_state_of words_of (pages_below (suc below) (words_of old) (left ∷ right ∷ [])) (f (pairs_at below (words_of old) p) (pairs_at below (words_of old) r)) (suc below) us old mid) l_is listed in
      let second = subst (λ p. Becomes kept_of page_state_of words_of (pages_below (suc below) (words_of old) (left ∷ right ∷ [])) (f (pairs_at below (words_of old) (child left)) (pairs_at below (words_of old) p)) (suc below) us old mid) r_is first in
      subst (λ n. Becomes kept_of page_state_of words_of (pages_below n (words_of old) (left ∷ right ∷ [])) (f (pairs_at below (words_of old) (child left)) (pairs_at below (words_of old) (child right))) n us old mid) (sym e) second
