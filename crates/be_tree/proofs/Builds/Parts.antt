-- The pages of a level, which are written one after another.
use Rattle.std.proofs.Common.{◌≡◌, ℕ, zero, suc, ◌+◌, ◌-◌, ◌<◌, ◌≤◌, ◌^◌, List, [], ◌∷◌, ◌++◌, length, get_or, map, take, drop, All, ap, sym, subst, ◌∙◌, refl, arith, zero-add}
use Rattle.std.specs.List.{range_with_len}
use Rattle.std.proofs.Math.Seq.{take-length}
use Rattle.std.proofs.lemmas.List.{append-nil, get_or-map, length-append, length-drop, length-map, length-take-le, map-append, take-append-drop}
use Rattle.std.proofs.lemmas.List.Elements.{All-append, All-nil}
use Rattle.be_pages.specs.declared.room.PageState.{PageState}
use Rattle.be_pages.specs.Pages.{times, Swaps}
use Rattle.be_tree_reading.specs.Pair.{Pair}
use Rattle.be_tree_reading.specs.Key.{IsRising}
use Rattle.be_tree_reading.specs.Page.{items_of}
use Rattle.be_tree_reading.specs.Tree.{child, pairs_below, pages_below, pages_at, pairs_at, AreShaped, IsBelow, IsBranch, IsNode, IsWritten, Becomes}
use Rattle.be_tree_reading.proofs.Shape.Below.{all_left, all_right, below_left, below_right, beside_pages, child_page, pages_append, pairs_append, times_pages}
use Rattle.be_tree.specs.declared.slot.Slot.{Slot}
use Rattle.be_tree.specs.declared.slot.Slot.TheVariants.{At, Branch, New}
use Rattle.be_tree.specs.Building.{branches_of}
use Rattle.be_tree.specs.Counting.{TakesAtMost}
use Rattle.be_tree.specs.Slot.{branch_to, pair_of, pairs_of, IsBranchSlot, IsReady}
use Rattle.be_tree.proofs.Builds.Fewest.{no_pages, no_pairs}
use Rattle.be_tree.proofs.Nodes.Slots.{IsApart, all_apart_nil, apart_branch, all_ready_swaps, branches_ready, child_branch, pairs_swaps}
use Rattle.be_tree.proofs.Shape.Parts.{all_one, back_below, back_pairs, becomes_append, becomes_branch, becomes_same}
use Rattle.be_tree.proofs.Sizes.InHand.{takes_same, takes_swaps}

-- a list that is read item by item
pub stored_list : {A : Type 0} (f : ℕ → A) (xs : List A) (n : ℕ) → n ≡ length xs → ((k : ℕ) (d : A) → k < n → f k ≡ get_or xs k d) → map f (range_with_len 0 n) ≡ xs
stored_list f xs n len same = subst (λ m. map f (range_with_len 0 m) ≡ xs) (sym len) (from f xs 0 (λ k d lt. ap f (zero-add k) ∙ same k d (omega (arith, len, lt))))
  where
    from : {A : Type 0} (f : ℕ → A) (xs : List A) (a : ℕ) → ((k : ℕ) (d : A) → k < length xs → f (a + k) ≡ get_or xs k d) → map f (range_with_len a (length xs)) ≡ xs
    from f [] a same = refl
    from f (x ∷ xs) a same =
        let e : a + 0 ≡ a = omega arith in
        ap2 (ap f (sym e) ∙ same 0 x (omega arith)) (from f xs (a + 1) (λ k d lt. let e : a + 1 + k ≡ a + suc k = omega arith in ap f e ∙ same (suc k) d (omega (arith, lt))))
      where
        ap2 : {A : Type 0} {x y : A} {xs ys : List A} → x ≡ y → xs ≡ ys → x ∷ xs ≡ y ∷ ys
        ap2 p q = cc

-- branches whose pages are below them aren't among pages that aren't
apart_below : (m : ℕ) (w : ℕ → ℕ → ℕ) (before : List ℕ) (slots : List Slot) → All IsBranchSlot slots
    → ((q : ℕ) → times q before + times q (pages_below (suc m) w (branches_of w slots)) ≤ 1) → All (IsApart before) slots
apart_below m w before slots are once = λ i d lt.
    let given : Pair = record { key = []; payload = [] } in
    one (get_or slots i d) (are i d lt)
    (subst (λ b. 0 < times (child b) (pages_below (suc m) w (branches_of w slots))) (get_or-map (pair_of w given) slots i d given lt)
    (child_page m w (branches_of w slots) i given (omega (arith, lt, length-map slots (pair_of w given)))))
  where
    one : (slot : Slot) → IsBranchSlot slot → 0 < times (child (pair_of w (record { key = []; payload = [] }) slot)) (pages_below (suc m) w (branches_of w slots)) → IsApart before slot
    one (At at page) is some = absurd is
    one (Branch page) is some = apart_branch before page (omega (arith, once page, subst (λ p. 0 < times p (pages_below (suc m) w (branches_of w slots))) (child_branch w page is) some))
    one New is some = absurd is

-- the first items of a list, up to the end of a part of it
pub take_part : {A : Type 0} (at end : ℕ) (xs : List A) → at ≤ end → take end xs ≡ take at xs ++ take (end - at) (drop at xs)
take_part zero end xs le = let e : end - 0 ≡ end = omega arith in ap (λ n. take n xs) (sym e)
take_part (suc at) zero xs le = absurd (omega (arith, le))
take_part (suc at) (suc end) [] le = sym (none_taken (suc end - suc at))
  where
    none_taken : {A : Type 0} (n : ℕ) → take {A = A} n [] ≡ []
    none_taken zero = refl
    none_taken (suc n) = refl
take_part (suc at) (suc end) (x ∷ xs) le =
    let e : suc end - suc at ≡ end - at = omega arith in
    ap (λ ys. x ∷ ys) (take_part at end xs (omega (arith, le)) ∙ ap (λ n. take at xs ++ take n (drop at xs)) (sym e))

-- a pair with a given key and payload
pub same_pair : (p : Pair) (key payload : List ℕ) → p.key ≡ key → p.payload ≡ payload → p ≡ record { key = key; payload = payload }
same_pair p key payload k e = λ i. record { key = k i; payload = e i }

module _ {S K : Type 0} (kept_of : S → K) (page_state_of : S → ℕ → PageState) (words_of : S → ℕ → ℕ → ℕ) where
  -- one more branch, to a page that was taken
  pub one_branch : (level : ℕ) (above : List Slot) (page : ℕ) (old new : S) → IsBelow (suc level) (page_state_of old) (words_of old) (branches_of (words_of old) above) → All IsBranchSlot above
      → Swaps kept_of page_state_of words_of [] (page ∷ []) old new
      → branches_of (words_of new) (above ++ Branch page ∷ []) ≡ branches_of (words_of old) above ++ branch_to (words_of new) page ∷ []
  one_branch level above page old new below are swaps =
      let given : Pair = record { key = []; payload = [] } in
      map-append (pair_of (words_of new) given) above (Branch page ∷ [])
      ∙ ap (λ xs. xs ++ branch_to (words_of new) page ∷ [])
      (pairs_swaps kept_of page_state_of words_of [] (page ∷ []) old new swaps given above (all_apart_nil above) (branches_ready level (page_state_of old) (words_of old) given above are below))

  pub one_slot : (above : List Slot) (page : ℕ) → All IsBranchSlot above → page < 2 ^ 32 → All IsBranchSlot (above ++ Branch page ∷ [])
  one_slot above page are small = All-append IsBranchSlot above (Branch page ∷ []) are (all_one IsBranchSlot (Branch page) small)

  -- the first `at` items of a level are on pages, to which there are these branches
  pub record IsPart (level : ℕ) (slots above : List Slot) (at : ℕ) (old now : S) : Type 0 where
    pub becomes : Becomes kept_of page_state_of words_of (pages_below level (words_of old) (branches_of (words_of old) (take at slots))) (pairs_below level (words_of old) (branches_of (words_of old) (take at slots)))
        (suc level) (branches_of (words_of now) above) old now
    pub are : All IsBranchSlot above
    pub pages : length (pages_below (suc level) (words_of now) (branches_of (words_of now) above)) ≡ length above + length (pages_below level (words_of old) (branches_of (words_of old) (take at slots)))
    pub holds : TakesAtMost (length above) (page_state_of old) (page_state_of now)

  none_below : (level : ℕ) (s : ℕ → PageState) (w : ℕ → ℕ → ℕ) → IsBelow (suc level) s w []
  none_below level s w = record {
    keys_fit = All-nil (λ item. length item.key ≤ 264);
    shaped = All-nil (λ b. IsNode level 6 (w (child b)) × IsBranch b (pairs_at level w (child b)) × AreShaped level w (items_of (w (child b))));
    rising = tt;
    once = λ q. omega arith;
    in_use = λ q some. absurd (omega (arith, some));
  }

  pub no_part : (level : ℕ) (slots : List Slot) (old : S) → IsPart level slots [] 0 old old
  no_part level slots old = record {
    becomes = subst (λ ps. Becomes kept_of page_state_of words_of ps (pairs_below level (words_of old) []) (suc level) [] old old) (sym (no_pages level (words_of old)))
        (subst (λ xs. Becomes kept_of page_state_of words_of [] xs (suc level) [] old old) (sym (no_pairs level (words_of old)))
        (becomes_same kept_of page_state_of words_of (suc level) [] old (none_below level (page_state_of old) (words_of old))));
    are = All-nil IsBranchSlot;
    pages = omega (arith, ap length (no_pages level (words_of old)));
    holds = takes_same (page_state_of old) (page_state_of old) refl;
  }

  -- the next items are written to a page
  module _ (m : ℕ) (slots above part : List Slot) (at end : ℕ) (old mid : S) (is : take end slots ≡ take at slots ++ part)
      (below : IsBelow (suc m) (page_state_of old) (words_of old) (branches_of (words_of old) slots)) (are : All IsBranchSlot slots)
      (first : IsPart (suc m) slots above at old mid) where
    halves : branches_of (words_of old) (take end slots) ≡ branches_of (words_of old) (take at slots) ++ branches_of (words_of old) part
    halves = ap (branches_of (words_of old)) is ∙ map-append (pair_of (words_of old) (record { key = []; payload = [] })) (take at slots) part

    whole : branches_of (words_of old) slots ≡ branches_of (words_of old) (take end slots) ++ branches_of (words_of old) (drop end slots)
    whole = ap (branches_of (words_of old)) (sym (take-append-drop end slots)) ∙ map-append (pair_of (words_of old) (record { key = []; payload = [] })) (take end slots) (drop end slots)

    below_end : IsBelow (suc m) (page_state_of old) (words_of old) (branches_of (words_of old) (take end slots))
    below_end = below_left (suc m) (page_state_of old) (words_of old) (branches_of (words_of old) (take end slots)) (branches_of (words_of old) (drop end slots))
        (subst (IsBelow (suc m) (page_state_of old) (words_of old)) whole below)

    both : IsBelow (suc m) (page_state_of old) (words_of old) (branches_of (words_of old) (take at slots) ++ branches_of (words_of old) part)
    both = subst (IsBelow (suc m) (page_state_of old) (words_of old)) halves below_end

    part_are : All IsBranchSlot part
    part_are = all_right IsBranchSlot (take at slots) part
        (subst (All IsBranchSlot) is (all_left IsBranchSlot (take end slots) (drop end slots) (subst (All IsBranchSlot) (sym (take-append-drop end slots)) are)))

    part_below : IsBelow (suc m) (page_state_of old) (words_of old) (branches_of (words_of old) part)
    part_below = below_right (suc m) (page_state_of old) (words_of old) (branches_of (words_of old) (take at slots)) (branches_of (words_of old) part) both

    once : (q : ℕ) → times q (pages_below (suc m) (words_of old) (branches_of (words_of old) (take at slots))) + times q (pages_below (suc m) (words_of old) (branches_of (words_of old) part)) ≤ 1
    once q = omega (arith, times_pages (suc m) (words_of old) (branches_of (words_of old) (take at slots)) (branches_of (words_of old) part) q, both.once q)

    part_apart : All (IsApart (pages_below (suc m) (words_of old) (branches_of (words_of old) (take at slots)))) part
    part_apart = apart_below m (words_of old) (pages_below (suc m) (words_of old) (branches_of (words_of old) (take at slots))) part part_are once

    ready : All (IsReady (page_state_of old) (words_of old)) part
    ready = branches_ready m (page_state_of old) (words_of old) (record { key = []; payload = [] }) part part_are part_below

    pub part_ready : All (IsReady (page_state_of mid) (words_of mid)) part
    part_ready = all_ready_swaps kept_of page_state_of words_of (pages_below (suc m) (words_of old) (branches_of (words_of old) (take at slots))) (pages_below (suc (suc m)) (words_of mid) (branches_of (words_of mid) above)) old mid first.becomes.swaps part
        part_apart ready

    part_same : branches_of (words_of mid) part ≡ branches_of (words_of old) part
    part_same = pairs_swaps kept_of page_state_of words_of (pages_below (suc m) (words_of old) (branches_of (words_of old) (take at slots))) (pages_below (suc (suc m)) (words_of mid) (branches_of (words_of mid) above)) old mid first.becomes.swaps
        (record { key = []; payload = [] }) part part_apart ready

    module _ (page : ℕ) (new : S) (enough : 6 ≤ length part) (small : page < 2 ^ 32)
        (written : IsWritten (suc m) (words_of new) (branches_of (words_of mid) part) (branch_to (words_of new) page)) (swaps : Swaps kept_of page_state_of words_of [] (page ∷ []) mid new) where
      mid_below : IsBelow (suc m) (page_state_of mid) (words_of mid) (branches_of (words_of old) part)
      mid_below = back_below kept_of page_state_of words_of (suc m) (branches_of (words_of old) (take end slots)) (branches_of (words_of old) (take at slots)) (branches_of (words_of old) part) (branches_of (words_of mid) above)
          (pairs_below (suc m) (words_of old) (branches_of (words_of old) (take at slots))) (suc (suc m)) halves old mid below_end first.becomes

      mid_pairs : pairs_below (suc m) (words_of mid) (branches_of (words_of old) part) ≡ pairs_below (suc m) (words_of old) (branches_of (words_of old) part)
      mid_pairs = back_pairs kept_of page_state_of words_of (suc m) (branches_of (words_of old) (take end slots)) (branches_of (words_of old) (take at slots)) (branches_of (words_of old) part) (branches_of (words_of mid) above)
          (pairs_below (suc m) (words_of old) (branches_of (words_of old) (take at slots))) (suc (suc m)) halves old mid below_end first.becomes

      mid_pages : pages_below (suc m) (words_of mid) (branches_of (words_of old) part) ≡ pages_below (suc m) (words_of old) (branches_of (words_of old) part)
      mid_pages = beside_pages kept_of page_state_of words_of (pages_below (suc m) (words_of old) (branches_of (words_of old) (take at slots))) (pages_below (suc (suc m)) (words_of mid) (branches_of (words_of mid) above)) old mid first.becomes.swaps
          (suc m) (branches_of (words_of old) part) part_below once

      here : IsWritten (suc m) (words_of new) (branches_of (words_of old) part) (branch_to (words_of new) page)
      here = subst (λ zs. IsWritten (suc m) (words_of new) zs (branch_to (words_of new) page)) part_same written

      took : Swaps kept_of page_state_of words_of [] (child (branch_to (words_of new) page) ∷ []) mid new
      took = subst (λ p. Swaps kept_of page_state_of words_of [] (p ∷ []) mid new) (sym (child_branch (words_of new) page small)) swaps

      alone : (q : ℕ) → times q [] + times q (pages_below (suc m) (words_of mid) (branches_of (words_of old) part)) ≤ 1
      alone q = omega (arith, mid_below.once q)

      last : Becomes kept_of page_state_of words_of (pages_below (suc m) (words_of mid) (branches_of (words_of old) part)) (pairs_below (suc m) (words_of mid) (branches_of (words_of old) part)) (suc (suc m)) (branch_to (words_of new) page ∷ []) mid new
      last = becomes_branch kept_of page_state_of words_of (suc m) (branches_of (words_of old) part) (branch_to (words_of new) page) [] mid new mid_below
          (omega (arith, enough, length-map part (pair_of (words_of old) (record { key = []; payload = [] })))) here took alone

      pairs_are : pairs_below (suc m) (words_of old) (branches_of (words_of old) (take at slots)) ++ pairs_below (suc m) (words_of mid) (branches_of (words_of old) part) ≡ pairs_below (suc m) (words_of old) (branches_of (words_of old) (take end slots))
      pairs_are = ap (λ zs. pairs_below (suc m) (words_of old) (branches_of (words_of old) (take at slots)) ++ zs) mid_pairs
          ∙ sym (pairs_append (suc m) (words_of old) (branches_of (words_of old) (take at slots)) (branches_of (words_of old) part))
          ∙ ap (pairs_below (suc m) (words_of old)) (sym halves)

      joined : Becomes kept_of page_state_of words_of (pages_below (suc m) (words_of old) (branches_of (words_of old) (take at slots) ++ branches_of (words_of old) part))
          (pairs_below (suc m) (words_of old) (branches_of (words_of old) (take at slots)) ++ pairs_below (suc m) (words_of mid) (branches_of (words_of old) part)) (suc (suc m))
          (branches_of (words_of mid) above ++ branch_to (words_of new) page ∷ []) old new
      joined = becomes_append kept_of page_state_of words_of (suc m) (suc (suc m)) (branches_of (words_of old) (take at slots)) (branches_of (words_of old) part) (branches_of (words_of mid) above) (branch_to (words_of new) page ∷ [])
          (pairs_below (suc m) (words_of old) (branches_of (words_of old) (take at slots))) (pairs_below (suc m) (words_of mid) (branches_of (words_of old) part)) old mid new both first.becomes last
          (subst IsRising (sym pairs_are) below_end.rising)

      branches_are : branches_of (words_of new) (above ++ Branch page ∷ []) ≡ branches_of (words_of mid) above ++ branch_to (words_of new) page ∷ []
      branches_are = one_branch (suc m) above page mid new first.becomes.below first.are swaps

      old_pages : pages_below (suc (suc m)) (words_of new) (branches_of (words_of mid) above) ≡ pages_below (suc (suc m)) (words_of mid) (branches_of (words_of mid) above)
      old_pages = beside_pages kept_of page_state_of words_of [] (page ∷ []) mid new swaps (suc (suc m)) (branches_of (words_of mid) above) first.becomes.below (λ q. omega (arith, first.becomes.below.once q))

      new_pages : pages_below (suc m) (words_of new) (items_of (words_of new (child (branch_to (words_of new) page)))) ≡ pages_below (suc m) (words_of old) (branches_of (words_of old) part)
      new_pages = ap (pages_below (suc m) (words_of new)) here.has_items
          ∙ beside_pages kept_of page_state_of words_of [] (child (branch_to (words_of new) page) ∷ []) mid new took (suc m) (branches_of (words_of old) part) mid_below alone
          ∙ mid_pages

      counted : length (pages_below (suc (suc m)) (words_of new) (branches_of (words_of mid) above ++ branch_to (words_of new) page ∷ []))
          ≡ length (above ++ Branch page ∷ []) + length (pages_below (suc m) (words_of old) (branches_of (words_of old) (take end slots)))
      counted = omega (
        arith,
        ap length (pages_append (suc (suc m)) (words_of new) (branches_of (words_of mid) above) (branch_to (words_of new) page ∷ [])),
        length-append (pages_below (suc (suc m)) (words_of new) (branches_of (words_of mid) above)) (pages_below (suc (suc m)) (words_of new) (branch_to (words_of new) page ∷ [])),
        ap length old_pages,
        ap length (append-nil (pages_at (suc m) (words_of new) (child (branch_to (words_of new) page)))),
        ap length new_pages,
        first.pages,
        length-append above (Branch page ∷ []),
        ap length (ap (pages_below (suc m) (words_of old)) halves ∙ pages_append (suc m) (words_of old) (branches_of (words_of old) (take at slots)) (branches_of (words_of old) part)),
        length-append (pages_below (suc m) (words_of old) (branches_of (words_of old) (take at slots))) (pages_below (suc m) (words_of old) (branches_of (words_of old) part)),
      )

      pub more_part : IsPart (suc m) slots (above ++ Branch page ∷ []) end old new
      more_part = record {
        becomes = subst (λ bs. Becomes kept_of page_state_of words_of (pages_below (suc m) (words_of old) (branches_of (words_of old) (take end slots))) (pairs_below (suc m) (words_of old) (branches_of (words_of old) (take end slots))) (suc (suc m)) bs old new)
            (sym branches_are)
            (subst (λ ps. Becomes kept_of page_state_of words_of (pages_below (suc m) (words_of old) (branches_of (words_of old) (take end slots))) ps (suc (suc m)) (branches_of (words_of mid) above ++ branch_to (words_of new) page ∷ []) old new) pairs_are
            (subst (λ zs. Becomes kept_of page_state_of words_of (pages_below (suc m) (words_of old) zs) (pairs_below (suc m) (words_of old) (branches_of (words_of old) (take at slots)) ++ pairs_below (suc m) (words_of mid) (branches_of (words_of old) part)) (suc (suc m))
            (branches_of (words_of mid) above ++ branch_to (words_of new) page ∷ []) old new) (sym halves) joined));
        are = one_slot above page first.are small;
        pages = ap (λ bs. length (pages_below (suc (suc m)) (words_of new) bs)) branches_are ∙ counted;
        holds = λ n. omega (arith, length-append above (Branch page ∷ []), first.holds n, takes_swaps kept_of page_state_of words_of [] (page ∷ []) mid new swaps n);
      }

  -- the same at a level that is given by a number above 0
  module _ (level : ℕ) (high : 0 < level) (slots above : List Slot) (at count : ℕ) (old mid : S)
      (below : IsBelow level (page_state_of old) (words_of old) (branches_of (words_of old) slots)) (are : All IsBranchSlot slots)
      (first : IsPart (suc (level - 1)) slots above at old mid) where
    is : level ≡ suc (level - 1)
    is = omega (arith, high)

    its : IsBelow (suc (level - 1)) (page_state_of old) (words_of old) (branches_of (words_of old) slots)
    its = subst (λ n. IsBelow n (page_state_of old) (words_of old) (branches_of (words_of old) slots)) is below

    parted : take (at + count) slots ≡ take at slots ++ take (at + count - at) (drop at slots)
    parted = take_part at (at + count) slots (omega arith)

    pub next_ready : All (IsReady (page_state_of mid) (words_of mid)) (take (at + count - at) (drop at slots))
    next_ready = part_ready (level - 1) slots above (take (at + count - at) (drop at slots)) at (at + count) old mid parted its are first

    pub next_page : (given : Pair) (page : ℕ) (new : S) → given.key ≡ [] → given.payload ≡ [] → 6 ≤ count → at + count ≤ length slots → page < 2 ^ 32
        → IsWritten level (words_of new) (pairs_of (words_of mid) given (take (at + count - at) (drop at slots))) (branch_to (words_of new) page) → Swaps kept_of page_state_of words_of [] (page ∷ []) mid new
        → IsPart (suc (level - 1)) slots (above ++ Branch page ∷ []) (at + count) old new
    next_page given page new no_key no_payload enough fits small written swaps =
        let part = take (at + count - at) (drop at slots) in
        let long : length part ≡ count = omega (arith, length-take-le (at + count - at) (drop at slots) (omega (arith, length-drop at slots, fits))) in
        more_part (level - 1) slots above part at (at + count) old mid parted its are first page new (omega (arith, enough, long)) small
        (subst (λ n. IsWritten n (words_of new) (branches_of (words_of mid) part) (branch_to (words_of new) page)) is
        (subst (λ p. IsWritten level (words_of new) (pairs_of (words_of mid) p part) (branch_to (words_of new) page)) (same_pair given [] [] no_key no_payload) written)) swaps

  module _ (level : ℕ) (high : 0 < level) (slots above : List Slot) (at : ℕ) (old new : S) (e : at ≡ length slots) (part : IsPart (suc (level - 1)) slots above at old new) where
    this : suc (level - 1) ≡ level
    this = omega (arith, high)

    all : take at slots ≡ slots
    all = ap (λ n. take n slots) e ∙ take-length slots

    pub all_parts : Becomes kept_of page_state_of words_of (pages_below level (words_of old) (branches_of (words_of old) slots)) (pairs_below level (words_of old) (branches_of (words_of old) slots)) (suc level) (branches_of (words_of new) above) old new
    all_parts =
        subst (λ xs. Becomes kept_of page_state_of words_of (pages_below level (words_of old) (branches_of (words_of old) xs)) (pairs_below level (words_of old) (branches_of (words_of old) xs)) (suc level) (branches_of (words_of new) above) old new) all
        (subst (λ n. Becomes kept_of page_state_of words_of (pages_below n (words_of old) (branches_of (words_of old) (take at slots))) (pairs_below n (words_of old) (branches_of (words_of old) (take at slots))) (suc n) (branches_of (words_of new) above) old new) this
        part.becomes)

    pub all_pages : length (pages_below (suc level) (words_of new) (branches_of (words_of new) above)) ≡ length above + length (pages_below level (words_of old) (branches_of (words_of old) slots))
    all_pages =
        subst (λ xs. length (pages_below (suc level) (words_of new) (branches_of (words_of new) above)) ≡ length above + length (pages_below level (words_of old) (branches_of (words_of old) xs))) all
        (subst (λ n. length (pages_below (suc n) (words_of new) (branches_of (words_of new) above)) ≡ length above + length (pages_below n (words_of old) (branches_of (words_of old) (take at slots)))) this part.pages)
