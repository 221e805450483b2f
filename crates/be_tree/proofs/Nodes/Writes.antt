-- Writing unwritten nodes, which replaces the pages that had their items.
use Rattle.std.proofs.Common.{◌≡◌, ◌≢◌, ℕ, suc, ◌+◌, ◌<◌, ◌≤◌, ◌^◌, List, [], ◌∷◌, ◌++◌, length, All, IsTrue, ap, sym, subst, ◌∙◌, arith}
use Rattle.std.proofs.lemmas.List.{length-map, map-append}
use mathlib.Core.Bool.{false≢true}
use Rattle.be_pages.specs.declared.room.PageState.{PageState}
use Rattle.be_pages.specs.declared.room.PageState.TheVariants.{Free}
use Rattle.be_pages.specs.Pages.{is_kept, times, Swaps}
use Rattle.be_tree.specs.declared.slot.Slot.{Slot}
use Rattle.be_tree_reading.specs.Pair.{Pair}
use Rattle.be_tree_reading.specs.Page.{items_of, level_of, IsPage}
use Rattle.be_tree.specs.Slot.{branch_to, pair_of, pairs_of, IsReady}
use Rattle.be_tree_reading.specs.Tree.{child, pairs_below, pages_below, IsBelow, IsWritten, Becomes}
use Rattle.be_tree_reading.proofs.Frame.{times_append, times_itself, times_other, one_page, alone, one_beside, swaps_after, swaps_both, swaps_fresh, swaps_same, readable_kept}
use Rattle.be_tree.proofs.Shape.Parts.{becomes_branch, becomes_two}
use Rattle.be_tree_reading.proofs.Putting.Puts.{given_up_page}
use Rattle.be_tree.proofs.Nodes.Slots.{all_apart_nil, child_branch, pairs_swaps, written_at}

-- a page keeps its items while others are written
pub written_same : (level : ℕ) (v w : ℕ → ℕ → ℕ) (items : List Pair) (page : ℕ) → page < 2 ^ 32 → w page ≡ v page → 0 < length items
    → IsWritten level v items (branch_to v page) → IsWritten level w items (branch_to w page)
written_same level v w items page small same some written =
    let is = child_branch v page small in
    written_at level w items page small
    (subst IsPage (sym same) (subst (λ p. IsPage (v p)) is written.is_page))
    (ap level_of same ∙ subst (λ p. level_of (v p) ≡ level) is written.at_level)
    (ap items_of same ∙ subst (λ p. items_of (v p) ≡ items) is written.has_items)
    some

-- a page that was free isn't one that is in use
pub free_other : (s : ℕ → PageState) (free used : ℕ) → s free ≡ Free → IsTrue (is_kept (s used)) → free ≢ used
free_other s free used is kept e = false≢true (ap is_kept (sym is) ∙ ap (λ q. is_kept (s q)) e ∙ kept)

some_page : (p : ℕ) → 0 < times p (p ∷ [])
some_page p = omega (arith, times_itself p)

module _ {S K : Type 0} (kept_of : S → K) (page_state_of : S → ℕ → PageState) (words_of : S → ℕ → ℕ → ℕ) (level : ℕ) (given : Pair) where
  -- writing to one page
  pub one_written : (slots : List Slot) (source : List ℕ) (page : ℕ) (old new : S)
      → IsBelow level (page_state_of old) (words_of old) (pairs_of (words_of old) given slots) → 6 ≤ length slots
      → IsWritten level (words_of new) (pairs_of (words_of old) given slots) (branch_to (words_of new) page) → page < 2 ^ 32
      → Swaps kept_of page_state_of words_of source (page ∷ []) old new
      → ((q : ℕ) → times q source + times q (pages_below level (words_of old) (pairs_of (words_of old) given slots)) ≤ 1)
      → Becomes kept_of page_state_of words_of (source ++ pages_below level (words_of old) (pairs_of (words_of old) given slots)) (pairs_below level (words_of old) (pairs_of (words_of old) given slots)) (suc level)
      (branch_to (words_of new) page ∷ []) old new
  one_written slots source page old new below enough written small swaps apart =
      becomes_branch kept_of page_state_of words_of level (pairs_of (words_of old) given slots) (branch_to (words_of new) page) source old new below
      (omega (arith, enough, length-map slots (pair_of (words_of old) given))) written
      (subst (λ p. Swaps kept_of page_state_of words_of source (p ∷ []) old new) (sym (child_branch (words_of new) page small)) swaps) apart

  -- writing to two pages
  pub two_written : (front back slots : List Slot) (source : List ℕ) (left right : ℕ) (old new : S) → slots ≡ front ++ back
      → IsBelow level (page_state_of old) (words_of old) (pairs_of (words_of old) given slots) → 6 ≤ length front → 6 ≤ length back
      → IsWritten level (words_of new) (pairs_of (words_of old) given front) (branch_to (words_of new) left) → left < 2 ^ 32
      → IsWritten level (words_of new) (pairs_of (words_of old) given back) (branch_to (words_of new) right) → right < 2 ^ 32
      → Swaps kept_of page_state_of words_of source (left ∷ right ∷ []) old new
      → ((q : ℕ) → times q source + times q (pages_below level (words_of old) (pairs_of (words_of old) given slots)) ≤ 1)
      → times left (right ∷ []) ≡ 0
      → Becomes kept_of page_state_of words_of (source ++ pages_below level (words_of old) (pairs_of (words_of old) given slots)) (pairs_below level (words_of old) (pairs_of (words_of old) given slots)) (suc level)
      (branch_to (words_of new) left ∷ branch_to (words_of new) right ∷ []) old new
  two_written front back slots source left right old new is below first_enough last_enough first small last last_small swaps apart different =
      let v = words_of old in
      let w = words_of new in
      let whole : pairs_of v given slots ≡ pairs_of v given front ++ pairs_of v given back = ap (pairs_of v given) is ∙ map-append (pair_of v given) front back in
      let l : left ≡ child (branch_to w left) = sym (child_branch w left small) in
      let r : right ≡ child (branch_to w right) = sym (child_branch w right last_small) in
      let one : (q : ℕ) → times q (left ∷ right ∷ []) ≤ 1 = λ q. omega (arith, times_append q (left ∷ []) (right ∷ []), one_beside left (right ∷ []) different (λ p. one_page p right) q) in
      subst (λ xs. Becomes kept_of page_state_of words_of (source ++ pages_below level v xs) (pairs_below level v xs) (suc level) (branch_to w left ∷ branch_to w right ∷ []) old new) (sym whole)
      (becomes_two kept_of page_state_of words_of level (pairs_of v given front) (pairs_of v given back) (branch_to w left) (branch_to w right) source old new
      (subst (IsBelow level (page_state_of old) v) whole below)
      (omega (arith, first_enough, length-map front (pair_of v given))) (omega (arith, last_enough, length-map back (pair_of v given))) first last
      (subst (λ p. Swaps kept_of page_state_of words_of source (p ∷ child (branch_to w right) ∷ []) old new) l (subst (λ p. Swaps kept_of page_state_of words_of source (left ∷ p ∷ []) old new) r swaps))
      (λ q. subst (λ xs. times q source + times q (pages_below level v xs) ≤ 1) whole (apart q))
      (λ q. subst (λ p. times q (p ∷ child (branch_to w right) ∷ []) ≤ 1) l (subst (λ p. times q (left ∷ p ∷ []) ≤ 1) r (one q))))

  -- the second page was taken, and then the first one replaced the old page
  pub parts_written : (front back slots : List Slot) (page left right : ℕ) (old mid new : S) → slots ≡ front ++ back
      → IsBelow level (page_state_of old) (words_of old) (pairs_of (words_of old) given slots) → 6 ≤ length front → 6 ≤ length back
      → All (IsReady (page_state_of old) (words_of old)) front
      → IsTrue (is_kept (page_state_of old page)) → times page (pages_below level (words_of old) (pairs_of (words_of old) given slots)) ≡ 0
      → IsWritten level (words_of mid) (pairs_of (words_of old) given back) (branch_to (words_of mid) right) → right < 2 ^ 32 → Swaps kept_of page_state_of words_of [] (right ∷ []) old mid
      → IsWritten level (words_of new) (pairs_of (words_of mid) given front) (branch_to (words_of new) left) → left < 2 ^ 32 → Swaps kept_of page_state_of words_of (page ∷ []) (left ∷ []) mid new
      → Becomes kept_of page_state_of words_of (page ∷ pages_below level (words_of old) (pairs_of (words_of old) given slots)) (pairs_below level (words_of old) (pairs_of (words_of old) given slots)) (suc level)
      (branch_to (words_of new) left ∷ branch_to (words_of new) right ∷ []) old new
  parts_written front back slots page left right old mid new is below first_enough last_enough ready used apart last last_small took first small wrote =
      let free = swaps_fresh kept_of page_state_of words_of [] (right ∷ []) old mid took right (omega arith) (some_page right) in
      let other : times right (page ∷ []) ≡ 0 = times_other right page (free_other (page_state_of old) right page free used) in
      let right_used = swaps_after kept_of page_state_of words_of [] (right ∷ []) old mid took right (some_page right) in
      let right_same = swaps_same kept_of page_state_of words_of (page ∷ []) (left ∷ []) mid new wrote right other (readable_kept (page_state_of mid right) right_used) in
      let not_left : times right (left ∷ []) ≡ 0 = given_up_page kept_of page_state_of words_of (page ∷ []) (left ∷ []) right mid new wrote other right_used in
      let same = pairs_swaps kept_of page_state_of words_of [] (right ∷ []) old mid took given front (all_apart_nil front) ready in
      let swaps =
      swaps_both kept_of page_state_of words_of [] (right ∷ []) (page ∷ []) (left ∷ []) (page ∷ []) (left ∷ right ∷ []) old mid new took wrote
      (λ q. omega arith) (λ q. omega (arith, times_append q (left ∷ []) (right ∷ []))) (λ q. one_page q page) (λ q. one_page q right) (alone (λ q. IsTrue (is_kept (page_state_of old q))) page used) in
      two_written front back slots (page ∷ []) left right old new is below first_enough last_enough
      (subst (λ xs. IsWritten level (words_of new) xs (branch_to (words_of new) left)) same first) small
      (written_same level (words_of mid) (words_of new) (pairs_of (words_of old) given back) right last_small right_same (omega (arith, last_enough, length-map back (pair_of (words_of old) given))) last) last_small
      swaps (one_beside page (pages_below level (words_of old) (pairs_of (words_of old) given slots)) apart below.once)
      (times_other left right (λ e. absurd (omega (arith, not_left, ap (λ p. times p (left ∷ [])) e, times_itself left))))
