-- The leaves of a builder.
use Rattle.std.proofs.Common.{◌≡◌, ℕ, zero, suc, ◌+◌, ◌-◌, ◌<◌, ◌≤◌, ◌^◌, List, [], ◌∷◌, ◌++◌, length, drop, take, All, ap, sym, subst, ◌∙◌, refl, arith}
use Rattle.std.proofs.lemmas.List.{append-nil, append_assoc, length-append, length-drop, length-map, take-append-drop}
use Rattle.std.proofs.Math.ListN.{drop_of_length-le}
use Rattle.be_pages.specs.declared.room.PageState.{PageState}
use Rattle.be_pages.specs.Pages.{Swaps}
use Rattle.be_tree_reading.specs.Pair.{Pair}
use Rattle.be_tree_reading.specs.Key.{IsRising}
use Rattle.be_tree_reading.specs.Tree.{child, pages, pairs_below, pages_below, IsBelow, IsWritten, Becomes, BecomesTree}
use Rattle.be_tree_reading.proofs.Order.{IsRising_left, IsRising_right}
use Rattle.be_tree_reading.proofs.Shape.Below.{all_left, all_right}
use Rattle.be_tree.specs.declared.slot.Slot.{Slot}
use Rattle.be_tree.specs.declared.slot.Slot.TheVariants.{Branch}
use Rattle.be_tree.specs.declared.building.TreeBuilder.{TreeBuilder}
use Rattle.be_tree.specs.Building.{branches_of, pairs_given, pages_taken, pages_under, AreFewest, Gains, HoldsFewer, IsBegun, IsBuilder, IsShort, Writes, WritesAll}
use Rattle.be_tree.specs.Counting.{in_hand, TakesAtMost}
use Rattle.be_tree.specs.Slot.{branch_to, pair_of, IsBranchSlot}
use Rattle.be_tree.proofs.Builds.Parts.{one_branch, one_slot}
use Rattle.be_tree.proofs.Nodes.Slots.{child_branch}
use Rattle.be_tree.proofs.Sizes.Refusals.{takes_page}
use Rattle.be_tree.proofs.Builds.Fewest.{leaf_pages, needs}
use Rattle.be_tree.proofs.Builds.Levels.{fewest_root, low_more, root_pages}
use Rattle.be_tree_reading.proofs.Frame.{swaps_trans}
use Rattle.be_tree_reading.proofs.Shape.Roots.{root_written}
use Rattle.be_tree.proofs.Shape.Parts.{becomes_append, becomes_branch, becomes_same}

-- pairs that ascend, with no pages below them
pub pairs_only : (s : ℕ → PageState) (w : ℕ → ℕ → ℕ) (items : List Pair) → All (λ item. length item.key ≤ 264) items → IsRising items → IsBelow 0 s w items
pairs_only s w items fit rising = record {
  keys_fit = fit;
  shaped = tt;
  rising = rising;
  once = λ q. omega arith;
  in_use = λ q some. absurd (omega (arith, some));
}

module _ {S K : Type 0} (kept_of : S → K) (page_state_of : S → ℕ → PageState) (words_of : S → ℕ → ℕ → ℕ) where
  -- a leaf is written after others
  pub one_leaf : (leaves : List Slot) (part : List Pair) (page : ℕ) (old new : S) → IsBelow 1 (page_state_of old) (words_of old) (branches_of (words_of old) leaves) → All IsBranchSlot leaves
      → All (λ item. length item.key ≤ 264) part → IsRising (pairs_below 1 (words_of old) (branches_of (words_of old) leaves) ++ part) → 6 ≤ length part → page < 2 ^ 32
      → IsWritten 0 (words_of new) part (branch_to (words_of new) page) → Swaps kept_of page_state_of words_of [] (page ∷ []) old new
      → Becomes kept_of page_state_of words_of (pages_below 1 (words_of old) (branches_of (words_of old) leaves)) (pairs_below 1 (words_of old) (branches_of (words_of old) leaves) ++ part) 1
      (branches_of (words_of new) (leaves ++ Branch page ∷ [])) old new
  one_leaf leaves part page old new below are fit rising enough small written swaps =
      let us = branches_of (words_of old) leaves in
      let branch = branch_to (words_of new) page in
      let only = pairs_only (page_state_of old) (words_of old) part fit (IsRising_right (pairs_below 1 (words_of old) us) part rising) in
      let took = subst (λ p. Swaps kept_of page_state_of words_of [] (p ∷ []) old new) (sym (child_branch (words_of new) page small)) swaps in
      let none = append-nil us in
      let last = becomes_branch kept_of page_state_of words_of 0 part branch [] old new only enough written took (λ q. omega arith) in
      let whole = becomes_append kept_of page_state_of words_of 1 1 us [] us (branch ∷ []) (pairs_below 1 (words_of old) us) part old old new
      (subst (IsBelow 1 (page_state_of old) (words_of old)) (sym none) below) (becomes_same kept_of page_state_of words_of 1 us old below) last rising in
      subst (λ bs. Becomes kept_of page_state_of words_of (pages_below 1 (words_of old) us) (pairs_below 1 (words_of old) us ++ part) 1 bs old new) (sym (one_branch kept_of page_state_of words_of 0 leaves page old new below are swaps))
      (subst (λ xs. Becomes kept_of page_state_of words_of (pages_below 1 (words_of old) xs) (pairs_below 1 (words_of old) us ++ part) 1 (us ++ branch ∷ []) old new) none whole)

  -- the first pairs that a builder holds are written to a leaf
  pub writes_first : (count page : ℕ) (before after : TreeBuilder) (old new : S) → IsBegun (page_state_of old) (words_of old) before → 6 ≤ length (take count before.items.items) → page < 2 ^ 32
      → IsWritten 0 (words_of new) (take count before.items.items) (branch_to (words_of new) page) → Swaps kept_of page_state_of words_of [] (page ∷ []) old new
      → after.leaves.items ≡ before.leaves.items ++ Branch page ∷ [] → after.items.items ≡ drop count before.items.items
      → Writes kept_of page_state_of words_of count before after old new
  writes_first count page before after old new begun enough small written swaps leaves_are items_are =
      let items = before.items.items in
      let part = take count items in
      let rest = drop count items in
      let leaves = before.leaves.items in
      let pairs = pairs_below 1 (words_of old) (branches_of (words_of old) leaves) in
      let parts : items ≡ part ++ rest = sym (take-append-drop count items) in
      let given : pairs_given (words_of old) before ≡ (pairs ++ part) ++ rest = ap (λ xs. pairs ++ xs) parts ∙ sym (append_assoc pairs part rest) in
      let becomes : Becomes kept_of page_state_of words_of (pages_below 1 (words_of old) (branches_of (words_of old) leaves)) (pairs ++ part) 1 (branches_of (words_of new) after.leaves.items) old new =
      subst (λ xs. Becomes kept_of page_state_of words_of (pages_below 1 (words_of old) (branches_of (words_of old) leaves)) (pairs ++ part) 1 (branches_of (words_of new) xs) old new) (sym leaves_are)
      (one_leaf leaves part page old new begun.leaves begun.slots (all_left (λ item. length item.key ≤ 264) part rest (subst (All (λ item. length item.key ≤ 264)) parts begun.keys_fit))
      (IsRising_left (pairs ++ part) rest (subst IsRising given begun.rising)) enough small written swaps) in
      let same : pairs_given (words_of new) after ≡ pairs_given (words_of old) before = ap (λ xs. pairs_below 1 (words_of new) (branches_of (words_of new) after.leaves.items) ++ xs) items_are ∙ ap (λ xs. xs ++ rest) becomes.has_pairs ∙ sym given in
      record {
        begun = record {
          leaves = becomes.below;
          slots = subst (All IsBranchSlot) (sym leaves_are) (one_slot kept_of page_state_of words_of leaves page begun.slots small);
          keys_fit = subst (All (λ item. length item.key ≤ 264)) (sym items_are) (all_right (λ item. length item.key ≤ 264) part rest (subst (All (λ item. length item.key ≤ 264)) parts begun.keys_fit));
          rising = subst IsRising (sym same) begun.rising;
        };
        gains = record { has_pairs = same ∙ sym (append-nil (pairs_given (words_of old) before)); swaps = becomes.swaps };
        takes = takes_page kept_of page_state_of words_of [] page old new swaps;
        one_more = ap length leaves_are ∙ length-append leaves (Branch page ∷ []);
        rest = items_are;
      }

  pub gains_then : (first last : TreeBuilder) (mid_builder : TreeBuilder) (old mid new : S) → Gains kept_of page_state_of words_of [] first mid_builder old mid → Gains kept_of page_state_of words_of [] mid_builder last mid new
      → Gains kept_of page_state_of words_of [] first last old new
  gains_then first last mid_builder old mid new g h = record {
    has_pairs = h.has_pairs ∙ append-nil (pairs_given (words_of mid) mid_builder) ∙ g.has_pairs;
    swaps = swaps_trans kept_of page_state_of words_of (pages_taken (words_of old) first) (pages_taken (words_of mid) mid_builder) (pages_taken (words_of new) last) old mid new g.swaps h.swaps;
  }

  -- a builder that holds no pair has them all below its leaves
  pub all_below : (first last : TreeBuilder) (old mid : S) → Gains kept_of page_state_of words_of [] first last old mid → last.items.items ≡ []
      → pairs_below 1 (words_of mid) (branches_of (words_of mid) last.leaves.items) ≡ pairs_given (words_of old) first
  all_below first last old mid g none =
      let pairs = pairs_below 1 (words_of mid) (branches_of (words_of mid) last.leaves.items) in
      sym (append-nil pairs) ∙ ap (λ xs. pairs ++ xs) (sym none) ∙ g.has_pairs ∙ append-nil (pairs_given (words_of old) first)

  -- the levels above the leaves are written
  pub finished : (first last : TreeBuilder) (root : ℕ) (old mid new : S) → Gains kept_of page_state_of words_of [] first last old mid → last.items.items ≡ []
      → BecomesTree kept_of page_state_of words_of (pages_taken (words_of mid) last) (pairs_below 1 (words_of mid) (branches_of (words_of mid) last.leaves.items)) root mid new
      → BecomesTree kept_of page_state_of words_of (pages_taken (words_of old) first) (pairs_given (words_of old) first) root old new
  finished first last root old mid new g none tree = record {
    tree = tree.tree;
    has_pairs = tree.has_pairs ∙ all_below first last old mid g none;
    swaps = swaps_trans kept_of page_state_of words_of (pages_taken (words_of old) first) (pages_taken (words_of mid) last) (pages (words_of new) root) old mid new g.swaps tree.swaps;
  }

  -- a tree of one page
  pub only_tree : (items : List Pair) (page : ℕ) (old new : S) → All (λ item. length item.key ≤ 264) items → IsRising items → 0 < length items → page < 2 ^ 32
      → IsWritten 0 (words_of new) items (branch_to (words_of new) page) → Swaps kept_of page_state_of words_of [] (page ∷ []) old new
      → BecomesTree kept_of page_state_of words_of [] items (page + 1) old new × AreFewest (length (pages (words_of new) (page + 1))) (length items)
  only_tree items page old new fit rising some small written swaps =
      let branch = branch_to (words_of new) page in
      let is = child_branch (words_of new) page small in
      let e : suc (child branch) ≡ page + 1 = omega (arith, is) in
      let only = pairs_only (page_state_of old) (words_of old) items fit rising in
      let took = subst (λ p. Swaps kept_of page_state_of words_of [] (p ∷ []) old new) (sym is) swaps in (
        subst (λ r. BecomesTree kept_of page_state_of words_of [] items r old new) e
            (root_written kept_of page_state_of words_of 0 items branch [] old new only (omega (arith, some)) written took (λ q. omega arith)),
        fewest_root 0 (length items) (length (pages (words_of new) (page + 1))) some (λ l lt. absurd (omega (arith, lt)))
            (ap (λ r. length (pages (words_of new) r)) (sym e) ∙ root_pages kept_of page_state_of words_of 0 items branch old new only written took),
      )

-- no page was left for a leaf
pub short_leaf : (had taken n : ℕ) (s t u : ℕ → PageState) → 12 < n → had + taken ≤ pages_under 1 n → TakesAtMost taken s t → HoldsFewer 0 1 t u → IsShort had n s u
short_leaf had taken n s t u many fits took fewer page_state words root tree le k =
    omega (arith, took k, fewer k, fits, needs 1 n (omega (arith, many)) (low_more 0 n (λ l lt. absurd (omega (arith, lt))) many) page_state words root tree le)

-- no page was left above the leaves
pub short_above : (had now n : ℕ) (s t u : ℕ → PageState) → ((k : ℕ) → in_hand k t + had ≤ in_hand k s + now) → IsShort now n t u → IsShort had n s u
short_above had now n s t u took short page_state words root tree le k = omega (arith, took k, short page_state words root tree le k)

pub none_of : {A : Type 0} (xs : List A) → length xs ≡ 0 → [] ≡ xs
none_of [] e = refl
none_of (x ∷ xs) e = absurd (omega (arith, e))

pub not_none : (n : ℕ) → (n ≡ 0 → ⊥) → 0 < n
not_none zero f = absurd (f refl)
not_none (suc n) f = omega arith

module _ {S K : Type 0} (kept_of : S → K) (page_state_of : S → ℕ → PageState) (words_of : S → ℕ → ℕ → ℕ) where
  -- all pairs are written to two leaves
  pub rest_two : (before mid_builder after : TreeBuilder) (old mid new : S) → IsBuilder (page_state_of old) (words_of old) before → 12 < length before.items.items
      → Writes kept_of page_state_of words_of (length before.items.items - 6) before mid_builder old mid → Writes kept_of page_state_of words_of 6 mid_builder after mid new
      → WritesAll kept_of page_state_of words_of before after old new
  rest_two before mid_builder after old mid new builder many first last =
      let left : length mid_builder.items.items ≡ 6 = omega (arith, ap length first.rest, length-drop (length before.items.items - 6) before.items.items, many) in
      record {
        begun = last.begun;
        gains = gains_then kept_of page_state_of words_of before after mid_builder old mid new first.gains last.gains;
        none = last.rest ∙ drop_of_length-le mid_builder.items.items {i = 6} (omega (arith, left));
        fewest = omega (arith, first.one_more, last.one_more, builder.full, builder.few, many);
        takes = λ n. omega (arith, first.takes n, last.takes n, first.one_more, last.one_more);
      }

  pub taken_count : (builder : TreeBuilder) (old : S) → length (pages_taken (words_of old) builder) ≡ length builder.leaves.items
  taken_count builder old = leaf_pages (words_of old) (branches_of (words_of old) builder.leaves.items) ∙ length-map builder.leaves.items (pair_of (words_of old) (record { key = []; payload = [] }))
