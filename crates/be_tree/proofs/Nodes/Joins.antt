-- Two neighbours, one of them changed, with the items of both in one unwritten node: what writing
-- it requires, and what it produces.
use Rattle.std.proofs.Common.{◌≡◌, ℕ, suc, ◌+◌, List, ◌∷◌, ◌++◌, length, map, All, IsTrue, ap, sym, subst, ◌∙◌, arith}
use Rattle.std.specs.List.{range_with_len}
use Rattle.std.proofs.lemmas.List.{length-append}
use Rattle.std.proofs.lemmas.List.FromFn.{length-map-range_with_len}
use Rattle.be_pages.specs.declared.room.PageState.{PageState}
use Rattle.be_pages.specs.Pages.{is_kept, times, IsUnchanged, KeepsStart}
use Rattle.be_tree.specs.declared.slot.Slot.{Slot}
use Rattle.be_tree.specs.declared.slot.Slot.TheVariants.{At}
use Rattle.be_tree_reading.specs.Pair.{Pair}
use Rattle.be_tree_reading.specs.Key.{IsRising}
use Rattle.be_tree_reading.specs.Page.{items_of, item_place}
use Rattle.be_tree.specs.Slot.{pairs_of, IsReady}
use Rattle.be_tree_reading.specs.Tree.{AreNeighbours, pairs_at, pairs_below, pages_below, IsBelow, Becomes}
use Rattle.be_tree_reading.proofs.Frame.{swaps_start}
use Rattle.be_tree.proofs.Nodes.Neighbours.{becomes_joined, left_apart, left_count, left_joined, left_kept, left_ready, ready_until, right_apart, right_count, right_joined, right_kept, right_ready, slots_until}

pub record Joined {S K : Type 0} (kept_of : S → K) (page_state_of : S → ℕ → PageState) (words_of : S → ℕ → ℕ → ℕ) (level l r : ℕ) (all : List Pair) (given : Pair) (slots : List Slot) (old read : S) : Type 0 where
  pub below : IsBelow level (page_state_of read) (words_of read) (pairs_of (words_of read) given slots)
  pub left_is_kept : IsTrue (is_kept (page_state_of read l))
  pub right_is_kept : IsTrue (is_kept (page_state_of read r))
  pub left_beside : times l (pages_below level (words_of read) (pairs_of (words_of read) given slots)) ≡ 0
  pub right_beside : times r (pages_below level (words_of read) (pairs_of (words_of read) given slots)) ≡ 0
  pub start : KeepsStart kept_of page_state_of words_of old read
  pub written : (us : List Pair) (new : S)
      → Becomes kept_of page_state_of words_of (l ∷ r ∷ pages_below level (words_of read) (pairs_of (words_of read) given slots)) (pairs_below level (words_of read) (pairs_of (words_of read) given slots)) (suc level) us read new
      → Becomes kept_of page_state_of words_of (l ∷ r ∷ pages_below level (words_of old) (items_of (words_of old l) ++ items_of (words_of old r))) all (suc level) us old new

module _ {S K : Type 0} (kept_of : S → K) (page_state_of : S → ℕ → PageState) (words_of : S → ℕ → ℕ → ℕ) (level l r : ℕ) (old : S) (two : AreNeighbours level (page_state_of old) (words_of old) l r) where
  joined : (whole : List Pair) (given : Pair) (slots : List Slot) (read : S)
      → Becomes kept_of page_state_of words_of (pages_below level (words_of old) (items_of (words_of old l) ++ items_of (words_of old r))) whole level (pairs_of (words_of read) given slots) old read
      → Joined kept_of page_state_of words_of level l r whole given slots old read
  joined whole given slots read becomes =
      let items = pairs_of (words_of read) given slots in
      record {
        below = becomes.below;
        left_is_kept = left_kept kept_of page_state_of words_of level l r old two whole items read becomes;
        right_is_kept = right_kept kept_of page_state_of words_of level l r old two whole items read becomes;
        left_beside = left_apart kept_of page_state_of words_of level l r old two whole items read becomes;
        right_beside = right_apart kept_of page_state_of words_of level l r old two whole items read becomes;
        start = swaps_start kept_of page_state_of words_of (pages_below level (words_of old) (items_of (words_of old l) ++ items_of (words_of old r))) (pages_below level (words_of read) items) old read becomes.swaps;
        written = λ us new. becomes_joined kept_of page_state_of words_of level l r old two whole items read becomes us new;
      }

  module _ (all : List Pair) (given : Pair) (sub other slots : List Slot) (mid read : S) (same : IsUnchanged kept_of page_state_of words_of mid read) where
    -- the first one changed
    module _ (first : Becomes kept_of page_state_of words_of (pages_below level (words_of old) (items_of (words_of old l))) all level (pairs_of (words_of mid) given sub) old mid)
        (loaded : other ≡ map (λ j. At (item_place j) r) (range_with_len 0 (words_of mid r 1))) (e : slots ≡ sub ++ other) where
      pub left_length : length slots ≡ length sub + words_of old r 1
      left_length = omega (
        arith,
        ap length e,
        length-append sub other,
        ap length loaded ∙ length-map-range_with_len (λ (j : ℕ). At (item_place j) r) 0 (words_of mid r 1),
        right_count kept_of page_state_of words_of level l r old two all given sub mid first,
      )

      first_read : Becomes kept_of page_state_of words_of (pages_below level (words_of old) (items_of (words_of old l))) all level (pairs_of (words_of read) given sub) old read
      first_read = slots_until kept_of page_state_of words_of (pages_below level (words_of old) (items_of (words_of old l))) all level given sub old mid read same first

      loaded_read : other ≡ map (λ j. At (item_place j) r) (range_with_len 0 (words_of read r 1))
      loaded_read = subst (λ (w : ℕ → ℕ → ℕ). other ≡ map (λ (j : ℕ). At (item_place j) r) (range_with_len 0 (w r 1))) (sym same.words) loaded

      pub left_in_hand : All (IsReady (page_state_of mid) (words_of mid)) sub → All (IsReady (page_state_of read) (words_of read)) slots
      left_in_hand ready =
          subst (All (IsReady (page_state_of read) (words_of read))) (sym e)
          (left_ready kept_of page_state_of words_of level l r old two all given sub read first_read other loaded_read (ready_until kept_of page_state_of words_of sub mid read same ready))

      pub left_changed : IsRising (all ++ pairs_at level (words_of old) r) → Joined kept_of page_state_of words_of level l r (all ++ pairs_at level (words_of old) r) given slots old read
      left_changed rising =
          joined (all ++ pairs_at level (words_of old) r) given slots read
          (subst (λ (xs : List Slot). Becomes kept_of page_state_of words_of (pages_below level (words_of old) (items_of (words_of old l) ++ items_of (words_of old r))) (all ++ pairs_at level (words_of old) r) level (pairs_of (words_of read) given xs) old read)
          (sym e) (left_joined kept_of page_state_of words_of level l r old two all given sub read first_read other loaded_read rising))

    -- the second one changed
    module _ (first : Becomes kept_of page_state_of words_of (pages_below level (words_of old) (items_of (words_of old r))) all level (pairs_of (words_of mid) given sub) old mid)
        (loaded : other ≡ map (λ j. At (item_place j) l) (range_with_len 0 (words_of mid l 1))) (e : slots ≡ other ++ sub) where
      pub right_length : length slots ≡ words_of old l 1 + length sub
      right_length = omega (
        arith,
        ap length e,
        length-append other sub,
        ap length loaded ∙ length-map-range_with_len (λ (j : ℕ). At (item_place j) l) 0 (words_of mid l 1),
        left_count kept_of page_state_of words_of level l r old two all given sub mid first,
      )

      second_read : Becomes kept_of page_state_of words_of (pages_below level (words_of old) (items_of (words_of old r))) all level (pairs_of (words_of read) given sub) old read
      second_read = slots_until kept_of page_state_of words_of (pages_below level (words_of old) (items_of (words_of old r))) all level given sub old mid read same first

      pages_read : other ≡ map (λ j. At (item_place j) l) (range_with_len 0 (words_of read l 1))
      pages_read = subst (λ (w : ℕ → ℕ → ℕ). other ≡ map (λ (j : ℕ). At (item_place j) l) (range_with_len 0 (w l 1))) (sym same.words) loaded

      pub right_in_hand : All (IsReady (page_state_of mid) (words_of mid)) sub → All (IsReady (page_state_of read) (words_of read)) slots
      right_in_hand ready =
          subst (All (IsReady (page_state_of read) (words_of read))) (sym e)
          (right_ready kept_of page_state_of words_of level l r old two all given sub read second_read other pages_read (ready_until kept_of page_state_of words_of sub mid read same ready))

      pub right_changed : IsRising (pairs_at level (words_of old) l ++ all) → Joined kept_of page_state_of words_of level l r (pairs_at level (words_of old) l ++ all) given slots old read
      right_changed rising =
          joined (pairs_at level (words_of old) l ++ all) given slots read
          (subst (λ (xs : List Slot). Becomes kept_of page_state_of words_of (pages_below level (words_of old) (items_of (words_of old l) ++ items_of (words_of old r))) (pairs_at level (words_of old) l ++ all) level (pairs_of (words_of read) given xs) old read)
          (sym e) (right_joined kept_of page_state_of words_of level l r old two all given sub read second_read other pages_read rising))
