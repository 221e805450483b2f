-- Changes to contents in hand, one after another.
use Rattle.std.proofs.Common.{◌≡◌, ℕ, zero, suc, ◌<◌, List, IsTrue, true, false, ap, sym, subst, refl, arith}
use Rattle.be_pages.specs.declared.room.PageState.{PageState}
use Rattle.be_pages.specs.declared.room.PageState.TheVariants.{Free, Old, GivenUp, Taken, Filled}
use Rattle.be_pages.specs.Pages.{is_kept, times, PageStep, untouched, stays_old, stays_new, Swaps, KeepsStart, IsUnchanged}
use Rattle.be_tree_reading.specs.Tree.{IsTree, pairs, pages, BecomesTree}
use Rattle.be_tree_reading.specs.Forest.{pages_of}
use Rattle.be_tree_reading.proofs.Frame.{swaps_trans, swaps_since, swaps_start, start_trans, unchanged_start}
use Rattle.be_tree_reading.proofs.Trees.{root_in_use, trees_in_use}
use Rattle.be_paged_reading.specs.Page.{Contents, roots}
use Rattle.be_paged_reading.specs.Version.{IsInHand}
use Rattle.be_paged.specs.Changes.{Changes}

never : {A : Type 0} → false ≡ true → A
never e = cc

same_step : {P : Type 0} (s : PageState) (n : ℕ) → P → (0 < n → IsTrue (is_kept s)) → PageStep P n n s s
same_step s zero p used = untouched p
same_step Free (suc n) p used = never (used (omega arith))
same_step Old (suc n) p used = stays_old p
same_step GivenUp (suc n) p used = never (used (omega arith))
same_step Taken (suc n) p used = never (used (omega arith))
same_step Filled (suc n) p used = stays_new

module _ {S K : Type 0} (kept_of : S → K) (page_state_of : S → ℕ → PageState) (words_of : S → ℕ → ℕ → ℕ) where
  -- pages in use that don't change
  pub swaps_none : (ps : List ℕ) (room : S) → ((q : ℕ) → 0 < times q ps → IsTrue (is_kept (page_state_of room q))) → Swaps kept_of page_state_of words_of ps ps room room
  swaps_none ps room used = record { kept = refl; each = λ q. same_step (page_state_of room q) (times q ps) refl (used q) }

  pub tree_stays : (root : ℕ) (room : S) → IsTree (page_state_of room) (words_of room) root → BecomesTree kept_of page_state_of words_of (pages (words_of room) root) (pairs (words_of room) root) root room room
  tree_stays root room tree = record { tree = tree; has_pairs = refl; swaps = swaps_none (pages (words_of room) root) room (root_in_use (page_state_of room) (words_of room) root tree) }

  pub changes_none : (c : Contents) (room : S) → IsInHand (page_state_of room) (words_of room) c → Changes kept_of page_state_of words_of c c room room
  changes_none c room h = record { in_hand = h; swaps = swaps_none (pages_of (words_of room) (roots c)) room (trees_in_use (page_state_of room) (words_of room) (roots c) h.trees.each) }

  -- one change after another
  pub changes_trans : (a b c : Contents) (old mid new : S) → Changes kept_of page_state_of words_of a b old mid → Changes kept_of page_state_of words_of b c mid new → Changes kept_of page_state_of words_of a c old new
  changes_trans a b c old mid new first last = record {
    in_hand = last.in_hand;
    swaps = swaps_trans kept_of page_state_of words_of (pages_of (words_of old) (roots a)) (pages_of (words_of mid) (roots b)) (pages_of (words_of new) (roots c)) old mid new first.swaps last.swaps;
  }

  -- a change after some reads
  pub changes_since : (a b : Contents) (old read new : S) → IsUnchanged kept_of page_state_of words_of old read → Changes kept_of page_state_of words_of a b read new → Changes kept_of page_state_of words_of a b old new
  changes_since a b old read new same change = record {
    in_hand = change.in_hand;
    swaps = subst (λ (w : ℕ → ℕ → ℕ). Swaps kept_of page_state_of words_of (pages_of w (roots a)) (pages_of (words_of new) (roots b)) old new) same.words
        (swaps_since kept_of page_state_of words_of (pages_of (words_of read) (roots a)) (pages_of (words_of new) (roots b)) old read new same change.swaps);
  }

  -- what was there when the write began is preserved if reads come first
  pub start_since : (old read new : S) → IsUnchanged kept_of page_state_of words_of old read → KeepsStart kept_of page_state_of words_of read new → KeepsStart kept_of page_state_of words_of old new
  start_since old read new same keeps = start_trans kept_of page_state_of words_of old read new (unchanged_start kept_of page_state_of words_of old read same) keeps

  pub start_after : (a b : Contents) (old mid new : S) → Changes kept_of page_state_of words_of a b old mid → KeepsStart kept_of page_state_of words_of mid new → KeepsStart kept_of page_state_of words_of old new
  start_after a b old mid new change keeps =
      start_trans kept_of page_state_of words_of old mid new (swaps_start kept_of page_state_of words_of (pages_of (words_of old) (roots a)) (pages_of (words_of mid) (roots b)) old mid change.swaps) keeps

  -- contents in hand, and what they encode, after some reads
  pub in_hand_since : (c : Contents) (old read : S) → IsUnchanged kept_of page_state_of words_of old read → IsInHand (page_state_of old) (words_of old) c → IsInHand (page_state_of read) (words_of read) c
  in_hand_since c old read same h =
      subst (λ (s : ℕ → PageState). IsInHand s (words_of read) c) (sym same.page_state) (subst (λ (w : ℕ → ℕ → ℕ). IsInHand (page_state_of old) w c) (sym same.words) h)

-- a tree after some reads
pub tree_read : {S K : Type 0} (kept_of : S → K) (page_state_of : S → ℕ → PageState) (words_of : S → ℕ → ℕ → ℕ) (root : ℕ) (old read : S) → IsUnchanged kept_of page_state_of words_of old read
    → IsTree (page_state_of old) (words_of old) root → BecomesTree kept_of page_state_of words_of (pages (words_of old) root) (pairs (words_of old) root) root old read
tree_read kept_of page_state_of words_of root old read same tree = record {
  tree = subst (λ (s : ℕ → PageState). IsTree s (words_of read) root) (sym same.page_state) (subst (λ (w : ℕ → ℕ → ℕ). IsTree (page_state_of old) w root) (sym same.words) tree);
  has_pairs = ap (λ (w : ℕ → ℕ → ℕ). pairs w root) same.words;
  swaps = record {
    kept = same.kept;
    each = λ q. subst (λ (s : ℕ → PageState). PageStep (words_of read q ≡ words_of old q) (times q (pages (words_of old) root)) (times q (pages (words_of read) root)) (page_state_of old q) (s q)) (sym same.page_state)
        (subst (λ (w : ℕ → ℕ → ℕ). PageStep (w q ≡ words_of old q) (times q (pages (words_of old) root)) (times q (pages w root)) (page_state_of old q) (page_state_of old q)) (sym same.words)
        (same_step (page_state_of old q) (times q (pages (words_of old) root)) refl (root_in_use (page_state_of old) (words_of old) root tree q)));
  };
}
