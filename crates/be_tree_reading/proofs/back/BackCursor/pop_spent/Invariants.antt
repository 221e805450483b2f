use Rattle.std.proofs.Common.{◌≡◌, ℕ, length}
use Rattle.be_pages.specs.declared.room.PageState.{PageState}
use Rattle.be_tree_reading.specs.Back.{pairs_up_to}
use Rattle.be_tree_reading.specs.Cursor.{IsPath}
use Rattle.be_tree_reading.proofs.back.BackCursor.pop_spent.Given as goal

-- the places removed so far had no item before them
abbrev pub invariant-loop-place : goal.invariant-loop-place
invariant-loop-place l = record {
  path : (page_state : ℕ → PageState) (words : ℕ → ℕ → ℕ) → IsPath page_state words l.fn.self.path.items → IsPath page_state words l.self.path.items;
  same : (words : ℕ → ℕ → ℕ) → pairs_up_to words l.fn.self.path.items ≡ pairs_up_to words l.self.path.items;
}

abbrev pub decreases-loop-place : goal.decreases-loop-place
decreases-loop-place l = length l.self.path.items
