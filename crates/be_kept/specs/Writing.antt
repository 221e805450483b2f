-- What a write does to the rows of a store.
use Rattle.std.specs.Prelude.{◌≡◌, ℕ, List}
use Rattle.sqlite_trees.specs.View.{View}
use Rattle.be_kept.specs.Rows.{Written, after}

-- the entries are in, and nothing else has changed
pub record Adds (old new : View) (number : ℕ) (added : List Written) : Type 0 where
  pub sound : new.is_broken ≡ old.is_broken
  pub is : new ≡ record old { trees = after number added old.trees; cursors = new.cursors }
