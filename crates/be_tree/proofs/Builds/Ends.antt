-- A list of ascending pairs that gains one at its end.
use Rattle.std.proofs.Common.{◌≡◌, ℕ, List, [], ◌∷◌, ◌++◌}
use Rattle.std.specs.declared.cmp.Ordering.TheVariants.{Less, Greater}
use Rattle.be_tree_reading.specs.Pair.{Pair}
use Rattle.be_tree_reading.specs.Key.{key_cmp, AllAbove, AllBelow, IsRising}
use Rattle.be_tree_reading.proofs.Order.{key_cmp_flip_less}

above_end : (k : List ℕ) (xs : List Pair) (x : Pair) → AllAbove k xs → key_cmp x.key k ≡ Greater → AllAbove k (xs ++ x ∷ [])
above_end k [] x above gt = (gt, tt)
above_end k (y ∷ ys) x above gt = (above.0, above_end k ys x above.1 gt)

pub below_end : (k : List ℕ) (xs : List Pair) (x : Pair) → AllBelow k xs → key_cmp x.key k ≡ Less → AllBelow k (xs ++ x ∷ [])
below_end k [] x below lt = (lt, tt)
below_end k (y ∷ ys) x below lt = (below.0, below_end k ys x below.1 lt)

-- a pair above the others keeps the list ascending
pub rising_end : (xs : List Pair) (x : Pair) → IsRising xs → AllBelow x.key xs → IsRising (xs ++ x ∷ [])
rising_end [] x rising below = (tt, tt)
rising_end (y ∷ ys) x rising below = (above_end y.key ys x rising.0 (key_cmp_flip_less y.key x.key below.0), rising_end ys x rising.1 below.1)
