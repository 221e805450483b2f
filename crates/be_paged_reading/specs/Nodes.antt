-- The nodes of a volume from a number on, and the nodes that are marked by pairs of the catalog.
use Rattle.std.specs.Prelude.{ℕ, Bool, List, [], ◌∷◌, length, take, filter, nat_eq, nat_le}
use Rattle.std.specs.Prelude.{if◌then◌else◌}
use Rattle.std.specs.Int.{from_be_bytes, w64}
use Rattle.std.specs.FinMap as map
use Rattle.be_tree_reading.specs.Pair.{Pair}
use Rattle.be_volume.specs.Volume.{State}

-- The first `most` nodes of the volume with a number of `from` or above, in ascending order.
abbrev pub nodes_from : State → (from most : ℕ) → List ℕ
nodes_from s from most = take most (filter (nat_le from) (map.keys s.nodes))

-- The key is the mark of a node: no name follows the node.
abbrev pub is_mark : List ℕ → Bool
is_mark k = nat_eq (length k) 8

-- The nodes whose marks are among the pairs, in the order of the pairs.
abbrev pub marked : List Pair → List ℕ
marked [] = []
marked (x ∷ xs) = if is_mark x.key then from_be_bytes w64 x.key ∷ marked xs else marked xs
