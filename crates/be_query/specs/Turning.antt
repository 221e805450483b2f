-- Taking a tree apart by rotating its inner nodes to the right.
-- This is used only for dropping trees.
use Rattle.std.specs.Prelude.{ℕ, ◌+◌}
use Rattle.be_query.specs.Grammar.{Formula, Leaf, And, Or}

abbrev pub joints : Formula → ℕ
joints (Leaf name op value) = 0
joints (And l r) = joints l + joints r + 1
joints (Or l r) = joints l + joints r + 1

-- The number of rounds that take the tree apart: one for each inner node on its right edge, and two
-- for every other inner node.
abbrev pub rounds : Formula → ℕ
rounds (Leaf name op value) = 0
rounds (And l r) = joints l + joints l + 1 + rounds r
rounds (Or l r) = joints l + joints l + 1 + rounds r

abbrev pub IsLeaf : Formula → Type 0
IsLeaf (Leaf name op value) = Unit {0}
IsLeaf (And l r) = ⊥
IsLeaf (Or l r) = ⊥

-- If the tree has sides, the left one is a comparison.
abbrev pub BeginsWithLeaf : Formula → Type 0
BeginsWithLeaf (Leaf name op value) = Unit {0}
BeginsWithLeaf (And l r) = IsLeaf l
BeginsWithLeaf (Or l r) = IsLeaf l
