-- What a call writes to the memory of its caller.
use Rattle.std.specs.Prelude.{ℕ, List, ◌++◌, length, take, drop}
use Rattle.be_volume.specs.declared.ops.Done.{Done}
use Rattle.be_volume.specs.declared.ops.Done.TheVariants.{Node, Unit as Nothing}

-- The first places hold the list, or as much of it as fits, and the others are unchanged.
abbrev pub over : {X : Type 0} → List X → List X → List X
over xs places = take (length places) xs ++ drop (length xs) places

-- The number of a new node, and 0 for any other outcome.
abbrev pub node_of : Done → ℕ
node_of (Node n) = n
node_of Nothing = 0
