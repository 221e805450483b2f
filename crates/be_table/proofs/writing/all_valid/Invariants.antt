use Rattle.std.proofs.Common.{All, take}
use Rattle.be_volume.specs.Sound.{IsOperation}
use Rattle.be_table.proofs.writing.all_valid.Given as goal

-- the operations passed so far are valid operations of the program
abbrev pub invariant-loop-op : goal.invariant-loop-op
invariant-loop-op l = All IsOperation (take l.op-index l.ops)
