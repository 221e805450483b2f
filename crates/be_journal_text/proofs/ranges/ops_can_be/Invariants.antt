use Rattle.std.proofs.Common.{All, take}
use Rattle.be_journal_text.specs.History.{CanBeOp}
use Rattle.be_journal_text.proofs.ranges.ops_can_be.Given as goal

abbrev pub invariant-loop-op : goal.invariant-loop-op
invariant-loop-op l = All CanBeOp (take l.op-index l.ops)
