use Rattle.std.proofs.Common.{take}
use Rattle.be_session.specs.Operations.{AreEncoded}
use Rattle.be_session.proofs.encodings.encoded_operations.Given as goal

abbrev pub invariant-loop-op : goal.invariant-loop-op
invariant-loop-op l = AreEncoded l.operations.items l.bytes.items (take l.op-index l.list)
