use Rattle.std.proofs.Common.{subst}
use Rattle.be_session.specs.Operations.{HasOnlyParts, IsMeantBy}
use Rattle.be_session.proofs.GrowingBytes.{encoded_more}
use Rattle.be_session.proofs.encodings.encoded_operations.Goals as goal

pub loop-op-preserved : goal.loop-op-preserved
loop-op-preserved c =
    encoded_more c.args.list.now c.loop-op.op-index _ c.loop-op.operations.items c.push.new.self.items c.in_ok-operation.operation c.loop-op.bytes.items
    c.encode.new.bytes.items c.loop-op-test.true c.loop-op.invariant c.in_ok-operation.ensures.more c.in_ok-operation.ensures.meant.0
    (subst (IsMeantBy c.in_ok-operation.operation c.encode.new.bytes.items) c.op-item.is c.in_ok-operation.ensures.meant.1)
    (subst (HasOnlyParts c.in_ok-operation.operation c.encode.new.bytes.items) c.op-item.is c.in_ok-operation.ensures.only) c.in_ok-push.ensures.items
