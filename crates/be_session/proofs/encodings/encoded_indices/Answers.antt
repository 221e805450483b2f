use Rattle.std.proofs.Common.{subst}
use Rattle.be_session.specs.Operations.{HasOnlyParts, IsMeantBy, makes}
use Rattle.be_session.proofs.GrowingBytes.{listed_next}
use Rattle.be_session.proofs.encodings.encoded_indices.Goals as goal

pub loop-name-preserved : goal.loop-name-preserved
loop-name-preserved c =
    listed_next makes c.args.list.now c.loop-name.name-index _ c.loop-name.operations.items c.push.new.self.items c.in_ok-operation.operation
    c.loop-name.bytes.items
    c.encode_index.new.bytes.items c.loop-name-test.true c.loop-name.invariant c.in_ok-operation.ensures.more
    c.in_ok-operation.ensures.meant.0 (subst (λ a. IsMeantBy c.in_ok-operation.operation c.encode_index.new.bytes.items (makes a)) c.loop-name-item.is
    c.in_ok-operation.ensures.meant.1)
    (subst (λ a. HasOnlyParts c.in_ok-operation.operation c.encode_index.new.bytes.items (makes a)) c.loop-name-item.is
    c.in_ok-operation.ensures.only)
    c.in_ok-push.ensures.items
