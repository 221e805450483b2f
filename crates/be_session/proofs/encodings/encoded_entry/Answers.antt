use Rattle.std.proofs.Common.{◌≡◌, ◌<◌, ℕ, [], ◌∷◌, length, length-append, get_or, refl, subst, sym, ap, ◌∙◌, arith}
use Rattle.std.specs.Slice.{IsItemAt}
use Rattle.std.proofs.lemmas.Option.{slice_get_read}
use Rattle.be_session.specs.Operations.{HasOnlyParts, IsMeantBy}
use Rattle.be_session.proofs.GrowingBytes.{encoded_more}
use Rattle.be_session.proofs.Reported.{nodes_more, reported_by_look}
use Rattle.be_session.proofs.encodings.encoded_entry.Goals as goal

pub loop-op-preserved : goal.loop-op-preserved
loop-op-preserved c =
    let was = c.loop-op.invariant in
    let next = c.in_ok-operation.ensures in
    let o = c.in_ok-operation.operation in
    let os = c.loop-op.operations.items in
    let ops = c.args.ops.now in
    let op = c.op-item.result in
    let longer = ap length c.in_ok-push.ensures.items in
    let parts = length-append os (o ∷ []) in
    let inside : length os < length ops = omega (arith, was.count, c.loop-op-test.true) in
    let count : c.len.result ≡ length os = omega (arith, c.len.ensures, c.loop-op.operations.ok) in
    let here : op ≡ get_or ops (length os) op = c.op-item.is ∙ ap (λ n. get_or ops n op) (sym was.count) in record {
      encoded = encoded_more ops c.loop-op.op-index _ os c.push.new.self.items o c.loop-op.bytes.items c.encode_done.new.bytes.items c.loop-op-test.true was.encoded
          next.more next.meant.0 (subst (IsMeantBy o c.encode_done.new.bytes.items) c.op-item.is next.meant.1)
          (subst (HasOnlyParts o c.encode_done.new.bytes.items) c.op-item.is next.only) c.in_ok-push.ensures.items;
      count = omega (arith, longer, parts, was.count);
      made = nodes_more os c.push.new.self.items o ops c.args.dones.now op was.made c.in_ok-push.ensures.items
          (slice_get_read ops (length ops) (length os) op refl inside here)
          (reported_by_look c.get-done.result c.args.dones.now (length os) o op (subst (λ (n : ℕ). IsItemAt c.args.dones.now n c.get-done.result) count c.get-done.ensures.lookup) next.made);
    }
