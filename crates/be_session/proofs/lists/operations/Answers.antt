use Rattle.std.proofs.Common.{◌≤◌, ◌+◌, ap, length, subst, sym, take, ◌∙◌}
use Rattle.be_session.specs.Operations.{AreMeant}
use Rattle.be_session.proofs.Meant.{meant_next, invalid_here}
use Rattle.be_session.proofs.lists.operations.Goals as goal

pub returns-in-Err-clause-err : goal.returns-in-Err-clause-err
returns-in-Err-clause-err c =
    invalid_here c.args.encoded.now c.loop-next.next-index _ c.args.bytes.now c.loop-next.ops.items c.in-Err.fault _
    (c.len-place.ensures ∙ c.loop-next.invariant.count) c.loop-next.invariant.fits c.loop-next-test.true c.loop-next.invariant.meant c.in-Err.ensures.err

pub loop-next-preserved : goal.loop-next-preserved
loop-next-preserved c = record {
  meant = subst (AreMeant (take (c.loop-next.next-index + 1) c.args.encoded.now) c.args.bytes.now) (sym c.push_reserved.ensures.items)
      (meant_next c.args.encoded.now c.loop-next.next-index _ c.args.bytes.now c.loop-next.ops.items c.in-Ok.op c.loop-next-test.true
      c.loop-next.invariant.meant c.in-Ok.ensures.ok.0 c.in-Ok.ensures.ok.1);
  count = c.push_reserved.ensures.len ∙ ap (λ n. n + 1) c.loop-next.invariant.count;
  room = subst (λ n. length c.args.encoded.now ≤ n) (sym c.push_reserved.ensures.capacity) c.loop-next.invariant.room;
  fits = c.loop-next.invariant.fits;
}
