use Rattle.std.proofs.Common.{◌+◌, ap, map, take, inl, subst, sym, ◌∙◌}
use Rattle.std.proofs.lemmas.List.{take_more}
use Rattle.be_query.specs.Rpn.{item_of}
use Rattle.be_session.specs.Items.{AreItemsMeant, item_reported}
use Rattle.be_session.proofs.Built.{items_next}
use Rattle.be_session.proofs.items.items.Goals as goal

pub returns-in-Err-clause-err : goal.returns-in-Err-clause-err
returns-in-Err-clause-err c =
    inl (
      c.loop-next.next-index,
      c.reported-place.ensures ∙ ap (item_reported c.in-Err.fault) (c.len.ensures ∙ c.loop-next.invariant.count),
      _,
      map item_of c.loop-next.items.items,
      take_more c.args.encoded.now c.loop-next.next-index _ c.loop-next-test.true,
      c.loop-next.invariant.meant,
      c.in-Err.ensures.err,
    )

pub loop-next-preserved : goal.loop-next-preserved
loop-next-preserved c = record {
  meant = subst (λ xs. AreItemsMeant (take (c.loop-next.next-index + 1) c.args.encoded.now) c.args.bytes.now (map item_of xs)) (sym c.in_ok-push-in-Ok.ensures.items)
      (items_next c.args.encoded.now c.loop-next.next-index _ c.args.bytes.now c.loop-next.items.items c.in-Ok.item c.loop-next-test.true
      c.loop-next.invariant.meant c.in-Ok.ensures.ok);
  count = c.in_ok-push-in-Ok.ensures.len ∙ ap (λ n. n + 1) c.loop-next.invariant.count;
}
