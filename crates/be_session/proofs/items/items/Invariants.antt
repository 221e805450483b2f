use Rattle.std.proofs.Common.{◌≡◌, map, take, vec_len}
use Rattle.be_query.specs.Rpn.{item_of}
use Rattle.be_session.specs.Items.{AreItemsMeant}
use Rattle.be_session.proofs.items.items.Given as goal

abbrev pub invariant-loop-next : goal.invariant-loop-next
invariant-loop-next l = record {
  meant : AreItemsMeant (take l.next-index l.encoded) l.bytes (map item_of l.items.items);
  count : vec_len l.items ≡ l.next-index;
}
