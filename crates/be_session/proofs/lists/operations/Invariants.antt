use Rattle.std.proofs.Common.{◌≡◌, ◌≤◌, length, take, vec_capacity, vec_len}
use Rattle.be_session.specs.Operations.{AreMeant, IsWriteCount}
use Rattle.be_session.proofs.lists.operations.Given as goal

abbrev pub invariant-loop-next : goal.invariant-loop-next
invariant-loop-next l = record {
  meant : AreMeant (take l.next-index l.encoded) l.bytes l.ops.items;
  count : vec_len l.ops ≡ l.next-index;
  room : length l.encoded ≤ vec_capacity l.ops;
  fits : IsWriteCount (length l.encoded);
}
