use Rattle.std.proofs.Common.{◌≡◌, length, take}
use Rattle.be_session.specs.Operations.{AreEncoded, ReportNodes}
use Rattle.be_session.proofs.encodings.encoded_entry.Given as goal

abbrev pub invariant-loop-op : goal.invariant-loop-op
invariant-loop-op l = record {
  encoded : AreEncoded l.operations.items l.bytes.items (take l.op-index l.ops);
  count : length l.operations.items ≡ l.op-index;
  made : ReportNodes l.operations.items l.ops l.dones;
}
