use Rattle.std.proofs.Common.{◌≡◌, ◌≤◌, ◌+◌, ◌++◌, length, drop, vec_len, vec_capacity}
use Rattle.be_entry_bytes.specs.Encoding.{steps_bytes}
use Rattle.be_entry_bytes.proofs.writing.write_steps.Given as goal

abbrev pub invariant-loop-i : goal.invariant-loop-i
invariant-loop-i l = record {
  items : l.bytes.items ++ steps_bytes (drop l.i l.ops) (drop l.i l.dones) ≡ l.initial.bytes.items ++ steps_bytes l.ops l.dones;
  room : vec_len l.bytes + length (steps_bytes (drop l.i l.ops) (drop l.i l.dones)) ≤ vec_capacity l.bytes;
  grows : vec_capacity l.initial.bytes ≤ vec_capacity l.bytes;
}
