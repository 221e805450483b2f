use Rattle.std.proofs.Common.{◌≡◌, ◌-◌}
use Rattle.be_entry_bytes.specs.Decoding.{steps_at}
use Rattle.be_entry_bytes.proofs.Loops.{beyond}
use Rattle.be_entry_bytes.proofs.reading.read_steps.Given as goal

abbrev pub invariant-loop : goal.invariant-loop
invariant-loop l = beyond l.ops.items l.dones.items (steps_at (l.count - l.counter) l.rest) ≡ steps_at l.count l.bytes
