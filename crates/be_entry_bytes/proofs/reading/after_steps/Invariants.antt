use Rattle.std.proofs.Common.{◌≡◌, ◌-◌}
use Rattle.be_entry_bytes.specs.Decoding.{steps_at}
use Rattle.be_entry_bytes.proofs.Loops.{bytes_left}
use Rattle.be_entry_bytes.proofs.reading.after_steps.Given as goal

abbrev pub invariant-loop : goal.invariant-loop
invariant-loop l = bytes_left (steps_at (l.count - l.counter) l.rest) ≡ bytes_left (steps_at l.count l.bytes)
