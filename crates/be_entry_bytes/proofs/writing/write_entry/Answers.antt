use Rattle.std.proofs.Common.{◌≤◌, length, arith}
use Rattle.be_entry_bytes.specs.Encoding.{entry_bytes, most_bytes, CanBeEntry}
use Rattle.be_entry_bytes.proofs.Lengths.{entry_short}
use Rattle.be_entry_bytes.proofs.writing.write_entry.Goals as goal

pub write_parts-requires-clause-room : goal.write_parts-requires-clause-room
write_parts-requires-clause-room c =
    let can_be : CanBeEntry c.args.by c.args.ops.now c.args.dones.now = record {
      pass = c.ranges.by.fits;
      few = c.requires.few;
      each = c.requires.each;
      of_ops = c.ops_can_be.ensures;
      of_outcomes = c.outcomes_can_be.ensures;
    } in
    let short : length (entry_bytes c.args.by c.args.ops.now c.args.dones.now) ≤ most_bytes (length c.args.ops.now) = entry_short c.args.by c.args.ops.now c.args.dones.now can_be in
    omega (arith, short, c.requires.room)

pub returns-clause-can_be : goal.returns-clause-can_be
returns-clause-can_be c = record {
  pass = c.ranges.by.fits;
  few = c.requires.few;
  each = c.requires.each;
  of_ops = c.ops_can_be.ensures;
  of_outcomes = c.outcomes_can_be.ensures;
}
