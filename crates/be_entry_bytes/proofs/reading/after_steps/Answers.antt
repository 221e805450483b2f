use Rattle.std.proofs.Common.{sym}
use Rattle.be_entry_bytes.specs.Decoding.{steps_at}
use Rattle.be_entry_bytes.proofs.Loops.{bytes_left, skip_goes_on, skip_ends, skip_is_done}
use Rattle.be_entry_bytes.proofs.reading.after_steps.Goals as goal

pub returns-in_err-_op : goal.returns-in_err-_op
returns-in_err-_op c = rw c.from_residual.ensures (sym (skip_ends c.args.count c.loop.counter c.loop.rest.now (bytes_left (steps_at c.args.count c.args.bytes.now))
    c.loop-test.true (sym c.in_err-_op.ensures) c.loop.invariant))

pub loop-preserved : goal.loop-preserved
loop-preserved c = skip_goes_on c.args.count c.loop.counter c.loop.rest.now c.in_ok-_op._op c.in_ok-_op._done c.in_ok-_op.after.now (bytes_left (steps_at c.args.count c.args.bytes.now))
    c.loop-test.true (sym c.in_ok-_op.ensures) c.loop.invariant

pub returns : goal.returns
returns c = sym (skip_is_done c.args.count c.loop.counter c.loop.rest.now (bytes_left (steps_at c.args.count c.args.bytes.now)) c.loop-test.false c.loop.invariant)
