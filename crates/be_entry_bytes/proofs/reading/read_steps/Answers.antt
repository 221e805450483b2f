use Rattle.std.proofs.Common.{sym}
use Rattle.be_entry_bytes.specs.Decoding.{steps_at}
use Rattle.be_entry_bytes.proofs.Loops.{goes_on, ends, is_done}
use Rattle.be_entry_bytes.proofs.reading.read_steps.Goals as goal

pub returns-in_default : goal.returns-in_default
returns-in_default c = sym (ends c.loop.ops.items c.loop.dones.items c.args.count c.loop.counter c.loop.rest.now (steps_at c.args.count c.args.bytes.now)
    c.loop-test.true (sym c.in_default.ensures) c.loop.invariant)

pub loop-preserved : goal.loop-preserved
loop-preserved c =
    rw (c.in_ok-push.ensures.items, c.in_ok-push-2.ensures.items)
    (goes_on c.loop.ops.items c.loop.dones.items c.args.count c.loop.counter c.loop.rest.now c.in-Some.op c.in-Some.done c.in-Some.after.now (steps_at c.args.count c.args.bytes.now)
    c.loop-test.true (sym c.in-Some.ensures) c.loop.invariant)

pub returns : goal.returns
returns c = sym (is_done c.loop.ops.items c.loop.dones.items c.args.count c.loop.counter c.loop.rest.now (steps_at c.args.count c.args.bytes.now)
    c.loop-test.false c.loop.invariant)
