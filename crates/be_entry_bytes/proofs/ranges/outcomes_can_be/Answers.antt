use Rattle.std.proofs.Common.{All, subst, arith}
use Rattle.std.proofs.lemmas.List.{take_all}
use Rattle.std.proofs.lemmas.List.Elements.{All-more}
use Rattle.be_entry_bytes.specs.Encoding.{CanBeDone}
use Rattle.be_entry_bytes.proofs.ranges.outcomes_can_be.Goals as goal

pub loop-done-preserved : goal.loop-done-preserved
loop-done-preserved c = All-more CanBeDone c.args.dones.now c.loop-done.done-index _ c.loop-done-test.true c.loop-done.invariant c.done_can_be.ensures

pub returns : goal.returns
returns c = subst (All CanBeDone) (take_all c.loop-done.done-index c.args.dones.now (omega (arith, c.loop-done-test.false))) c.loop-done.invariant
