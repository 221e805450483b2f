use Rattle.std.proofs.Common.{arith, ◌≤◌, length}
use Rattle.std.proofs.lemmas.Grind.{common_steps}
use Rattle.be_change.proofs.Written.{wrote_all}
use Rattle.be_change.proofs.once.write_once.Goals as goal

pub returns-in-Ok-clause-ends : goal.returns-in-Ok-clause-ends
returns-in-Ok-clause-ends c =
    let some : 1 ≤ length c.operations-ops.result.now = grind (arith, common_steps) in
    wrote_all c.args.change.now c.args.pass.now.knows c.apply_if_into.new.pass.knows c.operations-ops.result.now c.number-2.result c.in-Ok.number c.apply_if_into.new.dones.items
    c.operations-ops.ensures.list c.number-2.ensures some c.in-Ok.ensures.accepted
