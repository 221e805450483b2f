use Rattle.be_store.proofs.Conditions.{accepts_at, unapplied}
use Rattle.be_store.proofs.store.Store.apply_if_into.Goals as goal

pub write_if-answer-requires-clause-begun : goal.write_if-answer-requires-clause-begun
write_if-answer-requires-clause-begun c = (c.args.pass.now.knows, c.in_ok-writing.ensures.held.2)

pub returns-in-Ok-clause-accepted : goal.returns-in-Ok-clause-accepted
returns-in-Ok-clause-accepted c =
    accepts_at c.args.pass.now.knows c.in_ok-writing.writing.knows c.in_ok-writing.ensures.held.2 c.args.number c.write_if-answer.new.writing.knows c.unlock.result.knows
    c.args.ops.now c.in-Ok.length c.write_if-answer.new.dones.items c.in-Ok.ensures.answer c.unlock.ensures.pass c.is_pass.ensures c.unlock.ensures.moves

pub returns-in-Err-clause-refused : goal.returns-in-Err-clause-refused
returns-in-Err-clause-refused c =
    unapplied c.args.pass.now.knows c.in_ok-writing.writing.knows c.in_ok-writing.ensures.held.2 c.args.number c.write_if-answer.new.writing.knows c.unlock.result.knows
    c.args.ops.now c.in-Err.error c.in-Err.ensures.answer c.unlock.ensures.pass c.unlock.ensures.moves c.is_pass.ensures c.unlock.ensures.worked
