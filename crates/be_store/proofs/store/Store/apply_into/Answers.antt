use Rattle.be_store.proofs.Applied.{accepts, learns, reasons}
use Rattle.be_store.proofs.store.Store.apply_into.Goals as goal

pub write-answer-requires-clause-begun : goal.write-answer-requires-clause-begun
write-answer-requires-clause-begun c = (c.args.pass.now.knows, c.in_ok-writing.ensures.held.2)

pub returns-in-Ok-clause-accepted : goal.returns-in-Ok-clause-accepted
returns-in-Ok-clause-accepted c =
    accepts c.args.pass.now.knows c.in_ok-writing.writing.knows c.in_ok-writing.ensures.held.2 c.write-answer.new.writing.knows c.unlock.result.knows c.args.ops.now c.in-Ok.number c.write-answer.new.dones.items c.in-Ok.ensures.answer c.unlock.ensures.pass c.is_pass.ensures c.unlock.ensures.moves

pub returns-in-Err-clause-refused : goal.returns-in-Err-clause-refused
returns-in-Err-clause-refused c = (
  learns c.args.pass.now.knows c.in_ok-writing.writing.knows c.in_ok-writing.ensures.held.2 c.write-answer.new.writing.knows c.unlock.result.knows c.args.ops.now c.in-Err.refusal c.in-Err.ensures.answer c.unlock.ensures.pass c.is_pass.ensures c.unlock.ensures.worked c.unlock.ensures.moves,
  reasons c.args.pass.now.knows c.in_ok-writing.writing.knows c.in_ok-writing.ensures.held.2 c.write-answer.new.writing.knows c.unlock.result.knows c.args.ops.now c.in-Err.refusal c.in-Err.ensures.answer c.unlock.ensures.pass c.unlock.ensures.worked c.unlock.ensures.moves,
)
