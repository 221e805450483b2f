use Rattle.be_store.proofs.Capacity.{few_between}
use Rattle.be_store.proofs.writing.apply_to.Goals as goal

pub returns-clause-few : goal.returns-clause-few
returns-clause-few g c =
    few_between c.apply_in-answer.result g.volume c.args.ops.now c.args.writing.now c.take_space-space.new.self c.apply_in-answer.new.writing c.put_space.new.self c.take_space-space.ensures c.put_space.ensures c.apply_in-answer.ensures.few
