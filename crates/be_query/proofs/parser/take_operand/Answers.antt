use Rattle.std.proofs.Common.{arith}
use Rattle.be_query.specs.View.{level_seen, outer_of}
use Rattle.be_query.proofs.Steps.{negations_within}
use Rattle.be_query.proofs.parser.take_operand.Goals as goal

pub overflow_add-context-in-Bang : goal.overflow_add-context-in-Bang
overflow_add-context-in-Bang c = let h = negations_within (level_seen c.args.context.now.level) (outer_of c.args.context.now) in omega arith
