use Rattle.std.proofs.Common.{arith}
use Rattle.be_query.specs.Rpn.{things_of}
use Rattle.be_query.specs.View.{formula}
use Rattle.be_query.proofs.Items.{many_things, some_things}
use Rattle.be_query.proofs.rpn.finish.Goals as goal

pub returns-clause-err : goal.returns-clause-err
returns-clause-err c = many_things c.args.len (things_of c.args.stack.now.things.items) (things_of c.pop_tree.new.things.items) (formula c.in-Some.tree) c.in-Some.ensures (some_things c.pop_tree.new.things.items (grind (arith, c.if-is_empty.ensures)))
