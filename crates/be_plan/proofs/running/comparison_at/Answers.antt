use Rattle.std.proofs.Common.{arith}
use Rattle.be_query.specs.View.{formula}
use Rattle.be_plan.proofs.Ways.{none_after}
use Rattle.be_plan.proofs.running.comparison_at.Goals as goal

pub returns-in-Err : goal.returns-in-Err
returns-in-Err c = none_after (formula c.args.tree.now) c.args.place (omega (arith, c.in-Err.ensures.beyond))
