use Rattle.std.proofs.Common.{ap, ◌∙◌}
use Rattle.be_query.specs.Rpn.{things_of}
use Rattle.be_query.proofs.Items.{one_more}
use Rattle.be_query.proofs.rpn.push.Goals as goal

pub returns-clause-ok : goal.returns-clause-ok
returns-clause-ok c =
    ap (λ things. (c.args.stack.now.comparisons, things)) (ap things_of c.in_ok-push.ensures.items ∙ one_more c.args.stack.now.things.items c.args.thing)
