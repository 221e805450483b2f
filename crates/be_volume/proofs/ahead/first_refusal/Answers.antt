use Rattle.std.proofs.Common.{sym, ◌∙◌}
use Rattle.be_volume.proofs.StepLemmas.{refused_at}
use Rattle.be_volume.proofs.ahead.first_refusal.Goals as goal

pub returns-in-Some-clause-answer : goal.returns-in-Some-clause-answer
returns-in-Some-clause-answer g c = sym (refused_at g.volume c.args.ops.now c.loop-i.i c.index-ops-i.result c.in-Some.refusal c.loop-i-test.true c.index-ops-i.is c.loop-i.invariant.accepted
    (sym c.refusal_after.ensures.answer ∙ c.in-Some.is))
