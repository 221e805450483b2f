use Rattle.be_query.specs.View.{formula}
use Rattle.be_plan.proofs.Spines.{whole_under}
use Rattle.be_plan.proofs.spine.front_for.Goals as goal

pub cut_after-requires : goal.cut_after-requires
cut_after-requires c = record { end = c.requires.front.end; few = c.requires.front.few; within = c.if-pick-before.true }

pub returns-then-pick-before-clause-front : goal.returns-then-pick-before-clause-front
returns-then-pick-before-clause-front c =
    let cut = c.cut_after.ensures in
    record { end = cut.end; few = cut.few; under = cut.under (formula c.args.whole.now) c.requires.front.under }

pub returns-then-pick-before-clause-lies : goal.returns-then-pick-before-clause-lies
returns-then-pick-before-clause-lies c = c.cut_after.ensures.lies (formula c.args.whole.now) c.requires.front.under

pub returns-else-pick-before-clause-front : goal.returns-else-pick-before-clause-front
returns-else-pick-before-clause-front c =
    let cut = c.cut_after-else-pick-before.ensures in
    record { end = cut.end; few = cut.few; under = cut.under (formula c.args.whole.now) (whole_under (formula c.args.whole.now)) }

pub returns-else-pick-before-clause-lies : goal.returns-else-pick-before-clause-lies
returns-else-pick-before-clause-lies c = c.cut_after-else-pick-before.ensures.lies (formula c.args.whole.now) (whole_under (formula c.args.whole.now))
