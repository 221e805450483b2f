use Rattle.be_value.specs.Key.{key}
use Rattle.be_plan.proofs.walks.part_beyond.Goals as goal

pub returns-clause-within : goal.returns-clause-within
returns-clause-within c = λ k w. c.in-Some.ensures.within k (c.narrow_by_operator.ensures.within k w)

pub returns-clause-keeps : goal.returns-clause-keeps
returns-clause-keeps c = λ v n p h w. c.narrow_by_operator.ensures.keeps v n p h (c.in-Some.ensures.keeps (key v n) w)

pub returns-clause-decides : goal.returns-clause-decides
returns-clause-decides c = λ v n p w. c.narrow_by_operator.ensures.decides c.if-not-narrow_by_operator.false v n p w
