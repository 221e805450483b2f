use Rattle.std.proofs.Common.{inl}
use Rattle.be_plan.proofs.source.Source.nodes_passing.Goals as goal

pub returns-clause-keeps : goal.returns-clause-keeps
returns-clause-keeps g c = λ n h. h

pub returns-clause-only : goal.returns-clause-only
returns-clause-only g c = λ volume is n h. inl h

pub returns-clause-has : goal.returns-clause-has
returns-clause-has g c = λ e. absurd (cc e)
