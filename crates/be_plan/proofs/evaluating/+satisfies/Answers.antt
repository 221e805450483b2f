use Rattle.std.proofs.Common.{rules}
use Rattle.be_plan.proofs.evaluating.+satisfies.Goals as goal

pub returns-else-eq-clause-still : goal.returns-else-eq-clause-still
returns-else-eq-clause-still g t c = (c.requires.0, search rules)
