use Rattle.std.proofs.Common.{Bool, subst}
use Rattle.be_change.specs.Ending.{Releases}
use Rattle.be_change.proofs.changes.Change.end_once.Goals as goal

pub returns-clause-ends : goal.returns-clause-ends
returns-clause-ends c = (
  c.write_once-ended.new.pass.knows,
  c.write_once-ended.ensures.ends,
  subst (λ (p : Bool). Releases p c.write_once-ended.new.pass.knows c.release.new.pass.knows) c.pins.ensures c.release.ensures.released,
)
