use Rattle.std.proofs.Common.{sym, ap, ◌∙◌}
use Rattle.be_pattern.specs.Canonical.{is_prefix}
use Rattle.be_pattern.proofs.Fronts.{front_matches}
use Rattle.be_pattern.proofs.pattern.Pattern.is_prefix.Goals as goal

pub returns-clause-decides : goal.returns-clause-decides
returns-clause-decides c = λ h beyond whole. front_matches c.args.self.now beyond (ap is_prefix (sym c.self.view_is) ∙ sym c.self.invariant.2 ∙ h) whole
