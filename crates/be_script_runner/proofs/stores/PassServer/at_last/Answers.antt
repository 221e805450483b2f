use Rattle.be_script_runner.specs.Lines.{LeadTo}
use Rattle.be_script_runner.specs.Served.{Seated}
use Rattle.std.proofs.Common.{subst}
use Rattle.be_script_runner.proofs.stores.PassServer.at_last.Goals as goal

pub returns-clause-calls : goal.returns-clause-calls
returns-clause-calls c = subst (λ (s : Seated). LeadTo s.first c.self.inside.pass.knows) c.self.view_is c.self.invariant.1
