use Rattle.std.proofs.Common.{ap, sym, subst}
use Rattle.be_table.specs.Place.{SeatFacts}
use Rattle.be_table.specs.declared.pass.Knowledge.{Knowledge}
use Rattle.be_script_runner.specs.Lines.{LeadTo}
use Rattle.be_script_runner.proofs.CallLemmas.{leads_nowhere}
use Rattle.be_script_runner.proofs.stores.PassServer.at_first.Goals as goal

pub invariant_of-result : goal.invariant_of-result
invariant_of-result c = (
  c.requires,
  subst (λ (k : Knowledge). LeadTo k c.args.pass.knows) (sym (ap (λ (p : SeatFacts). p.knows) c.of-first.ensures)) (leads_nowhere c.args.pass.knows),
)

pub returns-clause-first : goal.returns-clause-first
returns-clause-first c = ap (λ (p : SeatFacts). p.knows) c.of-first.ensures
