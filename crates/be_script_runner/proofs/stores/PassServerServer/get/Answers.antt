use Rattle.std.proofs.Common.{ap}
use Rattle.be_script_runner.specs.Served.{Seated}
use Rattle.be_script_runner.proofs.CallLemmas.{leads_read}
use Rattle.be_script_runner.proofs.PassLemmas.{is_pinned_to}
use Rattle.be_script_runner.proofs.stores.PassServerServer.get.Goals as goal

pub get-value-requires-clause-pinned : goal.get-value-requires-clause-pinned
get-value-requires-clause-pinned c = is_pinned_to c.self.inside.pass.knows c.begin_read-made.new.self.knows (ap (λ (s : Seated). s.knows) c.self.view_is) c.begin_read-made.ensures.pinned

pub invariant_of-self : goal.invariant_of-self
invariant_of-self c = (
  c.get-value.ensures.pass.0,
  leads_read c.self.inside.first.value.knows c.self.inside.pass.knows c.get-value.new.pass.knows c.self.invariant.1 c.get-value.ensures.pass.1,
)
