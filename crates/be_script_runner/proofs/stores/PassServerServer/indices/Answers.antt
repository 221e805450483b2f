use Rattle.std.proofs.Common.{ap}
use Rattle.be_script_runner.specs.Served.{Seated}
use Rattle.be_script_runner.proofs.CallLemmas.{leads_read}
use Rattle.be_script_runner.proofs.PassLemmas.{is_pinned_to}
use Rattle.be_script_runner.proofs.stores.PassServerServer.indices.Goals as goal

pub indices-list-requires-clause-pinned : goal.indices-list-requires-clause-pinned
indices-list-requires-clause-pinned c = is_pinned_to c.self.inside.pass.knows c.begin_read-made.new.self.knows (ap (λ (s : Seated). s.knows) c.self.view_is) c.begin_read-made.ensures.pinned

pub invariant_of-self : goal.invariant_of-self
invariant_of-self c = (
  c.indices-list.ensures.pass.0,
  leads_read c.self.inside.first.value.knows c.self.inside.pass.knows c.indices-list.new.pass.knows c.self.invariant.1 c.indices-list.ensures.pass.1,
)
