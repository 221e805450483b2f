use Rattle.std.proofs.Common.{ap}
use Rattle.be_store.specs.SmallMachine.{Unpin}
use Rattle.be_script_runner.specs.Served.{Seated}
use Rattle.be_script_runner.proofs.CallLemmas.{leads_more}
use Rattle.be_script_runner.proofs.PassLemmas.{is_pinned_to}
use Rattle.be_script_runner.proofs.stores.PassServerServer.unpin.Goals as goal

pub unpin-requires-clause-pinned : goal.unpin-requires-clause-pinned
unpin-requires-clause-pinned c = is_pinned_to c.self.inside.pass.knows c.args.self.now.knows (ap (λ (s : Seated). s.knows) c.self.view_is) c.requires

pub invariant_of-self : goal.invariant_of-self
invariant_of-self c = (
  c.unpin.ensures.pass,
  leads_more c.self.inside.first.value.knows c.self.inside.pass.knows Unpin c.unpin.new.pass.knows c.self.invariant.1
      (c.unpin.ensures.unpinned, c.unpin.ensures.moves.made),
)
