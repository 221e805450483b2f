use Rattle.std.proofs.Common.{ap, ◌∙◌, subst}
use Rattle.std.specs.Prelude.{IfErr}
use Rattle.be_table.specs.declared.pass.Knowledge.{Knowledge}
use Rattle.be_script_runner.specs.Served.{IsRefusedBy, Seated, known, seat_of}
use Rattle.be_script_runner.specs.Store.{Meanwhile, MayWrite}
use Rattle.be_script_runner.proofs.CallLemmas.{leads_both}
use Rattle.be_script_runner.proofs.stores.PassServerServer.apply.Goals as goal

pub returns-clause-writes : goal.returns-clause-writes
returns-clause-writes c =
    subst (λ (a : Knowledge). Meanwhile (known a) (λ s. MayWrite (λ dones. dones.items) s c.args.ops.now c.apply_at_last.result (known c.apply_at_last.new.pass.knows)))
    (ap (λ (s : Seated). s.knows) c.self.view_is) c.apply_at_last.ensures.writes

pub returns-clause-stays : goal.returns-clause-stays
returns-clause-stays c = ap (λ n. (c.self.inside.store.now, n, c.self.inside.first.value.knows)) c.apply_at_last.ensures.number ∙ ap seat_of c.self.view_is

pub returns-clause-reason : goal.returns-clause-reason
returns-clause-reason c =
    subst (λ (a : Knowledge). IfErr c.apply_at_last.result (λ e. IsRefusedBy a c.args.ops.now e c.apply_at_last.new.pass.knows))
    (ap (λ (s : Seated). s.knows) c.self.view_is) c.apply_at_last.ensures.tries

pub invariant_of-self : goal.invariant_of-self
invariant_of-self c = (
  c.apply_at_last.ensures.pass,
  leads_both c.self.inside.first.value.knows c.self.inside.pass.knows c.apply_at_last.new.pass.knows c.self.invariant.1 c.apply_at_last.ensures.call,
)
