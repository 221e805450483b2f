use Rattle.std.proofs.Common.{◌≡◌, IfErr, ap, refl, rules, subst}
use Rattle.be_change.specs.Changing.{Changing}
use Rattle.be_change.specs.Ending.{IsNotBegun, Releases}
use Rattle.be_table.specs.declared.pass.Knowledge.{Knowledge}
use Rattle.be_session.specs.Imports.{OutOfMemory}
use Rattle.be_session.specs.Sitting.{Sitting}
use Rattle.be_session.specs.declared.faults.Fault.TheVariants.{Refused}
use Rattle.be_session.proofs.Written.{not_begun}
use Rattle.be_session.proofs.session.Session.begin_change.Goals as goal

pub returns-in_err-change-clause-err : goal.returns-in_err-change-clause-err
returns-in_err-change-clause-err c = subst (λ (k : Knowledge). IfErr c.from_residual.result (λ e. (e ≡ Refused OutOfMemory) × IsNotBegun k c.begin.new.pass.knows))
    (ap (λ (s : Sitting). s.knows) c.self.view_is) (search rules)

pub returns-in-Err-clause-err : goal.returns-in-Err-clause-err
returns-in-Err-clause-err c = (
  refl,
  subst (λ (k : Knowledge). IsNotBegun k c.abandon.new.pass.knows) (ap (λ (s : Sitting). s.knows) c.self.view_is)
      (not_begun c.in_ok-change.change _ c.self.inside.pass.knows c.begin.new.pass.knows c.abandon.new.pass.knows c.in_ok-change.ensures.ok
      (subst (λ (x : Changing). Releases x.pins c.begin.new.pass.knows c.abandon.new.pass.knows) c.in-Err.ensures.value_returned c.abandon.ensures.released)),
)
