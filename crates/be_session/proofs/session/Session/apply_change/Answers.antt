use Rattle.std.proofs.Common.{◌∙◌, ℕ, IfErr, IfOk, Result, ap, subst, sym}
use Rattle.be_table.specs.declared.pass.Knowledge.{Knowledge}
use Rattle.be_session.specs.Changes.{IsUnwrittenChange, WritesChange}
use Rattle.be_session.specs.Fault.{fault_carried}
use Rattle.be_session.specs.Sitting.{Sitting}
use Rattle.be_session.specs.declared.faults.ListFault.{ListFault}
use Rattle.be_session.proofs.Written.{unmade, written}
use Rattle.be_session.proofs.session.Session.apply_change.Goals as goal
use Rattle.be_session.proofs.session.Session.apply_change.Goals.{in-Ok, in-Err}

pub returns-clause-ok : goal.returns-clause-ok
returns-clause-ok c =
    let before = c.self.inside.pass.knows in
    let after = c.apply_if_into.new.pass.knows in
    let ops = c.args.ops.now in
    let same = ap (λ (s : Sitting). s.knows) c.self.view_is in
    elim c.match-apply_if_into.branch [
      | in-Ok w ↦ subst (λ (r : Result ℕ ListFault). IfOk r (λ n. WritesChange c.args.self.now.knows after ops n)) (sym w.result-is)
          (subst (λ (k : Knowledge). WritesChange k after ops w.in-Ok.length) same
          (written before c.check_kinds.new.pass.knows after c.in-Some.number w.in-Ok.length ops c.apply_if_into.new.dones.items (sym c.pinned.ensures ∙ c.in-Some.is)
          c.in_ok-check_kinds.ensures.pass.1 c.in_ok-check_kinds.ensures.right w.in-Ok.ensures.accepted))
      | in-Err w ↦ subst (λ (r : Result ℕ ListFault). IfOk r (λ n. WritesChange c.args.self.now.knows after ops n)) (sym w.result-is) tt
    ]

pub returns-clause-err : goal.returns-clause-err
returns-clause-err c =
    let after = c.apply_if_into.new.pass.knows in
    let ops = c.args.ops.now in
    let same = ap (λ (s : Sitting). s.knows) c.self.view_is in
    elim c.match-apply_if_into.branch [
      | in-Ok w ↦ subst (λ (r : Result ℕ ListFault). IfErr r (λ e. IsUnwrittenChange c.args.self.now.knows after ops e.fault e.place)) (sym w.result-is) tt
      | in-Err w ↦ subst (λ (r : Result ℕ ListFault). IfErr r (λ e. IsUnwrittenChange c.args.self.now.knows after ops e.fault e.place)) (sym w.result-is)
          (subst (λ (k : Knowledge). IsUnwrittenChange k after ops w.from-in-Err-2.result.fault w.from-in-Err-2.result.place) same
          (unmade c.self.inside.pass.knows c.check_kinds.new.pass.knows after c.in-Some.number w.from-in-Err-2.result.place ops w.in-Err.error
          w.from-in-Err-2.result.fault (sym c.pinned.ensures ∙ c.in-Some.is) c.in_ok-check_kinds.ensures.pass.1 c.in_ok-check_kinds.ensures.right
          w.in-Err.ensures.refused (w.from-in-Err-2.ensures.0 ∙ w.from-in-Err.ensures) (w.from-in-Err-2.ensures.1 ∙ ap fault_carried (sym w.from-in-Err-2.ensures.0))))
    ]
