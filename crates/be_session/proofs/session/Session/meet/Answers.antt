use Rattle.std.specs.Prelude.{vec_len}
use Rattle.std.proofs.Common.{◌≡◌, ℕ, IfOk, ap, refl, subst, sym, ◌∙◌}
use Rattle.std.specs.declared.result.Result.{Result}
use Rattle.be_session.specs.Sitting.{HasMet, Holding, Sitting}
use Rattle.be_session.specs.declared.faults.Fault.{Fault}
use Rattle.be_session.proofs.Same.{same_holding}
use Rattle.be_session.proofs.session.Session.meet.Goals as goal
use Rattle.be_session.proofs.session.Session.meet.Goals.{in-Some, in-None}

pub returns-clause-ok : goal.returns-clause-ok
returns-clause-ok c =
    let share = c.self.inside.share in
    let after = c.meet.new.self in
    let spare = vec_len c.self.inside.spare in
    let before : Holding = record { spare = spare; given = share.given; vain = share.vain; began = share.began } in
    let holds : Holding = record { spare = spare; given = after.given; vain = after.vain; began = after.began } in
    let same = c.meet.ensures.same in
    elim c.match-meet.branch [
      | in-Some w ↦ subst (λ (r : Result ℕ Fault). IfOk r (λ n. (holds ≡ c.args.self.now.holds) × HasMet c.args.self.now.store c.args.self.now.knows c.meet.new.pass.knows n))
          (sym w.result-is) (
            same_holding holds before refl same.1 w.in-Some.ensures.met.0 same.2 ∙ ap (λ (s : Sitting). s.holds) c.self.view_is,
            subst (λ (s : Sitting). HasMet s.store s.knows c.meet.new.pass.knows w.in-Some.length) c.self.view_is w.in-Some.ensures.met.1,
          )
      | in-None w ↦ subst (λ (r : Result ℕ Fault). IfOk r (λ n. (holds ≡ c.args.self.now.holds) × HasMet c.args.self.now.store c.args.self.now.knows c.meet.new.pass.knows n))
          (sym w.result-is) tt
    ]
