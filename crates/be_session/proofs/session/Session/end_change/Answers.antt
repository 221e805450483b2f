use Rattle.std.proofs.Common.{◌≡◌, Ok, ap, refl, subst, sym, ◌∙◌}
use Rattle.be_change.specs.Ending.{EndsOnce, Releases}
use Rattle.be_store.specs.Passes.{IsPinnedTo}
use Rattle.be_table.specs.declared.pass.Knowledge.{Knowledge}
use Rattle.be_session.specs.Changes.{EndsChange, IsOwnChange, as_answer}
use Rattle.be_session.specs.Sitting.{Sitting}
use Rattle.be_session.proofs.Written.{ended}
use Rattle.be_session.proofs.session.Session.end_change.Goals as goal
use Rattle.be_session.proofs.session.Session.end_change.Goals.{in-Ok-Accepted, in-Ok-Again, in-Err}

pub end_once-requires-clause-pinned : goal.end_once-requires-clause-pinned
end_once-requires-clause-pinned c = (
  c.args.change.number,
  subst (λ k. IsPinnedTo k c.args.change.number) (sym (ap (λ (s : Sitting). s.knows) c.self.view_is)) (c.if-not-owns.ensures.yes refl).0,
)

pub returns-clause-ends : goal.returns-clause-ends
returns-clause-ends c =
    let change = c.args.change in
    let after = c.end_once.new.pass.knows in
    let own : IsOwnChange change c.args.self.now.knows = c.if-not-owns.ensures.yes refl in
    let ends : (x : Knowledge) × EndsOnce change c.args.self.now.knows x c.end_once.result × Releases change.pins x after =
    subst (λ (k : Knowledge). (x : Knowledge) × EndsOnce change k x c.end_once.result × Releases change.pins x after)
    (ap (λ (s : Sitting). s.knows) c.self.view_is) c.end_once.ensures.ends in
    let so : c.match-end_once.result ≡ as_answer c.end_once.result → EndsChange change c.args.self.now.knows after c.match-end_once.result =
    λ is. ended change c.args.self.now.knows after c.end_once.result c.match-end_once.result own is ends in
    elim c.match-end_once.branch [
      | in-Ok-Accepted w ↦ so (w.result-is ∙ sym (ap as_answer (w.in-Ok-Accepted.is ∙ ap Ok w.in-Ok-Accepted.field-0-is)))
      | in-Ok-Again w ↦ so (w.result-is ∙ sym (ap as_answer (w.in-Ok-Again.is ∙ ap Ok w.in-Ok-Again.field-0-is)))
      | in-Err w ↦ so (w.result-is ∙ sym (ap as_answer w.in-Err.is))
    ]
