use Rattle.std.proofs.Common.{◌≡◌, ◌≤◌, ◌+◌, ◌-◌, ◌++◌, sym, ap, ◌∙◌, inl, inr, arith}
use Rattle.std.specs.Prelude.{slice_get}
use Rattle.be_query.specs.Grammar.{comparisons}
use Rattle.be_query.specs.View.{formula}
use Rattle.be_query.specs.declared.tree.Tree.{Tree}
use Rattle.be_plan.specs.Cover.{leaves}
use Rattle.be_plan.proofs.Ways.{leaf_right, if_ok}
use Rattle.be_plan.proofs.running.+comparison_or_rest.Goals as goal

pub returns-in-Err-clause-at : goal.returns-in-Err-clause-at
returns-in-Err-clause-at t c =
    let a = formula c.in-And.a.value in
    let b = formula c.in-And.b.value in
    let split : leaves (formula c.args.tree.now) ≡ leaves a ++ leaves b =
    elim c.in-And.is [ inl e ↦ ap (λ (t : Tree). leaves (formula t)) e | inr e ↦ ap (λ (t : Tree). leaves (formula t)) e ] in
    let beyond : c.args.place ≡ comparisons a + c.in-Err.rest = c.in-Err.ensures.beyond ∙ ap (λ (t : Tree). comparisons (formula t) + c.in-Err.rest) c.deref.ensures in
    let second : comparisons a ≤ c.args.place = omega (arith, beyond) in
    let rest : c.args.place - comparisons a ≡ c.in-Err.rest = omega (arith, beyond) in
    let same : slice_get (leaves (formula c.args.tree.now)) c.args.place ≡ slice_get (leaves (formula c.deref-in-Err.result.now)) c.in-Err.rest =
    ap (λ l. slice_get l c.args.place) split ∙ leaf_right a b c.args.place second ∙ ap (slice_get (leaves b)) rest
    ∙ sym (ap (λ (t : Tree). slice_get (leaves (formula t)) c.in-Err.rest) c.deref-in-Err.ensures) in
    if_ok c.comparison_or_rest-in-Err.result (λ x h. same ∙ h) c.comparison_or_rest-in-Err.ensures.at
