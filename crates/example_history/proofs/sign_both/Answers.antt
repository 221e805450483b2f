use Rattle.std.proofs.Common.{subst}
use Rattle.std.specs.Prelude.{IfOk}
use Rattle.be_store.specs.Calls.{Calls}
use Rattle.example_history.specs.Visits.{visits, writes}
use Rattle.example_history.proofs.Later.{finds_all}
use Rattle.example_history.proofs.Runs.{history_of_two}
use Rattle.example_history.proofs.sign_both.Goals as goal

pub returns-clause-history : goal.returns-clause-history
returns-clause-history g c =
    let a = c.in_ok-store.first.knows in
    let b = c.in_ok-store.second.knows in
    let w = c.write.new.pass.knows in
    let z = c.sign_at_once-anns.result.0.0.knows in
    let y = c.sign_at_once-anns.result.1.0.knows in
    let begun = c.in_ok-begun.begun in
    let ann = c.in_ok-ann.ann in
    let bob = c.in_ok-bob.bob in
    let query = c.args.query.now in
    history_of_two c.one_history.ensures.made c.in_ok-journal.journal.entries a b w z y
    (λ k. writes k c.args.begin.now begun.number begun.outcomes.items)
    (λ k. visits k c.args.ann.now ann.signed.number ann.signed.outcomes.items query ann.found.pin ann.found.nodes.items)
    (λ k. visits k c.args.bob.now bob.signed.number bob.signed.outcomes.items query bob.found.pin bob.found.nodes.items)
    c.in_ok-store.ensures.first.1 c.in_ok-store.ensures.second.1 c.in_ok-begun.ensures.calls
    (subst (λ r. IfOk r (λ v. Calls w (visits w.number c.args.ann.now v.signed.number v.signed.outcomes.items query v.found.pin v.found.nodes.items) z)) c.in_ok-ann.was c.sign_at_once-anns.ensures.ann.1)
    (subst (λ r. IfOk r (λ v. Calls b (visits b.number c.args.bob.now v.signed.number v.signed.outcomes.items query v.found.pin v.found.nodes.items) y)) c.in_ok-bob.was c.sign_at_once-anns.ensures.bob.1)
    c.in_ok-journal.ensures

pub returns-clause-later : goal.returns-clause-later
returns-clause-later g c =
    let begun = c.in_ok-begun.begun in
    let ann = c.in_ok-ann.ann in
    let bob = c.in_ok-bob.bob in
    finds_all c.in_ok-journal.journal.entries c.args.query.now c.args.begin.now c.args.ann.now c.args.bob.now begun.number ann.signed.number bob.signed.number ann.found.pin bob.found.pin
    begun.outcomes.items ann.signed.outcomes.items bob.signed.outcomes.items ann.found.nodes.items bob.found.nodes.items (returns-clause-history g c)
