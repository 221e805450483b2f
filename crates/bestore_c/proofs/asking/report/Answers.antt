use Rattle.std.proofs.Common.{length, refl, ap, ◌∙◌}
use Rattle.bestore_c.specs.Places.{over}
use Rattle.bestore_c.proofs.Finding.{found_ok, found_err}
use Rattle.bestore_c.proofs.asking.report.Goals as goal

pub returns-in-Ok-clause-found : goal.returns-in-Ok-clause-found
returns-in-Ok-clause-found c = λ pin meant pinned.
    found_ok (λ v. v.items) pin c.args.answer c.in-Ok.found meant c.args.nodes.now c.put_counted.new.places _ _ c.in-Ok.is pinned refl
    (c.put_counted.ensures.count ∙ ap length c.as_slice.ensures.value)
    (c.put_counted.ensures.places ∙ ap (λ xs. over xs c.args.nodes.now) c.as_slice.ensures.value)

pub returns-in-Err-clause-found : goal.returns-in-Err-clause-found
returns-in-Err-clause-found c = λ pin meant pinned.
    found_err (λ v. v.items) pin c.args.answer c.in-Err.fault meant c.args.nodes.now c.args.nodes.now _ _ c.in-Err.is pinned c.refuse.ensures
