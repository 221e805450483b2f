use Rattle.std.proofs.Common.{◌≡◌, ◌-◌, ◌<◌, get_or, ap, ◌∙◌, arith}
use Rattle.std.proofs.lemmas.List.{get_or_default}
use Rattle.be_paged_building.specs.Place.{key_in}
use Rattle.be_paged_building.proofs.keys.is_again.Goals as goal

pub returns-clause-again : goal.returns-clause-again
returns-clause-again c = λ t.
    let places = c.args.places.now in
    let i = c.args.i in
    let some : 0 < i = omega (arith, c.if-i-eq0.false) in
    (i - 1, (omega (arith, some), λ d. ap (key_in c.args.bytes.now) (get_or_default places (i - 1) d _ (omega (arith, c.requires))) ∙ c.is_same.ensures.same t ∙ ap (key_in c.args.bytes.now) (get_or_default places i _ d c.requires)))

pub returns-clause-new : goal.returns-clause-new
returns-clause-new c = λ f j d e same.
    let places = c.args.places.now in
    let i = c.args.i in
    let one : i - 1 ≡ j = omega (arith, e) in
    c.is_same.ensures.other f (ap (key_in c.args.bytes.now) (get_or_default places (i - 1) _ d (omega (arith, c.requires)) ∙ ap (λ n. get_or places n d) one) ∙ same ∙ ap (key_in c.args.bytes.now) (get_or_default places i d _ c.requires))
