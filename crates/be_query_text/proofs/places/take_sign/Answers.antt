use Rattle.std.proofs.Common.{◌-◌, ◌+◌, get_or, length, refl, subst}
use Rattle.be_query_text.proofs.Taken.{Leaves, no_sign_taken, sign_taken}
use Rattle.be_query_text.proofs.places.take_sign.Goals as goal

pub returns-in_default : goal.returns-in_default
returns-in_default c = let r = c.requires in no_sign_taken c.args.total c.args.rest.now (get_or c.args.rest.now 0 0) c.byte_at.result r.nonempty refl c.byte_at.ensures r.separator r.quote r.sign c.in_default.ensures

pub returns-in-Some-operator_of : goal.returns-in-Some-operator_of
returns-in-Some-operator_of c =
    let r = c.requires in
    let rest = c.args.rest.now in
    let at = c.args.total - length rest in
    subst (λ ps. Leaves c.args.total rest ps c.split_at.result.1.now) (c.in-Some-operator_of.ensures.some at (at + 0))
    (sign_taken c.args.total rest c.split_at.result.1.now (get_or rest 0 0) c.byte_at.result c.in-Some.sign c.in-Some.width r.nonempty refl c.byte_at.ensures r.separator r.quote r.sign c.in-Some.ensures c.split_at.ensures.back r.within)

pub returns-in-None : goal.returns-in-None
returns-in-None c =
    let r = c.requires in
    let rest = c.args.rest.now in
    let at = c.args.total - length rest in
    subst (λ ps. Leaves c.args.total rest ps c.split_at.result.1.now) (c.in-None.ensures.none at (at + 0))
    (sign_taken c.args.total rest c.split_at.result.1.now (get_or rest 0 0) c.byte_at.result c.in-Some.sign c.in-Some.width r.nonempty refl c.byte_at.ensures r.separator r.quote r.sign c.in-Some.ensures c.split_at.ensures.back r.within)
