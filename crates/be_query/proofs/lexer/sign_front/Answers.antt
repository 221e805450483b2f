use Rattle.std.proofs.Common.{◌∙◌, ap, arith}
use Rattle.std.specs.Prelude.{slice_get}
use Rattle.be_query.proofs.Fronts.{sign_boundary, sign_at}
use Rattle.be_query.proofs.lexer.sign_front.Goals as goal

pub split_at-requires : goal.split_at-requires
split_at-requires c =
    let r = c.requires in
    let e = c.in-Some.ensures.sign in
    let b = sign_boundary c.args.text.now c.args.first c.in-Some.width c.byte_at.result c.utf8.text r.nonempty r.first (c.byte_at.ensures ∙ ap (λ l. slice_get l 1) c.as_bytes-bytes.ensures.value) e.1 e.2 e.3 in
    b.1

pub returns-in-Some-clause-front : goal.returns-in-Some-clause-front
returns-in-Some-clause-front c =
    let r = c.requires in
    let e = c.in-Some.ensures.sign in
    let s = c.byte_at.ensures ∙ ap (λ l. slice_get l 1) c.as_bytes-bytes.ensures.value in
    let b = sign_boundary c.args.text.now c.args.first c.in-Some.width c.byte_at.result c.utf8.text r.nonempty r.first s e.1 e.2 e.3 in
    (c.in-Some.width, sign_at c.args.text.now c.args.first c.byte_at.result _ c.in-Some.width r.nonempty r.first s r.separator r.quote r.sign e.0, c.split_at.ensures.back, e.1, b.0, omega (arith, e.4))

pub returns-in-None-clause-front : goal.returns-in-None-clause-front
returns-in-None-clause-front c =
    let r = c.requires in
    let s = c.byte_at.ensures ∙ ap (λ l. slice_get l 1) c.as_bytes-bytes.ensures.value in
    (1, sign_at c.args.text.now c.args.first c.byte_at.result _ 1 r.nonempty r.first s r.separator r.quote r.sign (c.in-None.ensures.sign r.sign))
