use Rattle.std.proofs.Common.{◌≡◌, Result, Ok, Err, inl, subst, sym}
use Rattle.std.specs.Result.{IfErr, IsErrAnd}
use Rattle.be_session.specs.Items.{IsUnbuilt}
use Rattle.be_session.proofs.items.query_of_items.Goals as goal

passed_up : {T E : Type 0} (r : Result T E) (e : E) (P : E → Type 0) → IsErrAnd r (λ y. y ≡ e) → P e → IfErr r P
passed_up (Ok x) e P is p = tt
passed_up (Err y) e P is p = subst P (sym is) p

pub returns-in_err-items-clause-err : goal.returns-in_err-items-clause-err
returns-in_err-items-clause-err c =
    passed_up c.from_residual.result c.in_err-items.field-0.0 (λ e. IsUnbuilt c.args.encoded.now c.args.bytes.now e.fault e.place) c.from_residual.ensures.1
    (inl c.in_err-items.ensures.err)
