use Rattle.std.proofs.Common.{inl, refl}
use Rattle.bestore_c.specs.Calls.{Explains, IsClosed}
use Rattle.bestore_c.proofs.Called.{unasked}
use Rattle.bestore_c.proofs.bes_explain.Goals as goal

pub returns-in-Err-clause-pass : goal.returns-in-Err-clause-pass
returns-in-Err-clause-pass c =
    let number = c.query_for.new.number in
    unasked c.args.pass.now.owned.value c.args.pass.now.live (IsClosed number c.in-Err.code)
    (λ s t. Explains s t c.args.text.now c.args.bytes.now c.args.bytes.now number c.in-Err.code) c.args.pass.now.full c.in-Err.ensures.closed
    (λ full s. let r = c.in-Err.ensures.refused full in inl (r.0, r.1, r.2, refl))
