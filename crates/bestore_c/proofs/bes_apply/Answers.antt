use Rattle.std.proofs.Common.{◌≡◌, Some, inl, inr, refl, subst, sym, true, ◌∙◌}
use Rattle.be_session.specs.Operations.{AreMeant, IsInvalid}
use Rattle.bestore_c.specs.Calls.{IsClosed, WritesEncoded}
use Rattle.std.specs.Prelude.{is_some}
use Rattle.bestore_c.proofs.Called.{called, stays}
use Rattle.bestore_c.proofs.bes_apply.Goals as goal

pub returns-in-Err-clause-pass : goal.returns-in-Err-clause-pass
returns-in-Err-clause-pass c =
    let open_is : c.args.pass.now.live ≡ is_some c.args.pass.now.owned.value = c.args.pass.now.full in
    let full : is_some c.args.pass.now.owned.value ≡ true = sym open_is ∙ c.if-not-pass.false in
    let number = c.refuse_list.new.number in
    stays c.args.pass.now.owned.value (IsClosed number c.refuse_list.result) (λ s t. WritesEncoded s t c.args.encoded.now c.args.bytes.now
    c.args.made.now c.args.made.now number c.refuse_list.result)
    full (λ s. inl (
      c.in-Err.invalid.fault,
      c.refuse_list.ensures.code,
      subst (IsInvalid c.args.encoded.now c.args.bytes.now c.in-Err.invalid.fault) (sym c.refuse_list.ensures.place) c.in-Err.ensures.err,
      refl,
    ))

pub returns-clause-pass : goal.returns-clause-pass
returns-clause-pass c =
    let was : c.args.pass.now.owned.value ≡ Some c.lent.result.now = c.typed.ensures.value ∙ c.lent.ensures.value in
    called c.args.pass.now.owned.value _ c.lent.result.now c.apply-answer.new.self (IsClosed c.refuse.new.number c.refuse.result) _
    was refl c.apply-answer.ensures.store.0 c.apply-answer.ensures.store.1
    (inr (
      c.in-Ok.ensures.count,
      c.as_slice.result.now,
      subst (AreMeant c.args.encoded.now c.args.bytes.now) (sym c.as_slice.ensures.value) c.in-Ok.ensures.ok,
      inr (c.in-Err-answer.fault, c.refuse.ensures, c.in-Err-answer.ensures.err),
    ))
