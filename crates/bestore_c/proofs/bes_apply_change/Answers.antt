use Rattle.std.proofs.Common.{◌≡◌, Some, inl, inr, refl, subst, sym, true, ◌∙◌}
use Rattle.be_session.specs.Changes.{IsUnwrittenChange}
use Rattle.be_session.specs.Operations.{AreMeant, IsInvalid}
use Rattle.bestore_c.specs.Calls.{IsClosed}
use Rattle.bestore_c.specs.Drafts.{WritesEncodedChange}
use Rattle.std.specs.Prelude.{is_some}
use Rattle.bestore_c.proofs.Called.{called, stays}
use Rattle.bestore_c.proofs.bes_apply_change.Goals as goal

pub returns-in-Err : goal.returns-in-Err
returns-in-Err c =
    let open_is : c.args.pass.now.live ≡ is_some c.args.pass.now.owned.value = c.args.pass.now.full in
    let full : is_some c.args.pass.now.owned.value ≡ true = sym open_is ∙ c.if-not-pass.false in
    let number = c.refuse_list.new.number in
    record {
      pass = stays c.args.pass.now.owned.value (IsClosed number c.refuse_list.result) (λ s t. WritesEncodedChange s t c.args.encoded.now c.args.bytes.now number c.refuse_list.result)
          full (λ s. inl (
            c.in-Err.invalid.fault,
            c.refuse_list.ensures.code,
            subst (IsInvalid c.args.encoded.now c.args.bytes.now c.in-Err.invalid.fault) (sym c.refuse_list.ensures.place) c.in-Err.ensures.err,
            refl,
          ));
    }

pub returns : goal.returns
returns c =
    let was : c.args.pass.now.owned.value ≡ Some c.lent-session.result.now = c.typed.ensures.value ∙ c.lent-session.ensures.value in
    let number = c.refuse_list-in-Err-apply_change.new.number in
    record {
      pass = called c.args.pass.now.owned.value _ c.lent-session.result.now c.apply_change.new.self (IsClosed number c.refuse_list-in-Err-apply_change.result) _
          was refl c.apply_change.ensures.store.0 c.apply_change.ensures.store.1
          (inr (
            c.in-Ok.ensures.count,
            c.as_slice.result.now,
            subst (AreMeant c.args.encoded.now c.args.bytes.now) (sym c.as_slice.ensures.value) c.in-Ok.ensures.ok,
            inr (
              c.in-Err-apply_change.fault.fault,
              c.refuse_list-in-Err-apply_change.ensures.code,
              subst (IsUnwrittenChange c.lent-session.result.now.knows c.apply_change.new.self.knows c.as_slice.result.now c.in-Err-apply_change.fault.fault)
                  (sym c.refuse_list-in-Err-apply_change.ensures.place) c.in-Err-apply_change.ensures.err,
            ),
          ));
    }

pub returns-in-Ok-apply_change : goal.returns-in-Ok-apply_change
returns-in-Ok-apply_change c =
    let was : c.args.pass.now.owned.value ≡ Some c.lent-session.result.now = c.typed.ensures.value ∙ c.lent-session.ensures.value in
    record {
      pass = called c.args.pass.now.owned.value _ c.lent-session.result.now c.apply_change.new.self (IsClosed c.in-Ok-apply_change.commit 0) _
          was refl c.apply_change.ensures.store.0 c.apply_change.ensures.store.1
          (inr (
            c.in-Ok.ensures.count,
            c.as_slice.result.now,
            subst (AreMeant c.args.encoded.now c.args.bytes.now) (sym c.as_slice.ensures.value) c.in-Ok.ensures.ok,
            inl (refl, c.in-Ok-apply_change.ensures.ok),
          ));
    }
