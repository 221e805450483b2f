use Rattle.std.proofs.Common.{◌≡◌, [], Some, ap, refl, subst, sym, true, ◌∙◌}
use Rattle.std.specs.Prelude.{is_some}
use Rattle.be_session.specs.States.{unreported}
use Rattle.be_store.specs.Passes.{volume_pinned}
use Rattle.be_table.specs.Seats.{pinned_number}
use Rattle.bestore_c.specs.States.{ReportsState, unreported_at}
use Rattle.bestore_c.proofs.Called.{called, stays}
use Rattle.bestore_c.proofs.Stated.{state_spent}
use Rattle.bestore_c.proofs.bes_state.Goals as goal

pub returns-in_default-clause-pass : goal.returns-in_default-clause-pass
returns-in_default-clause-pass c =
    let open_is : c.args.pass.now.live ≡ is_some c.args.pass.now.owned.value = c.args.pass.now.full in
    let full : is_some c.args.pass.now.owned.value ≡ true = sym open_is ∙ c.if-not-pass.false in
    stays c.args.pass.now.owned.value _ _ full (λ s. (
      refl,
      state_spent _ [] _ _ _ _ _ _ _ (pinned_number s.knows.phase) (c.begin.ensures.same (volume_pinned s.knows)) refl,
    ))

pub returns-clause-pass : goal.returns-clause-pass
returns-clause-pass c =
    let was : c.args.pass.now.owned.value ≡ Some c.lent.result.now = c.typed.ensures.value ∙ c.lent.ensures.value in
    let volume = volume_pinned c.lent.result.now.knows in
    let there : unreported volume c.lent-2.result.now ≡ unreported_at volume c.args.place.now.owned.value =
    ap (unreported_at volume) (sym (c.typed-2.ensures.value ∙ c.lent-2.ensures.value)) ∙ c.begin.ensures.same volume in
    called c.args.pass.now.owned.value _ c.lent.result.now c.report_state.new.session _ _ was refl c.report_state.ensures.read.0 c.report_state.ensures.read.1 (
      c.report_state.ensures.read.2,
      subst (λ before. ReportsState (pinned_number c.lent.result.now.knows.phase) before (unreported volume c.report_state.new.place) c.report_state.new.counts
          c.args.listed.now c.report_state.new.operations c.args.bytes.now c.report_state.new.bytes c.report_state.result) there c.report_state.ensures.reported,
    )
