use Rattle.std.proofs.Common.{◌≡◌, Some, inl, inr, refl, subst, sym, true, ◌∙◌}
use Rattle.be_session.specs.Items.{IsUnbuilt}
use Rattle.be_table.specs.Seats.{pinned_number}
use Rattle.be_store.specs.Passes.{volume_pinned}
use Rattle.be_volume.specs.Query.{scan}
use Rattle.bestore_c.specs.Calls.{FindsBuilt, IsClosed}
use Rattle.std.specs.Prelude.{is_some}
use Rattle.bestore_c.proofs.Called.{called, stays}
use Rattle.bestore_c.proofs.bes_query_items.Goals as goal

pub returns-in-Err-clause-pass : goal.returns-in-Err-clause-pass
returns-in-Err-clause-pass c =
    let open_is : c.args.pass.now.live ≡ is_some c.args.pass.now.owned.value = c.args.pass.now.full in
    let full : is_some c.args.pass.now.owned.value ≡ true = sym open_is ∙ c.if-not-pass.false in
    let number = c.refuse_list.new.number in
    stays c.args.pass.now.owned.value (IsClosed number c.refuse_list.result) (λ s t. FindsBuilt s t c.args.encoded.now c.args.bytes.now c.args.nodes.now
    c.args.nodes.now number c.refuse_list.result)
    full (λ s. inl (
      c.in-Err.invalid.fault,
      c.refuse_list.ensures.code,
      subst (IsUnbuilt c.args.encoded.now c.args.bytes.now c.in-Err.invalid.fault) (sym c.refuse_list.ensures.place) c.in-Err.ensures.err,
      refl,
    ))

pub returns-clause-pass : goal.returns-clause-pass
returns-clause-pass c =
    let was : c.args.pass.now.owned.value ≡ Some c.lent.result.now = c.typed.ensures.value ∙ c.lent.ensures.value in
    called c.args.pass.now.owned.value _ c.lent.result.now c.query-answer.new.self (IsClosed c.report.new.count c.report.result)
    (λ s t. FindsBuilt s t c.args.encoded.now c.args.bytes.now c.args.nodes.now c.report.new.nodes c.report.new.count c.report.result) was refl
    c.query-answer.ensures.store.0 c.query-answer.ensures.store.1
    (inr (
      c.in-Ok.query,
      c.in-Ok.ensures.ok,
      c.query-answer.ensures.read,
      c.report.ensures.found (pinned_number c.lent.result.now.knows.phase)
          (scan (volume_pinned c.lent.result.now.knows) c.in-Ok.query) c.query-answer.ensures.nodes,
    ))
