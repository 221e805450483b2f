use Rattle.std.proofs.Common.{◌≡◌, Some, inl, inr, refl, ◌∙◌}
use Rattle.be_table.specs.Seats.{pinned_number}
use Rattle.be_store.specs.Passes.{volume_pinned}
use Rattle.be_session.specs.Ways.{if_answered}
use Rattle.be_volume.specs.Query.{scan}
use Rattle.bestore_c.specs.Calls.{IsClosed}
use Rattle.bestore_c.specs.Ways.{ReturnsWays}
use Rattle.bestore_c.proofs.Called.{called, unasked}
use Rattle.bestore_c.proofs.bes_ways.Goals as goal

pub returns-in-Err-clause-pass : goal.returns-in-Err-clause-pass
returns-in-Err-clause-pass c =
    let number = c.query_for.new.number in
    unasked c.args.pass.now.owned.value c.args.pass.now.live (IsClosed number c.in-Err.code)
    (λ s t. ReturnsWays s t c.args.text.now c.args.bytes.now c.args.bytes.now number c.in-Err.code) c.args.pass.now.full c.in-Err.ensures.closed
    (λ full s. let r = c.in-Err.ensures.refused full in inl (r.0, r.1, r.2, refl))

pub returns-clause-pass : goal.returns-clause-pass
returns-clause-pass c =
    let was : c.args.pass.now.owned.value ≡ Some c.lent.result.now = c.typed.ensures.value ∙ c.lent.ensures.value in
    let shown = c.ways-lines.ensures.text in
    called c.args.pass.now.owned.value _ c.lent.result.now c.ways-lines.new.self (IsClosed c.report_text.new.count c.report_text.result)
    (λ s t. ReturnsWays s t c.args.text.now c.args.bytes.now c.report_text.new.bytes c.report_text.new.count c.report_text.result) was refl c.ways-lines.ensures.store.0
    c.ways-lines.ensures.store.1
    (inr (
      c.in-Ok.query,
      c.in-Ok.ensures.query,
      c.ways-lines.ensures.read,
      (
        shown.0,
        shown.1,
        c.report_text.ensures.found (pinned_number c.lent.result.now.knows.phase)
            (if_answered shown.0 (scan (volume_pinned c.lent.result.now.knows) c.in-Ok.query)) shown.2,
      ),
    ))
