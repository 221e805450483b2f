use Rattle.std.proofs.Common.{◌∙◌}
use Rattle.be_session.specs.States.{unreported}
use Rattle.be_store.specs.Passes.{volume_pinned}
use Rattle.be_table.specs.Seats.{pinned_number}
use Rattle.bestore_c.proofs.Stated.{state_reported, state_unreported}
use Rattle.bestore_c.proofs.states.report_state.Goals as goal

pub returns-in-Ok-clause-reported : goal.returns-in-Ok-clause-reported
returns-in-Ok-clause-reported c =
    let volume = volume_pinned c.args.session.now.knows in
    let same = c.in-Ok.ensures.same in
    state_reported (unreported volume c.args.place.now) (unreported volume c.state.new.place) (unreported volume c.report_ready.new.place) c.report_ready.new.counts
    c.args.operations.now c.report_ready.new.operations c.args.bytes.now c.report_ready.new.bytes c.report_ready.result
    (pinned_number c.args.session.now.knows.phase) _ _ c.in-Ok.ensures.err same
    (c.report_ready.ensures.reported volume c.in-Ok.ensures.few (λ none. same ∙ c.in-Ok.ensures.ends none))

pub returns-in-Err-clause-reported : goal.returns-in-Err-clause-reported
returns-in-Err-clause-reported c =
    let volume = volume_pinned c.args.session.now.knows in
    state_unreported (unreported volume c.args.place.now) (unreported volume c.args.place.now) (unreported volume c.state.new.place) c.args.counts.now
    c.args.operations.now c.args.operations.now c.args.bytes.now c.args.bytes.now _ _
    (pinned_number c.args.session.now.knows.phase) c.in-Err.fault c.in-Err.ensures.err c.in-Err.ensures.same c.code.ensures
