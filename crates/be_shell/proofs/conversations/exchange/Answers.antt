use Rattle.std.proofs.Common.{ap}
use Rattle.be_script_runner.specs.View.{session}
use Rattle.be_shell.specs.Conversation.{hearing, line_heard}
use Rattle.be_shell.proofs.SaveLemmas.{broke_from, replied_from}
use Rattle.be_shell.proofs.TalkLemmas.{broke_after, deaf, passed_up, went_on, went_out}
use Rattle.be_shell.proofs.conversations.exchange.Goals as goal

pub returns-in_err-line-clause-broke : goal.returns-in_err-line-clause-broke
returns-in_err-line-clause-broke g c =
    passed_up c.from_residual.result c.in_err-line.field-0.0 _ c.from_residual.ensures.1
    (deaf g.P.Peer.does c.in_err-line.field-0.0 (session (g.S.Server.shows c.args.server.now) c.args.client.now) c.args.peer.now c.hear.new.self
    c.in_err-line.ensures.fault c.in_err-line.ensures.deaf)

pub returns-in_default-clause-went : goal.returns-in_default-clause-went
returns-in_default-clause-went g c =
    went_out g.P.Peer.does (session (g.S.Server.shows c.args.server.now) c.args.client.now) c.args.peer.now c.hear.new.self
    (hearing c.in_ok-line.field-0) c.in_ok-line.ensures.heard (ap hearing c.in_default.is)

pub returns-clause-went : goal.returns-clause-went
returns-clause-went g c =
    let old = g.S.Server.shows c.args.server.now in
    let read = g.S.Server.shows c.hand_state.new.server in
    let last = session (g.S.Server.shows c.serve_line.new.server) c.serve_line.new.client in
    let line = line_heard c.in-Some.line in
    let event = hearing c.in_ok-line.field-0 in
    let served = c.in_ok-serve_line.ensures.served in
    went_on g.P.Peer.does (session old c.args.client.now) last c.args.peer.now c.hand_state.new.peer c.serve_line.new.peer event line
    (c.hand_state.ensures.same event c.args.peer.now c.in_ok-line.ensures.heard) (ap hearing c.in-Some.is)
    (served.0, replied_from old read c.args.client.now line last served.0 c.hand_state.ensures.joins served.1, served.2)

pub returns-in_err-serve_line-clause-broke : goal.returns-in_err-serve_line-clause-broke
returns-in_err-serve_line-clause-broke g c =
    let old = g.S.Server.shows c.args.server.now in
    let read = g.S.Server.shows c.hand_state.new.server in
    let line = line_heard c.in-Some.line in
    let event = hearing c.in_ok-line.field-0 in
    let fault = c.in_err-serve_line.field-0.0 in
    passed_up c.from_residual-in_err-serve_line.result fault _ c.from_residual-in_err-serve_line.ensures.1
    (broke_after g.P.Peer.does fault (session old c.args.client.now) event line c.args.peer.now c.hand_state.new.peer c.serve_line.new.peer
    (c.hand_state.ensures.same event c.args.peer.now c.in_ok-line.ensures.heard) (ap hearing c.in-Some.is)
    (broke_from g.P.Peer.does fault old read c.args.client.now line c.hand_state.new.peer c.serve_line.new.peer c.hand_state.ensures.joins c.in_err-serve_line.ensures.broke))
