use Rattle.std.proofs.Common.{List, ℕ, sym, subst}
use Rattle.std.specs.String.{string_bytes}
use Rattle.be_script_runner.specs.View.{session}
use Rattle.be_shell.specs.Conversation.{RepliedTo, line_heard}
use Rattle.be_shell.proofs.TalkLemmas.{cut_off, passed_up, unanswered}
use Rattle.be_shell.proofs.conversations.serve_line.Goals as goal

pub returns-clause-served : goal.returns-clause-served
returns-clause-served g c =
    let s = session (g.S.Server.shows c.args.server.now) c.args.client.now in
    let after = session (g.S.Server.shows c.reply_to.new.server) c.reply_to.new.client in (
      c.as_bytes.result.now,
      subst (λ (z : List ℕ). RepliedTo s (line_heard c.args.line.now) after z) (sym c.as_bytes.ensures.value) c.in_ok-reply.ensures.reply,
      c.in_ok-send.ensures.reported,
    )

pub returns-in_err-send-clause-broke : goal.returns-in_err-send-clause-broke
returns-in_err-send-clause-broke g c =
    passed_up c.from_residual-in_err-send.result c.in_err-send.field-0.0 _ c.from_residual-in_err-send.ensures.1
    (cut_off g.P.Peer.does c.in_err-send.field-0.0 (session (g.S.Server.shows c.args.server.now) c.args.client.now)
    (session (g.S.Server.shows c.reply_to.new.server) c.reply_to.new.client) (line_heard c.args.line.now) (string_bytes c.in_ok-reply.reply) c.as_bytes.result.now
    c.args.peer.now c.send.new.peer c.as_bytes.ensures.value c.in_ok-reply.ensures.reply c.in_err-send.ensures.cut)

pub returns-in_err-reply-clause-broke : goal.returns-in_err-reply-clause-broke
returns-in_err-reply-clause-broke g c =
    passed_up c.from_residual.result c.in_err-reply.field-0.0 _ c.from_residual.ensures.1
    (unanswered g.P.Peer.does c.in_err-reply.field-0.0 (session (g.S.Server.shows c.args.server.now) c.args.client.now) (line_heard c.args.line.now) c.args.peer.now c.in_err-reply.ensures.fault)
