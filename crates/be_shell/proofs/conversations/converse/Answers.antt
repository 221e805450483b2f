use Rattle.std.proofs.Common.{refl, ◌∙◌, arith}
use Rattle.be_script_runner.specs.View.{session}
use Rattle.be_shell.proofs.TalkLemmas.{at_end, broken_is_other, broken_off, none_yet, one_more, passed_up, uncounted}
use Rattle.be_shell.proofs.conversations.converse.Goals as goal

pub loop-lines-init : goal.loop-lines-init
loop-lines-init g c = record {
  few = c.requires.few;
  stays = refl;
  so_far = none_yet g.P.Peer.does (session (g.S.Server.shows c.args.server.now) c.args.client.now) c.args.peer.now;
}

pub loop-lines-preserved : goal.loop-lines-preserved
loop-lines-preserved g c = record {
  few = c.exchange.ensures.few;
  stays = c.exchange.ensures.stays ∙ c.loop-lines.invariant.stays;
  so_far = one_more g.P.Peer.does c.loop-lines._lines (session (g.S.Server.shows c.args.server.now) c.args.client.now)
      (session (g.S.Server.shows c.loop-lines.server) c.loop-lines.client)
      (session (g.S.Server.shows c.exchange.new.server) c.exchange.new.client) c.args.peer.now c.loop-lines.peer c.exchange.new.peer c.in_ok-more.more
      c.loop-lines.invariant.so_far c.in_ok-more.ensures.went c.if-not-more.false;
}

pub returns-then-not-more-clause-talked : goal.returns-then-not-more-clause-talked
returns-then-not-more-clause-talked g c =
    at_end g.P.Peer.does c.loop-lines._lines (session (g.S.Server.shows c.args.server.now) c.args.client.now)
    (session (g.S.Server.shows c.loop-lines.server) c.loop-lines.client)
    (session (g.S.Server.shows c.exchange.new.server) c.exchange.new.client) c.args.peer.now c.loop-lines.peer c.exchange.new.peer c.in_ok-more.more
    c.loop-lines.invariant.so_far c.in_ok-more.ensures.went c.if-not-more.true

pub returns-in_err-more-clause-broke : goal.returns-in_err-more-clause-broke
returns-in_err-more-clause-broke g c =
    passed_up c.from_residual.result c.in_err-more.field-0.0 _ c.from_residual.ensures.1
    (broken_off g.P.Peer.does c.in_err-more.field-0.0 c.loop-lines._lines (session (g.S.Server.shows c.args.server.now) c.args.client.now)
    (session (g.S.Server.shows c.loop-lines.server) c.loop-lines.client)
    c.args.peer.now c.loop-lines.peer c.exchange.new.peer c.loop-lines.invariant.so_far c.in_err-more.ensures.broke)

pub returns-clause-broke : goal.returns-clause-broke
returns-clause-broke g c =
    uncounted g.P.Peer.does c.loop-lines._lines (session (g.S.Server.shows c.args.server.now) c.args.client.now)
    (session (g.S.Server.shows c.loop-lines.server) c.loop-lines.client)
    c.args.peer.now c.loop-lines.peer c.loop-lines.invariant.so_far (omega arith)

pub returns-in_err-more-clause-other : goal.returns-in_err-more-clause-other
returns-in_err-more-clause-other g c =
    let broke = c.in_err-more.ensures.broke in
    passed_up c.from_residual.result c.in_err-more.field-0.0 _ c.from_residual.ensures.1
    (broken_is_other c.in_err-more.field-0.0 (session (g.S.Server.shows c.loop-lines.server) c.loop-lines.client) broke.0 broke.1)
