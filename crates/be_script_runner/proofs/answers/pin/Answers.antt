use Rattle.std.proofs.Common.{◌∙◌, sym}
use Rattle.be_script_language.specs.Reply.{already_pinned}
use Rattle.be_script_language.specs.Request.{pin}
use Rattle.be_script_runner.specs.View.{session, queue}
use Rattle.be_script_runner.proofs.ReplyLemmas.{no_pin, pinned_already, pinned_now, serves_at_once}
use Rattle.be_script_runner.proofs.answers.pin.Goals as goal

pub returns-then-is_pinned-clause-replies : goal.returns-then-is_pinned-clause-replies
returns-then-is_pinned-clause-replies g c = λ client.
    let s = session (g.S.Server.shows c.args.server.now) client in
    serves_at_once s s pin already_pinned (pinned_already s (sym c.if-is_pinned.true ∙ c.is_pinned.ensures))

pub returns-clause-replies : goal.returns-clause-replies
returns-clause-replies g c = λ client.
    let old = g.S.Server.shows c.args.server.now in
    pinned_now old (g.S.Server.shows c.pin.new.self) (queue client) client.live c.pin.result (no_pin old.pin (sym c.if-is_pinned.false ∙ c.is_pinned.ensures)) c.pin.ensures.pins
