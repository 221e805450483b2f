use Rattle.std.proofs.Common.{subst}
use Rattle.be_script_language.specs.Request.{Request}
use Rattle.be_script_language.specs.View.{reply_of}
use Rattle.be_script_runner.specs.Output.{Serves}
use Rattle.be_script_runner.specs.View.{session}
use Rattle.be_shell.proofs.conversations.reply_to.Goals as goal

pub returns-in-Ok-reply_text-clause-reply : goal.returns-in-Ok-reply_text-clause-reply
returns-in-Ok-reply_text-clause-reply g c =
    let s = session (g.S.Server.shows c.args.server.now) c.args.client.now in
    let after = session (g.S.Server.shows c.answer-reply.new.server) c.answer-reply.new.client in (
      reply_of c.answer-reply.result,
      subst (λ (q : Request). Serves s q (reply_of c.answer-reply.result) after) c.in-Ok.ensures c.answer-reply.ensures.replies,
      c.in-Ok-reply_text.ensures,
    )
