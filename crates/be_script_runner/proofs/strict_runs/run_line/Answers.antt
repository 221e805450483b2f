use Rattle.std.proofs.Common.{◌≡◌, ◌∙◌}
use Rattle.be_script_language.specs.View.{request_of, reply_of}
use Rattle.be_script_runner.specs.View.{session}
use Rattle.be_script_runner.proofs.RunLemmas.{always_err, front_of_reply, none_of_line, none_of_reply}
use Rattle.be_script_runner.proofs.strict_runs.run_line.Goals as goal

pub returns-in_default-clause-err : goal.returns-in_default-clause-err
returns-in_default-clause-err g c = none_of_line (session (g.S.Server.shows c.args.server.now) c.args.client.now) c.args.line.now (g.W.Write.contents c.args.writer.now)

pub returns-in_default-reply_text-clause-err : goal.returns-in_default-reply_text-clause-err
returns-in_default-reply_text-clause-err g c =
    none_of_reply (session (g.S.Server.shows c.args.server.now) c.args.client.now) (session (g.S.Server.shows c.answer-reply.new.server) c.answer-reply.new.client)
    c.args.line.now (request_of c.in-Ok.request) (reply_of c.answer-reply.result) (g.W.Write.contents c.args.writer.now) c.in-Ok.ensures c.answer-reply.ensures.replies

pub returns-in_err-put-clause-err : goal.returns-in_err-put-clause-err
returns-in_err-put-clause-err g c = always_err c.from_residual.result (
    front_of_reply (session (g.S.Server.shows c.args.server.now) c.args.client.now) (session (g.S.Server.shows c.answer-reply.new.server) c.answer-reply.new.client)
    c.args.line.now c.as_bytes.result.now (request_of c.in-Ok.request) (reply_of c.answer-reply.result)
    (g.W.Write.contents c.args.writer.now) (g.W.Write.contents c.put.new.writer) c.in-Ok.ensures c.answer-reply.ensures.replies
    (c.as_bytes.ensures.value ∙ c.in-Ok-reply_text.ensures) c.in_err-put.ensures.err)
