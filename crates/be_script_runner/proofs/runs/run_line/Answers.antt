use Rattle.std.proofs.Common.{◌≡◌, ◌∙◌}
use Rattle.be_script_language.specs.View.{request_of, reply_of}
use Rattle.be_script_runner.specs.View.{session}
use Rattle.be_script_runner.proofs.RunLemmas.{none_of_line, none_of_reply, front_of_reply, is_not_memory, on_err}
use Rattle.be_script_runner.proofs.runs.run_line.Goals as goal

pub returns-in_default-clause-err : goal.returns-in_default-clause-err
returns-in_default-clause-err g c = none_of_line (session (g.S.Server.shows c.args.server.now) c.args.client.now) c.args.line.now (g.W.Write.contents c.args.writer.now)

pub returns-in_default-reply_text-clause-err : goal.returns-in_default-reply_text-clause-err
returns-in_default-reply_text-clause-err g c =
    none_of_reply (session (g.S.Server.shows c.args.server.now) c.args.client.now) (session (g.S.Server.shows c.answer-reply.new.server) c.answer-reply.new.client)
    c.args.line.now (request_of c.in-Ok.request) (reply_of c.answer-reply.result) (g.W.Write.contents c.args.writer.now) c.in-Ok.ensures c.answer-reply.ensures.replies

pub returns-clause-err : goal.returns-clause-err
returns-clause-err g c = on_err c.put.result (λ w.
    front_of_reply (session (g.S.Server.shows c.args.server.now) c.args.client.now) (session (g.S.Server.shows c.answer-reply.new.server) c.answer-reply.new.client)
    c.args.line.now c.as_bytes.result.now (request_of c.in-Ok.request) (reply_of c.answer-reply.result)
    (g.W.Write.contents c.args.writer.now) (g.W.Write.contents c.put.new.writer) c.in-Ok.ensures c.answer-reply.ensures.replies
    (c.as_bytes.ensures.value ∙ c.in-Ok-reply_text.ensures) w) c.put.ensures.err

pub returns-clause-whole : goal.returns-clause-whole
returns-clause-whole g c = is_not_memory c.put.result (g.W.Write.contents c.put.new.writer ≡ g.W.Write.contents c.args.writer.now) c.put.ensures.fault
