use Rattle.std.proofs.Common.{◌∙◌, List, ap}
use Rattle.be_volume.specs.declared.ops.Done.{Done}
use Rattle.be_script_runner.specs.Output.{done_reply}
use Rattle.be_script_language.specs.View.{reply_of}
use Rattle.be_script_runner.proofs.ReplyLemmas.{write_accepted, write_refused}
use Rattle.be_script_runner.proofs.answers.write.Goals as goal

pub returns-in-Ok-clause-replies : goal.returns-in-Ok-clause-replies
returns-in-Ok-clause-replies g c = λ live.
    write_accepted (λ dones. dones.items) (g.S.Server.shows c.args.server.now) (g.S.Server.shows c.apply.new.self) live c.args.op c.in-Ok.field-0-0 c.in-Ok.dones
    (reply_of c.done_reply.result) (c.done_reply.ensures ∙ ap done_reply c.as_slice.ensures.value) c.in-Ok.ensures.writes

pub returns-in-Err-clause-replies : goal.returns-in-Err-clause-replies
returns-in-Err-clause-replies g c = λ live.
    write_refused (λ (dones : List Done). dones) (g.S.Server.shows c.args.server.now) (g.S.Server.shows c.apply.new.self) live c.args.op c.in-Err.refusal c.in-Err.ensures.writes
