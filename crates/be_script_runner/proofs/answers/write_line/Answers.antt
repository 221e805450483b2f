use Rattle.std.proofs.Common.{inl, refl, sym, subst}
use Rattle.std.specs.Prelude.{Result}
use Rattle.be_value.specs.declared.refusals.Refusal.{Refusal}
use Rattle.be_volume.specs.declared.ops.Op.{Op}
use Rattle.be_script_runner.specs.Output.{Replies, Serves}
use Rattle.be_script_language.specs.Reply.{refused}
use Rattle.be_script_language.specs.Request.{write}
use Rattle.be_script_language.specs.View.{reply_of}
use Rattle.be_script_runner.specs.View.{session}
use Rattle.be_script_runner.proofs.ReplyLemmas.{serves_at_once}
use Rattle.be_script_runner.proofs.answers.write_line.Goals as goal

pub returns-in-Ok-clause-replies : goal.returns-in-Ok-clause-replies
returns-in-Ok-clause-replies g c =
    subst (λ (op : Result Op Refusal). Serves (session (g.S.Server.shows c.args.server.now) c.args.client.now) (write op) (reply_of c.take.result)
    (session (g.S.Server.shows c.take.new.server) c.take.new.client)) (sym c.in-Ok.is) c.take.ensures.replies

pub returns-in-Err-clause-replies : goal.returns-in-Err-clause-replies
returns-in-Err-clause-replies g c =
    let s = session (g.S.Server.shows c.args.server.now) c.args.client.now in
    serves_at_once s s (write c.args.op) (refused c.in-Err.refusal)
    (subst (λ (op : Result Op Refusal). Replies s (write op) (refused c.in-Err.refusal) s) (sym c.in-Err.is) (inl refl))
