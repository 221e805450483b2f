use Rattle.std.proofs.Common.{Ok, Some, sym, subst}
use Rattle.be_script_runner.specs.Output.{Replies, Serves}
use Rattle.be_script_language.specs.Request.{write}
use Rattle.be_script_language.specs.View.{reply_of}
use Rattle.be_script_runner.specs.View.{session}
use Rattle.be_script_runner.proofs.ReplyLemmas.{serves_at_once}
use Rattle.be_script_runner.proofs.answers.take.Goals as goal

pub returns-in-Some-clause-replies : goal.returns-in-Some-clause-replies
returns-in-Some-clause-replies g c =
    let store = g.S.Server.shows c.args.server.now in
    let after = session store (record c.args.client.now { batch = Some c.enqueue.new.ops }) in
    serves_at_once (session store c.args.client.now) after (write (Ok c.args.op)) (reply_of c.enqueue.result)
    (subst (λ b. Replies (session store (record c.args.client.now { batch = b })) (write (Ok c.args.op)) (reply_of c.enqueue.result) after) (sym c.in-Some.is)
    (c.enqueue.ensures.replies store c.args.client.now.live))

pub returns-in-None-clause-replies : goal.returns-in-None-clause-replies
returns-in-None-clause-replies g c =
    subst (λ b. Serves (session (g.S.Server.shows c.args.server.now) (record c.args.client.now { batch = b })) (write (Ok c.args.op)) (reply_of c.write.result)
    (session (g.S.Server.shows c.write.new.server) (record c.args.client.now { batch = b }))) (sym c.in-None.is) (c.write.ensures.replies c.args.client.now.live)
