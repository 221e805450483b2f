use Rattle.std.proofs.Common.{Option, Some, sym, subst}
use Rattle.be_store.specs.Live.{LiveQuery}
use Rattle.be_script_runner.specs.Output.{Session, MayReply, refreshing}
use Rattle.be_script_language.specs.Request.{refresh}
use Rattle.be_script_language.specs.View.{reply_of}
use Rattle.be_script_runner.specs.View.{session, queue}
use Rattle.be_script_runner.proofs.answers.refresh.Goals as goal

pub returns-in-Some-clause-replies : goal.returns-in-Some-clause-replies
returns-in-Some-clause-replies g c =
    let with : Option LiveQuery → Session = λ l. record { store = g.S.Server.shows c.update.new.server; batch = queue c.args.client.now; live = l } in
    subst (λ (l : Option LiveQuery). MayReply (with l) refresh (refreshing (with l) l) (reply_of c.update.result)
    (session (g.S.Server.shows c.update.new.server) (record c.args.client.now { live = Some c.update.new.live }))) (sym c.in-Some.is)
    (c.update.ensures.replies (queue c.args.client.now))
