use Rattle.std.proofs.Common.{IfOk, subst}
use Rattle.std.specs.Prelude.{OnOk}
use Rattle.be_script_runner.specs.Gates.{AreReported, line_count}
use Rattle.be_script_runner.specs.Race.{IsOutcome}
use Rattle.be_script_runner.proofs.races.fn.start.spawn_with.Goals as goal

pub returns : goal.returns
returns g c =
    let limits = c.captures.store.now.limits in
    let k = c.captures.pass.knows.number in
    record {
      pass = c.serve_new.ensures.pass;
      number = c.serve_new.ensures.number;
      replies = subst (λ bytes. IfOk c.serve_new.result.1 (λ replies. IsOutcome limits k bytes c.serve_new.result.0.knows replies.items)) c.deref.ensures.value c.serve_new.ensures.replies;
      reported = subst (λ bytes. OnOk c.serve_new.result.1 (AreReported (g.G.Gate.begun c.captures.gate.now k) (g.G.Gate.ended c.captures.gate.now k) (line_count bytes)))
          c.deref.ensures.value c.serve_new.ensures.reported;
    }
