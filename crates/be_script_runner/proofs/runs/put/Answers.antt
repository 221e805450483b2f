use Rattle.std.proofs.Common.{◌++◌, sym, ap, ◌∙◌, take}
use Rattle.std.proofs.lemmas.List.{take-append-drop}
use Rattle.be_script_runner.proofs.RunLemmas.{more_written}
use Rattle.be_script_runner.proofs.runs.put.Goals as goal

pub loop-rest-preserved : goal.loop-rest-preserved
loop-rest-preserved g c =
    let left = c.loop-rest.rest.now in
    more_written (g.W.Write.contents c.args.writer.now) (g.W.Write.contents c.loop-rest.writer) (g.W.Write.contents c.write.new.self)
    c.args.bytes.now left (take c.in-Ok.n left) c.split_at.result.1.now c.loop-rest.invariant c.in-Ok.ensures.bytes
    (sym (take-append-drop c.in-Ok.n left) ∙ ap (λ z. take c.in-Ok.n left ++ z) (sym c.split_at.ensures.back))
