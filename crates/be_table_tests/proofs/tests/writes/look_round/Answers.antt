use Rattle.std.proofs.Common.{ap, inr, ◌∙◌}
use Rattle.be_table.specs.declared.pass.Knowledge.{Knowledge}
use Rattle.be_table.specs.Trace.{upto_lock}
use Rattle.be_table.proofs.Worked.{upto_now}
use Rattle.be_table_tests.proofs.tests.writes.look_round.Goals as goal

pub scan-requires-clause-reason : goal.scan-requires-clause-reason
scan-requires-clause-reason c =
    let a = c.requires.begun.0 in let t = c.requires.begun.1 in let w = c.args.writing.now.knows in
    inr (ap (λ k. upto_lock k w.history) (ap (λ (x : Knowledge). x.number) t.same) ∙ upto_now a.number a.history w.history t.moves.made)
