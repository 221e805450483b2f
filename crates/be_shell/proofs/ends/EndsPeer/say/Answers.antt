use Rattle.std.proofs.Common.{refl}
use Rattle.be_script_runner.proofs.RunLemmas.{on_err, on_ok}
use Rattle.be_shell.proofs.ends.EndsPeer.say.Goals as goal

pub returns-clause-said : goal.returns-clause-said
returns-clause-said g c = on_ok c.put.result (λ h. (refl, h)) c.put.ensures.ok

pub returns-clause-cut : goal.returns-clause-cut
returns-clause-cut g c = on_err c.put.result (λ w. (w.out, w.is, (refl, w.appended))) c.put.ensures.err
