use Rattle.std.specs.Prelude.{Result, Ok, Err, IfErr}
use Rattle.be_value.specs.declared.refusals.Refusal.{Refusal}
use Rattle.be_script_runner.specs.Store.{MayWrite}
use Rattle.be_script_runner.proofs.JoinLemmas.{at_once}
use Rattle.be_script_tests.proofs.tests.plain.PlainStoreServer.apply.Goals as goal

pub returns-clause-writes : goal.returns-clause-writes
returns-clause-writes c = at_once c.args.self.now (λ store. MayWrite (λ dones. dones.items) store c.args.ops.now c.write.result c.write.new.self) c.write.ensures

any_refusal : {X : Type 0} (r : Result X Refusal) → IfErr r (λ e. Unit {0})
any_refusal (Ok x) = tt
any_refusal (Err e) = tt

pub returns-clause-reason : goal.returns-clause-reason
returns-clause-reason c = any_refusal c.write.result
