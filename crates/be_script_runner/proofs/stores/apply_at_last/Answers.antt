use Rattle.std.proofs.Common.{◌∙◌, subst, sym}
use Rattle.be_store.specs.Passes.{IsBetweenCalls}
use Rattle.be_table.specs.Setting.{Setting}
use Rattle.be_script_runner.proofs.CallLemmas.{writes_call}
use Rattle.be_script_runner.proofs.PassLemmas.{last_reason, same_number, writes_meanwhile}
use Rattle.be_script_runner.proofs.stores.apply_at_last.Goals as goal

pub returns-clause-writes : goal.returns-clause-writes
returns-clause-writes c =
    writes_meanwhile c.args.pass.now.knows c.apply_or_retry-answer.new.pass.knows c.is_pass.ensures c.is_pass-2.ensures (c.apply_or_retry-answer.ensures.pass.0.2 ∙ sym c.requires.pass.0.2)
    10000000 (λ dones. dones.items) c.args.ops.now c.apply_or_retry-answer.result
    (subst (λ (l : Setting). IsBetweenCalls l.passes c.apply_or_retry-answer.new.pass.knows.phase) (sym c.apply_or_retry-answer.ensures.pass.0.2) c.apply_or_retry-answer.ensures.pass.1)
    c.apply_or_retry-answer.ensures.accepted c.apply_or_retry-answer.ensures.refused

pub returns-clause-number : goal.returns-clause-number
returns-clause-number c =
    same_number c.args.pass.now.knows c.apply_or_retry-answer.new.pass.knows 10000000 (λ dones. dones.items) c.args.ops.now
    c.apply_or_retry-answer.result c.apply_or_retry-answer.ensures.accepted c.apply_or_retry-answer.ensures.refused

pub returns-clause-tries : goal.returns-clause-tries
returns-clause-tries c =
    last_reason c.args.pass.now.knows c.apply_or_retry-answer.new.pass.knows 10000000 c.args.ops.now c.apply_or_retry-answer.result c.apply_or_retry-answer.ensures.refused

pub returns-clause-call : goal.returns-clause-call
returns-clause-call c =
    writes_call c.args.pass.now.knows c.apply_or_retry-answer.new.pass.knows 10000000 (λ dones. dones.items) c.args.ops.now
    c.apply_or_retry-answer.result c.apply_or_retry-answer.ensures.accepted c.apply_or_retry-answer.ensures.refused
