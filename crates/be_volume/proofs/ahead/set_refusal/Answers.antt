use Rattle.std.proofs.Common.{sym, ◌∙◌}
use Rattle.be_volume.specs.Ahead.{state_after}
use Rattle.be_volume.proofs.RefusalLemmas.{set_again}
use Rattle.be_volume.proofs.ahead.set_refusal.Goals as goal

pub returns-then-has_attribute-clause-answer : goal.returns-then-has_attribute-clause-answer
returns-then-has_attribute-clause-answer g c =
    set_again (state_after g.volume c.args.before.now) c.args.node c.args.name.now c.args.value.now (sym c.has_attribute.ensures.answer ∙ c.if-has_attribute.true)
