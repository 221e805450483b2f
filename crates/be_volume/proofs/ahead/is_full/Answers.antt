use Rattle.std.proofs.Common.{◌∙◌}
use Rattle.be_volume.proofs.RefusalLemmas.{not_full}
use Rattle.be_volume.proofs.ahead.is_full.Goals as goal

pub returns-else-may_be_full-clause-answer : goal.returns-else-may_be_full-clause-answer
returns-else-may_be_full-clause-answer g c = c.if-may_be_full.false ∙ not_full _ (c.may_be_full.ensures.few c.if-may_be_full.false)
