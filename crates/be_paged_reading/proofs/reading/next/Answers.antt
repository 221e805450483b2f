use Rattle.std.proofs.Common.{◌∙◌}
use Rattle.be_paged_reading.proofs.reading.next.Goals as goal

pub returns-clause-next : goal.returns-clause-next
returns-clause-next g c = λ volume version. c.word.ensures.value ∙ version.encodes.next
