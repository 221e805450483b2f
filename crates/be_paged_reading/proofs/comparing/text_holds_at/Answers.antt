use Rattle.std.proofs.Common.{◌∙◌}
use Rattle.be_paged_reading.proofs.comparing.text_holds_at.Goals as goal

pub returns-clause-holds : goal.returns-clause-holds
returns-clause-holds g c = λ k t ok utf is. c.payload_holds.ensures k t utf (c.deref.ensures.0 ∙ c.fill_payload.ensures.payload ∙ is)
