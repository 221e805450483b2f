use Rattle.std.proofs.Common.{◌∙◌}
use Rattle.be_paged_reading.proofs.catalog.text_at.Goals as goal

pub returns-clause-text : goal.returns-clause-text
returns-clause-text g c = λ k t ok utf is. c.text_of.ensures k t ok utf (c.deref.ensures.0 ∙ c.fill_payload.ensures.payload ∙ is)
