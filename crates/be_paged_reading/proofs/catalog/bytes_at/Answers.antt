use Rattle.std.proofs.Common.{◌∙◌}
use Rattle.be_paged_reading.proofs.catalog.bytes_at.Goals as goal

pub returns-clause-bytes : goal.returns-clause-bytes
returns-clause-bytes g c = λ k bytes le is. c.bytes_of.ensures k bytes le (c.deref.ensures.0 ∙ c.fill_payload.ensures.payload ∙ is)
