use Rattle.be_paged_reading.proofs.Stored.UsedWords as used
use Rattle.be_paged.proofs.encoding.one_encoding.Goals as goal

pub returns : goal.returns
returns c = used.one_encoding
